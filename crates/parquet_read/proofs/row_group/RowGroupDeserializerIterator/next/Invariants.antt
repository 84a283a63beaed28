use Rattle.parquet_read.proofs.row_group.RowGroupDeserializerIterator.next.Given as goal

abbrev pub ghosts-next_alone : goal.ghosts-next_alone
ghosts-next_alone a = record { name = a.blank.name; parts = a.blank.parts }

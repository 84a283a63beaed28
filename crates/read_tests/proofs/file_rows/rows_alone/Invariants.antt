use Rattle.read_tests.proofs.file_rows.rows_alone.Given as goal

abbrev pub ghosts-next_rows : goal.ghosts-next_rows
ghosts-next_rows a = record { name = a.blank.name; parts = a.blank.parts }

use Rattle.parquet_plain.specs.Columns.{end_bytes}
use Rattle.put_program.proofs.LoopLemmas.{AreWritten}
use Rattle.put_program.proofs.numbers.NumbersItems.write_values.Given as goal

abbrev pub invariant-loop-row : goal.invariant-loop-row
invariant-loop-row g l = AreWritten (end_bytes g.T.StoredNumber.type_) g.T.StoredNumber.stored l.self.array.now.items l.initial.body.items l.body.items l.from l.row

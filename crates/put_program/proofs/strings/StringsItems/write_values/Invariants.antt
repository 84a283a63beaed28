use Rattle.parquet_page.specs.Stored.{Octets, Stored}
use Rattle.parquet_plain.specs.Bodies.{octets_of, with_length}
use Rattle.put_program.proofs.LoopLemmas.{AreWritten}
use Rattle.put_program.proofs.strings.StringsItems.write_values.Given as goal

abbrev pub invariant-loop-row : goal.invariant-loop-row
invariant-loop-row g l = AreWritten (λ (value : Stored). with_length (octets_of value)) Octets l.self.array.now.items l.initial.body.items l.body.items l.from l.row

use Rattle.parquet_page.specs.Stored.{Octets}
use Rattle.parquet_plain.specs.Bodies.{octets_of}
use Rattle.put_program.proofs.LoopLemmas.{AreWritten}
use Rattle.put_program.proofs.strings.FixedBytesItems.write_values.Given as goal

abbrev pub invariant-loop-row : goal.invariant-loop-row
invariant-loop-row l = AreWritten octets_of Octets l.self.array.now.items l.initial.body.items l.body.items l.from l.row

use Rattle.std.proofs.Common.{map}
use Rattle.parquet_page.specs.Stored.{Truth}
use Rattle.parquet_plain.specs.Bodies.{truth_in}
use Rattle.put_program.proofs.LoopLemmas.{rows_stored}
use Rattle.put_program.proofs.PackLemmas.{Holds}
use Rattle.put_program.proofs.truths.TruthsItems.write_values.Given as goal

abbrev pub invariant-loop-row : goal.invariant-loop-row
invariant-loop-row l = Holds l.initial.body.items l.body.items (map truth_in (rows_stored Truth l.self.array.now.items l.from l.row)) l.byte l.weight

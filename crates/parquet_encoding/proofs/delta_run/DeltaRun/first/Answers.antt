use Rattle.std.proofs.Common.{◌+◌, ◌*◌, ◌∙◌, ap, arith, FitsSigned, rules}
use Rattle.std.specs.Int.{w64}
use Rattle.parquet_encoding.specs.Sums.{number_behind}
use Rattle.parquet_encoding.proofs.SumLemmas.{same_number, by_least}
use Rattle.parquet_encoding.proofs.DeltaRunLemmas.{one_passed, none_passed, take-deltas}
use Rattle.parquet_encoding.proofs.delta_run.DeltaRun.first.Goals as goal

pub returns : goal.returns
returns c =
    let run = c.args.self.now in
    let fits : FitsSigned w64 run.least = search rules in
    let start = 8 * run.place + run.bit in
    let value = c.args.value in
    let step = by_least _ _ _ _ _ c.added.ensures (same_number run.least fits) in
    same_number c.added.result (record { sfits = c.added.type_inv })
    ∙ one_passed value run.least _ c.added.result c.args.bytes.now run.width start 0 1 c.wide_at.result start
    (same_number value c.ranges.value ∙ none_passed value run.least c.args.bytes.now run.width start 0 (omega arith)) (omega arith) (omega arith) c.wide_at.ensures step
    ∙ ap (number_behind value) (take-deltas run.least c.args.bytes.now run.width start 1 run.count (omega arith))

use Rattle.std.proofs.Common.{◌∙◌, ap, take, arith}
use Rattle.parquet_encoding.specs.Sums.{number_behind}
use Rattle.parquet_encoding.specs.DeltaWalk.{deltas}
use Rattle.parquet_encoding.proofs.SumLemmas.{same_number}
use Rattle.parquet_encoding.proofs.WalkLemmas.{of_some}
use Rattle.parquet_encoding.proofs.RunningLemmas.{behind_left}
use Rattle.parquet_encoding.proofs.delta_binary.next_value.Goals as goal

pub returns : goal.returns
returns c =
    let own = deltas c.args.walk.now c.args.bytes.now in
    let long = of_some _ _ c.requires (c.left.ensures.length c.args.bytes.now) in
    behind_left c.args.value _ own _ 1 (omega arith) (same_number c.pass_one.result (record { sfits = c.pass_one.type_inv }) ∙ c.pass_one.ensures.behind ∙ ap (λ v. number_behind v (take 1 own)) (same_number c.args.value c.ranges.value)) c.pass_one.ensures.rest

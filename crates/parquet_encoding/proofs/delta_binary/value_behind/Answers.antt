use Rattle.std.proofs.Common.{◌∙◌, ap, take, Some, arith}
use Rattle.parquet_encoding.specs.Sums.{number_behind}
use Rattle.parquet_encoding.specs.DeltaWalk.{deltas}
use Rattle.parquet_encoding.proofs.SumLemmas.{same_number}
use Rattle.parquet_encoding.proofs.WalkLemmas.{of_some}
use Rattle.parquet_encoding.proofs.RunningLemmas.{behind_left, none_left}
use Rattle.parquet_encoding.proofs.delta_binary.value_behind.Goals as goal

pub returns-then-n-left : goal.returns-then-n-left
returns-then-n-left c =
    let own = deltas c.args.walk.now c.args.bytes.now in
    let long = of_some _ _ c.requires (c.left.ensures.length c.args.bytes.now) in
    ap Some (none_left c.args.value own c.args.n (omega arith))

pub returns : goal.returns
returns c =
    let own = deltas c.args.walk.now c.args.bytes.now in
    let long = of_some _ _ c.requires (c.left.ensures.length c.args.bytes.now) in
    behind_left c.args.value _ own _ c.args.n (omega arith) (same_number c.pass.result (record { sfits = c.pass.type_inv }) ∙ c.pass.ensures.behind ∙ ap (λ v. number_behind v (take c.args.n own)) (same_number c.args.value c.ranges.value)) c.pass.ensures.rest

use Rattle.std.proofs.Common.{◌≡◌, ◌+◌, ◌∙◌, ap, length, take, Some, arith}
use Rattle.std.proofs.lemmas.List.{length-take}
use Rattle.parquet_encoding.specs.Sums.{number_behind, numbers_before}
use Rattle.parquet_encoding.specs.DeltaWalk.{deltas}
use Rattle.parquet_encoding.proofs.SumLemmas.{same_number}
use Rattle.parquet_encoding.proofs.WalkLemmas.{of_some}
use Rattle.parquet_encoding.proofs.RunningLemmas.{behind_left, none_left, fewer_written, all_written, length-running}
use Rattle.parquet_encoding.proofs.delta_binary.write_values.Goals as goal

pub returns-then-room-left-clause-count : goal.returns-then-room-left-clause-count
returns-then-room-left-clause-count c =
    let own = deltas c.args.walk.now c.args.bytes.now in
    let long = of_some _ _ c.requires (c.left-left.ensures.length c.args.bytes.now) in
    omega (arith, length-running c.args.value own)

pub returns-then-room-left-clause-values : goal.returns-then-room-left-clause-values
returns-then-room-left-clause-values c =
    let own = deltas c.args.walk.now c.args.bytes.now in
    let long = of_some _ _ c.requires (c.left-left.ensures.length c.args.bytes.now) in
    fewer_written c.args.value own c.args.out.now _ (omega arith)
    (c.sums-behind.ensures.sums ∙ ap (λ v. numbers_before v (take (length c.args.out.now) own)) (same_number c.args.value c.ranges.value))

pub returns-then-room-left-clause-rest : goal.returns-then-room-left-clause-rest
returns-then-room-left-clause-rest c =
    let own = deltas c.args.walk.now c.args.bytes.now in
    let long = of_some _ _ c.requires (c.left-left.ensures.length c.args.bytes.now) in
    behind_left c.args.value _ own _ (length c.args.out.now) (omega arith)
    (same_number c.sums-behind.result (record { sfits = c.sums-behind.type_inv }) ∙ c.sums-behind.ensures.behind ∙ ap (λ v. number_behind v (take (length c.args.out.now) own)) (same_number c.args.value c.ranges.value))
    c.sums-behind.ensures.rest

pub sums-last-requires-clause-enough : goal.sums-last-requires-clause-enough
sums-last-requires-clause-enough c =
    let long = of_some _ _ c.requires (c.left-left.ensures.length c.args.bytes.now) in
    omega (arith, length-take c.left-left.result c.args.out.now)

pub returns-clause-count : goal.returns-clause-count
returns-clause-count c =
    let own = deltas c.args.walk.now c.args.bytes.now in
    let long = of_some _ _ c.requires (c.left-left.ensures.length c.args.bytes.now) in
    omega (arith, length-running c.args.value own)

pub returns-clause-values : goal.returns-clause-values
returns-clause-values c =
    let own = deltas c.args.walk.now c.args.bytes.now in
    let left = c.left-left.result in
    let long = of_some _ _ c.requires (c.left-left.ensures.length c.args.bytes.now) in
    let many : length (take left c.args.out.now) ≡ left = length-take left c.args.out.now ∙ omega arith in
    let same = same_number c.args.value c.ranges.value in
    let first = take (length (take left c.args.out.now)) own in
    all_written c.args.value _ own c.args.out.now c.sums-last.new.out left (length (take left c.args.out.now)) long c.if-room-left.false many
    (c.sums-last.ensures.sums ∙ ap (λ v. numbers_before v first) same)
    (same_number c.sums-last.result (record { sfits = c.sums-last.type_inv }) ∙ c.sums-last.ensures.behind ∙ ap (λ v. number_behind v first) same)

pub returns-clause-rest : goal.returns-clause-rest
returns-clause-rest c =
    let own = deltas c.args.walk.now c.args.bytes.now in
    let long = of_some _ _ c.requires (c.left-left.ensures.length c.args.bytes.now) in
    ap Some (none_left c.args.value own (c.left-left.result + 1) (omega arith))

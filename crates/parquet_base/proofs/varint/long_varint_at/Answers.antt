use Rattle.std.proofs.Common.{arith, ◌-◌}
use Rattle.parquet_base.proofs.EndLemmas.{IsEnd_behind}
use Rattle.parquet_base.proofs.VarintLemmas.{has_room, goes_on, finds, finds_none, too_large, is_spelled, tenth_fits}
use Rattle.parquet_base.proofs.varint.long_varint_at.Goals as goal
use Rattle.parquet_base.proofs.varint.long_varint_at.Goals.{in_default-split_first-via-in-Some-split_first+else-byte-lt2, in_default-split_first-via-in_default-split_first}

pub returns-in_default-clause-spelled : goal.returns-in_default-clause-spelled
returns-in_default-clause-spelled c = finds_none _ _ _ _ _ c.loop.invariant c.in_default.ensures.cases

pub overflow_mul-result : goal.overflow_mul-result
overflow_mul-result c = omega (arith, (has_room _ _ _ _ _ _ c.loop.invariant c.loop-test.true c.if-byte-lt128.true).part)

pub overflow_add-result : goal.overflow_add-result
overflow_add-result c = omega (arith, (has_room _ _ _ _ _ _ c.loop.invariant c.loop-test.true c.if-byte-lt128.true).whole)

pub returns-then-byte-lt128-clause-spelled : goal.returns-then-byte-lt128-clause-spelled
returns-then-byte-lt128-clause-spelled c =
    let room = has_room _ _ _ _ _ _ c.loop.invariant c.loop-test.true c.if-byte-lt128.true in
    is_spelled _ _ _ (finds _ _ _ _ _ _ _ c.loop.invariant (omega arith) c.in-Some.ensures.cases.0 c.if-byte-lt128.true) room.whole

pub returns-then-byte-lt128-clause-ends : goal.returns-then-byte-lt128-clause-ends
returns-then-byte-lt128-clause-ends c = IsEnd_behind _ _ _ _ c.loop.invariant.ends c.in-Some.ensures.cases.0

pub overflow_mul-number : goal.overflow_mul-number
overflow_mul-number c = omega (arith, (has_room _ _ _ _ (c.in-Some.byte.now - 128) _ c.loop.invariant c.loop-test.true (omega arith)).part)

pub overflow_add-number : goal.overflow_add-number
overflow_add-number c = omega (arith, (has_room _ _ _ _ (c.in-Some.byte.now - 128) _ c.loop.invariant c.loop-test.true (omega arith)).whole)

pub overflow_mul-scale : goal.overflow_mul-scale
overflow_mul-scale c = omega (arith, (has_room _ _ _ _ 0 _ c.loop.invariant c.loop-test.true (omega arith)).scales)

pub loop-preserved : goal.loop-preserved
loop-preserved c = goes_on _ _ _ _ _ _ _ c.loop.invariant c.loop-test.true c.in-Some.ensures.cases.0 c.if-byte-lt128.false (omega arith)

pub returns-in-Some-split_first-clause-spelled : goal.returns-in-Some-split_first-clause-spelled
returns-in-Some-split_first-clause-spelled c =
    let fits = tenth_fits _ _ _ _ _ _ c.loop.invariant c.loop-test.false c.if-byte-lt2.true in
    is_spelled _ _ _ (finds _ _ _ _ _ _ _ c.loop.invariant c.loop.invariant.few c.in-Some-split_first.ensures.cases.0 (omega arith)) fits

pub returns-in-Some-split_first-clause-ends : goal.returns-in-Some-split_first-clause-ends
returns-in-Some-split_first-clause-ends c = IsEnd_behind _ _ _ _ c.loop.invariant.ends c.in-Some-split_first.ensures.cases.0

pub returns-in_default-split_first-clause-spelled : goal.returns-in_default-split_first-clause-spelled
returns-in_default-split_first-clause-spelled c =
    elim c.in_default-split_first.branch [
      | in_default-split_first-via-in-Some-split_first+else-byte-lt2 w ↦
          too_large _ _ _ _ _ _ _ c.loop.invariant c.loop-test.false w.in-Some-split_first.ensures.cases.0 w.if-byte-lt2.false
      | in_default-split_first-via-in_default-split_first w ↦ finds_none _ _ _ _ _ c.loop.invariant w.in_default-split_first.ensures.cases
    ]

use Rattle.parquet_thrift.proofs.WalkLemmas as walks
use Rattle.parquet_thrift.proofs.skip.skip_part.Goals as goal

pub walk-init : goal.walk-init
walk-init c = walks.begins _ _ _ c.room_for-parts.ensures.length c.room_for-parts.ensures.first

pub returns-in_err-next-clause-spelled : goal.returns-in_err-next-clause-spelled
returns-in_err-next-clause-spelled c = walks.refuses _ _ _ c.from_residual.ensures.0 (walks.fails _ _ _ _ _ _ c.walk.invariant c.walk-test.true c.in_err-next.ensures.next)

pub walk-smaller-in_default : goal.walk-smaller-in_default
walk-smaller-in_default c =
    let pays = rw c.in_default.is at c.in_ok-next.ensures.pays in
    walks.closes_smaller _ _ _ _ _ _ _ c.walk.invariant c.walk-test.true pays

pub walk-preserved-in_default : goal.walk-preserved-in_default
walk-preserved-in_default c =
    let next = rw c.in_default.is at c.in_ok-next.ensures.next in
    walks.closes _ _ _ _ _ _ _ c.walk.invariant c.walk-test.true next c.in_ok-next.ensures.ends

pub returns-then-depth-eq-DEEPEST-clause-spelled : goal.returns-then-depth-eq-DEEPEST-clause-spelled
returns-then-depth-eq-DEEPEST-clause-spelled c =
    let next = rw c.in-Some.is at c.in_ok-next.ensures.next in
    walks.too_deep _ _ _ _ _ _ _ _ c.walk.invariant c.if-depth-eq-DEEPEST.true next

pub returns-in_err-begun-clause-spelled : goal.returns-in_err-begun-clause-spelled
returns-in_err-begun-clause-spelled c =
    let next = rw c.in-Some.is at c.in_ok-next.ensures.next in
    walks.refuses _ _ _ c.from_residual-in_err-begun.ensures.0
    (walks.begins_none _ _ _ _ _ _ _ _ c.walk.invariant c.walk-test.true c.if-depth-eq-DEEPEST.false next c.in_err-begun.ensures.begins)

pub walk-smaller-in-Some-begun : goal.walk-smaller-in-Some-begun
walk-smaller-in-Some-begun c =
    let pays = rw c.in-Some.is at c.in_ok-next.ensures.pays in
    let pays_begun = rw c.in-Some-begun.is at c.in_ok-begun.ensures.pays in
    walks.opens_smaller _ _ _ _ _ _ _ _ _ c.in-Some.next c.walk.invariant c.walk-test.true c.if-depth-eq-DEEPEST.false pays c.in_ok-next.ensures.ends pays_begun

pub walk-preserved-in-Some-begun : goal.walk-preserved-in-Some-begun
walk-preserved-in-Some-begun c =
    let next = rw c.in-Some.is at c.in_ok-next.ensures.next in
    let begins = rw c.in-Some-begun.is at c.in_ok-begun.ensures.begins in
    walks.opens _ _ _ _ _ _ _ _ _ _ c.walk.invariant c.walk-test.true c.if-depth-eq-DEEPEST.false next c.in_ok-next.ensures.ends begins c.in_ok-begun.ensures.ends

pub walk-smaller : goal.walk-smaller
walk-smaller c =
    let pays = rw c.in-Some.is at c.in_ok-next.ensures.pays in
    let pays_begun = rw c.in_default-begun.is at c.in_ok-begun.ensures.pays in
    walks.passes_smaller _ _ _ _ _ _ _ _ c.in-Some.next c.walk.invariant c.walk-test.true pays c.in_ok-next.ensures.ends pays_begun c.in_ok-begun.ensures.ends

pub walk-preserved : goal.walk-preserved
walk-preserved c =
    let next = rw c.in-Some.is at c.in_ok-next.ensures.next in
    let begins = rw c.in_default-begun.is at c.in_ok-begun.ensures.begins in
    walks.passes _ _ _ _ _ _ _ _ _ c.walk.invariant c.walk-test.true c.if-depth-eq-DEEPEST.false next c.in_ok-next.ensures.ends begins c.in_ok-begun.ensures.ends

pub returns-clause-spelled : goal.returns-clause-spelled
returns-clause-spelled c = walks.ended _ _ _ _ _ c.walk.invariant c.walk-test.false

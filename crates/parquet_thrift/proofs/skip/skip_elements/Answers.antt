use Rattle.parquet_thrift.proofs.ElementLemmas as passing
use Rattle.parquet_thrift.proofs.WalkLemmas.{refuses}
use Rattle.parquet_thrift.proofs.skip.skip_elements.Goals as goal

pub returns-in_err-begun-clause-spelled : goal.returns-in_err-begun-clause-spelled
returns-in_err-begun-clause-spelled c =
    refuses _ _ _ c.from_residual.ensures.0
    (passing.fails c.args.kind c.args.count c.args.bytes.now c.elements.passed c.elements.rest.now c.elements.invariant c.elements-test.true (c.in_err-begun.ensures.begins 30))

pub elements-preserved : goal.elements-preserved
elements-preserved c =
    let begins = rw c.in-None.is at c.in_ok-begun.ensures.begins in
    passing.goes_on c.args.kind c.args.count c.args.bytes.now c.elements.passed c.elements.rest.now c.in_ok-begun.after.now c.elements.invariant c.elements-test.true (begins 30) c.in_ok-begun.ensures.ends

pub returns-clause-spelled : goal.returns-clause-spelled
returns-clause-spelled c = passing.ended c.args.kind c.args.count c.args.bytes.now c.elements.passed c.elements.rest.now c.elements.invariant c.elements-test.false

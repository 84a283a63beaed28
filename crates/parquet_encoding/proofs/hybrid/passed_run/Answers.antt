use Rattle.std.proofs.Common.{arith}
use Rattle.parquet_encoding.proofs.HybridLemmas.{passes_opened}
use Rattle.parquet_encoding.proofs.hybrid.passed_run.Goals as goal

pub returns-in-Some-clause-ok : goal.returns-in-Some-clause-ok
returns-in-Some-clause-ok c =
    passes_opened c.args.bytes.now c.args.place c.args.width c.args.wanted c.len.result c.in-Some.opened (c.in-Some.ensures.opens c.args.wanted (omega arith)) c.len.ensures

pub returns-clause-ok : goal.returns-clause-ok
returns-clause-ok c =
    passes_opened c.args.bytes.now c.args.place c.args.width c.args.wanted c.len-2.result c.in_ok-opened.opened c.in_ok-opened.ensures.ok c.len-2.ensures

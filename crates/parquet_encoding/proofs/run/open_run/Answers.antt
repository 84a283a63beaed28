use Rattle.std.proofs.Common.{arith}
use Rattle.std.proofs.lemmas.Result.{IfOk-weaker, MatchResult-from_err, on_err_weaker}
use Rattle.parquet_encoding.proofs.RunLemmas.{opens_packed, opens_repeated, no_header, no_value}
use Rattle.parquet_encoding.proofs.run.open_run.Goals as goal

pub returns-in_err-header-clause-err : goal.returns-in_err-header-clause-err
returns-in_err-header-clause-err c =
    MatchResult-from_err c.from_residual.result _ _ c.from_residual.ensures.0 (λ _. no_header c.args.bytes.now c.args.place c.args.width c.args.wanted c.in_err-header.ensures.err)

pub returns-then-header-eq1-clause-ok : goal.returns-then-header-eq1-clause-ok
returns-then-header-eq1-clause-ok c =
    opens_packed c.args.bytes.now c.args.place c.args.width c.args.wanted c.in_ok-header.header c.in_ok-header.body c.open_packed.result (λ i. omega (arith, c.type_inv.bytes i)) c.in_ok-header.ensures.ok c.if-header-eq1.true c.open_packed.ensures

pub returns-else-header-eq1-clause-ok : goal.returns-else-header-eq1-clause-ok
returns-else-header-eq1-clause-ok c =
    IfOk-weaker c.open_repeated.result _ _
    (λ opened. opens_repeated c.args.bytes.now c.args.place c.args.width c.args.wanted c.in_ok-header.header c.in_ok-header.body opened (λ i. omega (arith, c.type_inv.bytes i)) c.in_ok-header.ensures.ok c.if-header-eq1.false)
    c.open_repeated.ensures.ok

pub returns-else-header-eq1-clause-err : goal.returns-else-header-eq1-clause-err
returns-else-header-eq1-clause-err c =
    on_err_weaker c.open_repeated.result (no_value c.args.bytes.now c.args.place c.args.width c.args.wanted c.in_ok-header.header c.in_ok-header.body c.in_ok-header.ensures.ok c.if-header-eq1.false) c.open_repeated.ensures.err

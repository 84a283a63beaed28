use Rattle.std.proofs.Common.{sym, arith}
use Rattle.parquet_encoding.proofs.StringLemmas.{no_length, no_body}
use Rattle.parquet_page.proofs.BodyLemmas.{levels_here, none_on}
use Rattle.parquet_page.proofs.body.levels_at.Goals as goal

pub returns-in_err-length : goal.returns-in_err-length
returns-in_err-length c = none_on _ c.from_residual.result _ c.from_residual.ensures (no_length c.args.bytes.now c.in_err-length.ensures.cases)

pub returns-then-length-rest : goal.returns-then-length-rest
returns-then-length-rest c =
    let cases = c.in_ok-length.ensures.cases in
    sym (no_body c.args.bytes.now c.in_ok-length.length.now c.in_ok-length.rest.now c.from_le_bytes-length.result cases.0 cases.2 c.from_le_bytes-length.ensures c.if-length-rest.true)

pub returns : goal.returns
returns c =
    let cases = c.in_ok-length.ensures.cases in
    rw (c.split_at.ensures.front, c.split_at.ensures.back)
    (levels_here c.args.bytes.now c.in_ok-length.length.now c.in_ok-length.rest.now c.from_le_bytes-length.result cases.0 cases.1 (omega (arith, cases.2)) c.from_le_bytes-length.ensures c.if-length-rest.false)

use Rattle.std.proofs.Common.{◌∙◌, ap, take, drop, length, arith}
use Rattle.std.proofs.lemmas.List.{take_rest}
use Rattle.parquet_encoding.proofs.StringLemmas.{string_is, no_length, no_body}
use Rattle.parquet_encoding.proofs.plain_bytes.string_at.Goals as goal

pub returns-in_default-clause-err : goal.returns-in_default-clause-err
returns-in_default-clause-err c =
    let rest = take_rest c.args.bytes.now c.args.at in
    let short = c.in_default.ensures.cases in
    no_length (drop c.args.at c.args.bytes.now) (omega (arith, ap length rest, short))

pub returns-then-length-body-clause-err : goal.returns-then-length-body-clause-err
returns-then-length-body-clause-err c =
    let rest = take_rest c.args.bytes.now c.args.at in
    no_body (drop c.args.at c.args.bytes.now) c.in-Some.head.now c.in-Some.body.now c.from_le_bytes-length.result
    (c.in-Some.ensures.cases.0 ∙ ap (take 4) rest) (c.in-Some.ensures.cases.2 ∙ ap length rest) c.from_le_bytes-length.ensures c.if-length-body.true

pub returns-clause-ok : goal.returns-clause-ok
returns-clause-ok c =
    let rest = take_rest c.args.bytes.now c.args.at in
    string_is c.args.bytes.now c.in-Some.head.now c.in-Some.body.now c.args.at c.from_le_bytes-length.result c.requires
    (c.in-Some.ensures.cases.0 ∙ ap (take 4) rest) (c.in-Some.ensures.cases.2 ∙ ap length rest) c.from_le_bytes-length.ensures (omega arith)

use Rattle.std.proofs.Common.{arith}
use Rattle.parquet_page.proofs.BodyLemmas.{long_parts, parts_here}
use Rattle.parquet_page.proofs.body.split_at_lengths.Goals as goal

pub returns-then-repetition-body : goal.returns-then-repetition-body
returns-then-repetition-body c = long_parts c.args.repetition c.args.definition c.args.body.now (omega (arith, c.if-repetition-body.true))

pub returns-then-definition-rest : goal.returns-then-definition-rest
returns-then-definition-rest c = long_parts c.args.repetition c.args.definition c.args.body.now (omega (arith, c.split_at.ensures.back_len, c.if-definition-rest.true))

pub returns : goal.returns
returns c =
    rw (c.split_at-2.ensures.front, c.split_at-2.ensures.back, c.split_at.ensures.front, c.split_at.ensures.back)
    (parts_here c.args.repetition c.args.definition c.args.body.now (omega (arith, c.split_at.ensures.back_len, c.if-repetition-body.false, c.if-definition-rest.false)))

use Rattle.std.proofs.Common.{arith}
use Rattle.std.proofs.lemmas.Result.{err_from_is_err_and}
use Rattle.inspect_program.specs.Groups.{told_as}
use Rattle.inspect_program.proofs.PageLemmas.{ends_failed, not_as_many}
use Rattle.inspect_program.proofs.pages.push_told_pages.Goals as goal

pub returns-in_err-ends : goal.returns-in_err-ends
returns-in_err-ends g c =
    let p = err_from_is_err_and c.from_residual-in_err-ends.result c.from_residual-in_err-ends.ensures.1 in
    let e = c.in_err-ends.ensures in
    rw (p.1, p.2) (ends_failed c.args.rows (told_as c.args.number c.args.data_type.now c.args.column.now) _ _ c.in_ok-rows.ensures.reads e.reads e.carried c.in_ok-rows.ensures.taken e.taken)

pub returns-then-len : goal.returns-then-len
returns-then-len g c =
    not_as_many c.args.rows (told_as c.args.number c.args.data_type.now c.args.column.now) _ _ (λ same. omega (arith, same, c.len.ensures, c.len-2.ensures, c.if-len.true))
    c.in_ok-rows.ensures.reads c.in_ok-ends.ensures.reads c.in_ok-rows.ensures.rows c.in_ok-ends.ensures.ends c.in_ok-rows.ensures.taken c.in_ok-ends.ensures.taken

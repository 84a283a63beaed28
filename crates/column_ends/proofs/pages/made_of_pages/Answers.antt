use Rattle.std.proofs.Common.{◌≡◌, [], ◌∙◌, inr, map, subst, sym, take, arith}
use Rattle.std.specs.Prelude.{Contains}
use Rattle.std.proofs.lemmas.List.{take_all}
use Rattle.std.proofs.lemmas.Result.{err_from_is_err_and}
use Rattle.columns_core.specs.Causes.{Overflow}
use Rattle.column_ends.specs.ByRule.{all_causes_by, each_by, each_causes_by, page_causes_by}
use Rattle.column_ends.specs.Converted.{page_array_causes}
use Rattle.column_ends.specs.Counted.{fit}
use Rattle.column_ends.specs.Told.{stored_page}
use Rattle.column_ends.proofs.CauseLemmas.{tells-left, tells-of_all}
use Rattle.column_ends.proofs.IndexLemmas.{all_fit, not_fit}
use Rattle.column_ends.proofs.pages.made_of_pages.Goals as goal

pub returns-in_err-ends-clause-cause : goal.returns-in_err-ends-clause-cause
returns-in_err-ends-clause-cause g c =
    let p = err_from_is_err_and c.from_residual-in_err-ends.result c.from_residual-in_err-ends.ensures.1 in
    let rule = c.args.rule in
    let told = map (stored_page g.E.StoredEnd.stored) c.args.pages.now in
    rw (p.1, p.2) (tells-left c.in_err-ends.field-0.0 (each_causes_by rule told) (page_array_causes c.args.data_type.now (each_by rule told))
    (tells-of_all _ (page_causes_by rule) (stored_page g.E.StoredEnd.stored) c.args.pages.now c.loop-i.i c.index-pages-i.result c.loop-i-test.true c.index-pages-i.is c.in_err-ends.ensures.cause))

pub returns-then-fit-clause-ok : goal.returns-then-fit-clause-ok
returns-then-fit-clause-ok g c =
    let rule = c.args.rule in
    let data_type = c.args.data_type.now in
    let stored = stored_page g.E.StoredEnd.stored in
    let pages = take c.loop-i.i c.args.pages.now in
    subst (λ pages. all_causes_by rule data_type (map stored pages) ≡ []) (take_all c.loop-i.i c.args.pages.now (omega (arith, c.loop-i-test.false)))
    (all_fit rule data_type (map stored pages) c.loop-i.bytes c.loop-i.invariant.bytes c.loop-i.invariant.fine (sym {b = fit data_type c.loop-i.bytes} c.fit.ensures ∙ c.if-fit.true))

pub returns-else-fit-clause-cause : goal.returns-else-fit-clause-cause
returns-else-fit-clause-cause g c =
    let rule = c.args.rule in
    let data_type = c.args.data_type.now in
    let stored = stored_page g.E.StoredEnd.stored in
    let pages = take c.loop-i.i c.args.pages.now in
    inr (subst (λ pages. Contains (all_causes_by rule data_type (map stored pages)) Overflow) (take_all c.loop-i.i c.args.pages.now (omega (arith, c.loop-i-test.false)))
    (not_fit rule data_type (map stored pages) c.loop-i.bytes c.loop-i.invariant.bytes (sym {b = fit data_type c.loop-i.bytes} c.fit.ensures ∙ c.if-fit.false)))

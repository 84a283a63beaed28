use Rattle.std.proofs.Common.{◌∙◌, get_or, sym, refl, inr, add-one}
use Rattle.parquet_page.proofs.RefusalLemmas.{damaged_whole, passed_on}
use Rattle.parquet_page.proofs.ListLemmas.{is_done, none_here, one_more}
use Rattle.parquet_page.proofs.SelectionLemmas.{entry_is, entry_lost, no_entries, nowhere, pages_found-drop, rows_here}
use Rattle.parquet_page.proofs.selection.filtered_pages.Goals as goal

pub returns-in_default-clause-refusal : goal.returns-in_default-clause-refusal
returns-in_default-clause-refusal c =
    let a = c.args in
    let step = pages_found-drop a.intervals.now a.locations.now c.loop-i.i a.num_rows nowhere c.loop-i-test.true in
    let own = sym (rows_here a.locations.now c.loop-i.i a.num_rows _ c.loop-i-test.true) ∙ sym c.in_default.ensures.rows in
    inr (refl, none_here c.loop-i.pages.items _ _ _ _ step (entry_lost a.intervals.now (get_or a.locations.now c.loop-i.i nowhere) _ own) c.loop-i.invariant)

pub returns-in_err-filtered_page-clause-refusal : goal.returns-in_err-filtered_page-clause-refusal
returns-in_err-filtered_page-clause-refusal c =
    let a = c.args in
    let step = pages_found-drop a.intervals.now a.locations.now c.loop-i.i a.num_rows nowhere c.loop-i-test.true in
    let own = sym (rows_here a.locations.now c.loop-i.i a.num_rows _ c.loop-i-test.true) ∙ sym c.in-Some.ensures.rows in
    let none = none_here c.loop-i.pages.items _ _ _ _ step in
    passed_on _ _ _ c.from_residual-in_err-filtered_page.ensures.1 (damaged_whole _ _ _ (λ undefined. none (entry_is a.intervals.now (get_or a.locations.now c.loop-i.i nowhere) _ _ own ∙ undefined) c.loop-i.invariant) c.in_err-filtered_page.ensures.refusal)

pub loop-i-preserved : goal.loop-i-preserved
loop-i-preserved c =
    let a = c.args in
    let step = pages_found-drop a.intervals.now a.locations.now c.loop-i.i a.num_rows nowhere c.loop-i-test.true in
    let own = sym (rows_here a.locations.now c.loop-i.i a.num_rows _ c.loop-i-test.true) ∙ sym c.in-Some.ensures.rows in
    rw (c.in_ok-push.ensures.items, add-one c.loop-i.i) (one_more c.loop-i.pages.items _ c.in_ok-filtered_page.field-0 _ _ _ step (entry_is a.intervals.now (get_or a.locations.now c.loop-i.i nowhere) _ _ own ∙ c.in_ok-filtered_page.ensures.page) c.loop-i.invariant)

pub returns-clause-pages : goal.returns-clause-pages
returns-clause-pages c = is_done c.loop-i.pages.items _ _ (no_entries c.args.intervals.now c.args.locations.now c.loop-i.i c.args.num_rows c.loop-i-test.false) c.loop-i.invariant

use Rattle.std.proofs.Common.{◌∙◌, sym, refl, inr, add-one}
use Rattle.parquet_page.proofs.ListLemmas.{is_done, none_here, one_more}
use Rattle.parquet_page.proofs.SelectionLemmas.{no_pages, page_intervals-drop, rows_here}
use Rattle.parquet_page.proofs.selection.page_row_intervals.Goals as goal

pub returns-in_default-clause-refusal : goal.returns-in_default-clause-refusal
returns-in_default-clause-refusal c =
    let locations = c.args.locations.now in
    let step = page_intervals-drop locations c.loop-i.i c.args.num_rows c.loop-i-test.true in
    let own = sym (rows_here locations c.loop-i.i c.args.num_rows _ c.loop-i-test.true) ∙ sym c.in_default.ensures.rows in
    inr (refl, none_here c.loop-i.intervals.items _ _ _ _ step own c.loop-i.invariant)

pub loop-i-preserved : goal.loop-i-preserved
loop-i-preserved c =
    let locations = c.args.locations.now in
    let step = page_intervals-drop locations c.loop-i.i c.args.num_rows c.loop-i-test.true in
    let own = sym (rows_here locations c.loop-i.i c.args.num_rows _ c.loop-i-test.true) ∙ sym c.in-Some.ensures.rows in
    rw (c.in_ok-push.ensures.items, add-one c.loop-i.i) (one_more c.loop-i.intervals.items _ c.in-Some.interval _ _ _ step own c.loop-i.invariant)

pub returns-clause-rows : goal.returns-clause-rows
returns-clause-rows c = is_done c.loop-i.intervals.items _ _ (no_pages c.args.locations.now c.loop-i.i c.args.num_rows c.loop-i-test.false) c.loop-i.invariant

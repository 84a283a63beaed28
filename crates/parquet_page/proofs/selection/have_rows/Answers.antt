use Rattle.std.proofs.Common.{◌∙◌, sym, ap, add-one}
use Rattle.std.specs.Prelude.{is_some, not}
use Rattle.parquet_page.proofs.SelectionLemmas.{no_pages, rows_here, rows_left, rows_lost}
use Rattle.parquet_page.proofs.selection.have_rows.Goals as goal

pub returns-then-is_none : goal.returns-then-is_none
returns-then-is_none c =
    let a = c.args in
    let own = ap is_some (sym (rows_here a.locations.now c.loop-i.i a.num_rows _ c.loop-i-test.true) ∙ sym c.rows_of_page.ensures.rows) ∙ c.is_none.ensures ∙ ap not c.if-is_none.true in
    sym (rows_lost a.locations.now c.loop-i.i a.num_rows c.loop-i-test.true own) ∙ c.loop-i.invariant

pub loop-i-preserved : goal.loop-i-preserved
loop-i-preserved c =
    let a = c.args in
    let own = ap is_some (sym (rows_here a.locations.now c.loop-i.i a.num_rows _ c.loop-i-test.true) ∙ sym c.rows_of_page.ensures.rows) ∙ c.is_none.ensures ∙ ap not c.if-is_none.false in
    rw (add-one c.loop-i.i) (rows_left a.locations.now c.loop-i.i a.num_rows c.loop-i-test.true own ∙ c.loop-i.invariant)

pub returns : goal.returns
returns c = sym (ap is_some (no_pages c.args.locations.now c.loop-i.i c.args.num_rows c.loop-i-test.false)) ∙ c.loop-i.invariant

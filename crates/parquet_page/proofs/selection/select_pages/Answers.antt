use Rattle.std.proofs.Common.{◌≡◌, ◌∙◌, ℕ, Option, sym, refl, inr, ap, Some, arith}
use Rattle.std.specs.Prelude.{option_map}
use Rattle.std.specs.Option.{option_to_list}
use Rattle.parquet_page.specs.Locations.{begin_in_time, selected_pages}
use Rattle.parquet_base.specs.Intervals.{interval, is_well_shaped}
use Rattle.columns_core.specs.Refusals.{IsDamaged, Refuses}
use Rattle.parquet_base.proofs.ShapeLemmas.{shape-wider}
use Rattle.parquet_page.proofs.RefusalLemmas.{damaged_whole, refuses_damaged, when_ok, when_refused}
use Rattle.parquet_page.proofs.SelectionLemmas.{begins_late, pages_found, selects}
use Rattle.parquet_page.proofs.selection.select_pages.Goals as goal

pub returns-then-not-begins_in_time-clause-refusal : goal.returns-then-not-begins_in_time-clause-refusal
returns-then-not-begins_in_time-clause-refusal c =
    let a = c.args in
    let far = ap (λ (first : Option ℕ). begin_in_time (option_to_list (option_map (λ row. interval row 0) first)) a.intervals.now) (sym c.first_row.ensures) ∙ sym c.begins_in_time.ensures ∙ c.if-not-begins_in_time.true in
    refuses_damaged _ _ _ (sym c.is_well_shaped.ensures ∙ c.if-not-is_well_shaped.false) (inr (refl, begins_late a.intervals.now a.locations.now a.num_rows far))

pub filtered_pages-requires : goal.filtered_pages-requires
filtered_pages-requires c = record { shaped = shape-wider 0 c.args.intervals.now c.args.num_rows _ (omega (arith, c.ranges.num_rows.fits)) (sym c.is_well_shaped.ensures ∙ c.if-not-is_well_shaped.false) }

pub returns-clause-pages : goal.returns-clause-pages
returns-clause-pages c =
    let a = c.args in
    let near = ap (λ (first : Option ℕ). begin_in_time (option_to_list (option_map (λ row. interval row 0) first)) a.intervals.now) (sym c.first_row.ensures) ∙ sym c.begins_in_time.ensures ∙ c.if-not-begins_in_time.false in
    let same = selects a.intervals.now a.locations.now a.num_rows near in
    when_ok c.filtered_pages.result (λ pages. pages_found a.intervals.now a.locations.now a.num_rows ≡ Some pages.items) (λ pages. selected_pages a.intervals.now a.locations.now a.num_rows ≡ Some pages.items)
    c.filtered_pages.ensures.pages (λ pages e. same ∙ e)

pub returns-clause-refusal : goal.returns-clause-refusal
returns-clause-refusal c =
    let a = c.args in
    let near = ap (λ (first : Option ℕ). begin_in_time (option_to_list (option_map (λ row. interval row 0) first)) a.intervals.now) (sym c.first_row.ensures) ∙ sym c.begins_in_time.ensures ∙ c.if-not-begins_in_time.false in
    let same = selects a.intervals.now a.locations.now a.num_rows near in
    when_refused c.filtered_pages.result (IsDamaged (pages_found a.intervals.now a.locations.now a.num_rows)) (Refuses (is_well_shaped a.intervals.now a.num_rows) (selected_pages a.intervals.now a.locations.now a.num_rows))
    c.filtered_pages.ensures.refusal
    (λ e damaged. refuses_damaged _ _ e (sym c.is_well_shaped.ensures ∙ c.if-not-is_well_shaped.false) (damaged_whole _ _ e (λ none. same ∙ none) damaged))

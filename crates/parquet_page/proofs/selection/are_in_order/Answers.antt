use Rattle.std.proofs.Common.{◌∙◌, ℕ, Option, false, sym, ap}
use Rattle.std.specs.Prelude.{◌==◌, ◌&&◌, is_some}
use Rattle.std.specs.Option.{option_map_or}
use Rattle.parquet_page.specs.Locations.{page_intervals}
use Rattle.parquet_page.proofs.SelectionLemmas.{in_order}
use Rattle.parquet_page.proofs.selection.are_in_order.Goals as goal

pub returns-then-begin_at_row_0 : goal.returns-then-begin_at_row_0
returns-then-begin_at_row_0 c =
    let a = c.args in
    let first = ap (λ (first : Option ℕ). option_map_or (λ row. row == 0) first false) (sym c.first_row.ensures) ∙ sym c.begin_at_row_0.ensures ∙ c.if-begin_at_row_0.true in
    c.have_rows.ensures ∙ ap (λ b. b && is_some (page_intervals a.locations.now a.num_rows)) (sym first) ∙ in_order a.locations.now a.num_rows

pub returns-else-begin_at_row_0 : goal.returns-else-begin_at_row_0
returns-else-begin_at_row_0 c =
    let a = c.args in
    let first = ap (λ (first : Option ℕ). option_map_or (λ row. row == 0) first false) (sym c.first_row.ensures) ∙ sym c.begin_at_row_0.ensures ∙ c.if-begin_at_row_0.false in
    c.if-begin_at_row_0.false ∙ ap (λ b. b && is_some (page_intervals a.locations.now a.num_rows)) (sym first) ∙ in_order a.locations.now a.num_rows

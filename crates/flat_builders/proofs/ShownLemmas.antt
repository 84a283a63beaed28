-- A builder's cells as a column, with one more.
use Rattle.std.proofs.Common.{◌≡◌, true, List, [], ◌∷◌, ◌++◌, sym, ap, subst, ◌∙◌}
use Rattle.std.specs.Prelude.{Bool, Result, OnOk, IfErr, sum_by}
use Rattle.std.proofs.lemmas.Result.{IfErr-weaker, on_ok_weaker}
use Rattle.columns_core.specs.Shown.{Shown}
use Rattle.columns_core.specs.declared.cell.Cell.{Cell}
use Rattle.columns_core.specs.declared.data_type.DataType.{DataType}
use Rattle.columns_core.specs.declared.error.Error.{Error}
use Rattle.page_decoding.specs.Bytes.{cell_bytes, fits_most}
use Rattle.flat_values.specs.CellTypes.{is_cell_at, is_cell_of}
use Rattle.flat_builders.specs.Built.{built_cells, is_kept_as, kept_layer}
use Rattle.flat_builders.specs.Kept.{IsRefusedCell, cells_fit, cells_fit_at}
use Rattle.flat_builders.specs.declared.building.Building.{Building}
use Rattle.flat_builders.proofs.TypeLemmas.{like}

abbrev column : DataType → List Cell → Shown
column data_type cells = (data_type, cells)

abbrev with_cell : Shown → Cell → Shown
with_cell old cell = (old.0, old.1 ++ cell ∷ [])

module _ {X : Type 0} (building new : Building) (data_type : DataType) (kept : is_kept_as building data_type ≡ true) (old : Shown) (is : column data_type (built_cells building) ≡ old) (cell : Cell) (result : Result X Error) where
  abbrev cells : List Cell
  cells = built_cells building ++ cell ∷ []

  type_is : is_cell_of old.0 cell ≡ is_cell_at (kept_layer building) cell
  type_is = ap (λ (s : Shown). is_cell_of s.0 cell) (sym is) ∙ (like building data_type kept).typed cell

  fit_is : cells_fit old.0 (old.1 ++ cell ∷ []) ≡ cells_fit_at (kept_layer building) cells
  fit_is = ap (λ (s : Shown). cells_fit s.0 (s.1 ++ cell ∷ [])) (sym is) ∙ ap (λ most. fits_most most (sum_by cell_bytes cells)) (like building data_type kept).most

  pub pushed : OnOk result (built_cells new ≡ cells) → OnOk result (column data_type (built_cells new) ≡ with_cell old cell)
  pushed h = on_ok_weaker result (λ e. ap (column data_type) e ∙ ap (λ (s : Shown). with_cell s cell) is) h

  pub typed : OnOk result (is_cell_at (kept_layer building) cell ≡ true) → OnOk result (is_cell_of old.0 cell ≡ true)
  typed h = on_ok_weaker result (λ e. type_is ∙ e) h

  pub fit : OnOk result (cells_fit_at (kept_layer building) cells ≡ true) → OnOk result (cells_fit old.0 (old.1 ++ cell ∷ []) ≡ true)
  fit h = on_ok_weaker result (λ e. fit_is ∙ e) h

  pub unchanged : IfErr result (λ _. new ≡ building) → IfErr result (λ _. column data_type (built_cells new) ≡ old)
  unchanged h = IfErr-weaker result (λ _. new ≡ building) (λ _. column data_type (built_cells new) ≡ old) (λ _ e. ap (λ own. column data_type (built_cells own)) e ∙ is) h

  pub refused : IfErr result (λ e. IsRefusedCell (is_cell_at (kept_layer building) cell) (cells_fit_at (kept_layer building) cells) e)
      → IfErr result (λ e. IsRefusedCell (is_cell_of old.0 cell) (cells_fit old.0 (old.1 ++ cell ∷ [])) e)
  refused h = IfErr-weaker result
      (λ e. IsRefusedCell (is_cell_at (kept_layer building) cell) (cells_fit_at (kept_layer building) cells) e)
      (λ e. IsRefusedCell (is_cell_of old.0 cell) (cells_fit old.0 (old.1 ++ cell ∷ [])) e)
      (λ e r. subst (λ (b : Bool). IsRefusedCell b (cells_fit old.0 (old.1 ++ cell ∷ [])) e) (sym type_is) (subst (λ (b : Bool). IsRefusedCell (is_cell_at (kept_layer building) cell) b e) (sym fit_is) r)) h

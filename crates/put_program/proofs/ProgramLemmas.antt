-- What is put of lines, and how it is refused.
use Rattle.std.proofs.Common.{◌≡◌, ℕ, ℤ, ◌<◌, List, [], ◌∷◌, Option, Some, None, length, map, refl, sym, ◌∙◌, ap, subst, arith}
use Rattle.std.specs.Prelude.{All, IfErr, IsFalse, IsTrue, Result, option_map}
use Rattle.std.specs.List.{AllZip}
use Rattle.std.proofs.lemmas.List.Elements.{All-nil, All-cons}
use Rattle.std.proofs.lemmas.Result.{IfErr-weaker}
use Rattle.columns_core.specs.Column.{Column, cell_of}
use Rattle.columns_core.specs.ElementType.{stores_i64}
use Rattle.columns_core.specs.declared.array.Array.{Array}
use Rattle.columns_core.specs.declared.array.Array.TheVariants as array
use Rattle.columns_core.specs.declared.cell.Cell.{Cell, Int}
use Rattle.columns_core.specs.declared.data_type.DataType.{DataType}
use Rattle.columns_core.specs.declared.data_type.DataType as type
use Rattle.columns_core.specs.declared.data_type.Field.{Field}
use Rattle.columns_core.specs.declared.error.Error.{Error}
use Rattle.columns_core.specs.declared.error.Error.TheVariants as error
use Rattle.pq_common.specs.Endings.{status_of_error}
use Rattle.put_program.specs.Lines.{Asked, cells_of_text, field_of, first_cell, groups_of_cells}
use Rattle.put_program.specs.Program.{HoldCells, OfLines, RefusesLines}
use Rattle.put_program.specs.Put.{ColumnCells, is_short_file, put_description}
use Rattle.put_program.specs.Request.{FitsField, RefusesToPut, columns_of_chunks}
use Rattle.put_program.proofs.LineLemmas.{cells_step, first_before}

-- ---- the chunks of lines

-- a text that is not empty has a cell
one_group : (text : List ℕ) (cells : List Cell) → 0 < length text → cells_of_text text ≡ Some cells
    → ((type.Int64, cells) ∷ []) ∷ [] ≡ groups_of_cells cells
one_group text cells some told = by (first_cell text) cells (sym (cells_step text some) ∙ told) where
  of : (first : Cell) (more : Option (List Cell)) (cells : List Cell) → option_map (λ cells. first ∷ cells) more ≡ Some cells → ((type.Int64, cells) ∷ []) ∷ [] ≡ groups_of_cells cells
  of first None cells e = cc
  of first (Some more) [] e = cc
  of first (Some more) (cell ∷ cells) e = refl

  by : (first : Option (Cell × List ℕ)) (cells : List Cell) → first_before first ≡ Some cells → ((type.Int64, cells) ∷ []) ∷ [] ≡ groups_of_cells cells
  by None cells e = cc
  by (Some first) cells e = of first.0 (cells_of_text first.1) cells e

fits_field : (name : List ℕ) (column : Column ℤ) → column.data_type ≡ type.Int64 → FitsField (field_of name) (array.Int64 column)
fits_field name column typed = record {
  same = typed;
  own = (let Own : DataType → Type 0 = λ data_type. IsTrue (stores_i64 data_type) in subst Own (sym typed) refl);
  whole = refl;
}

pub one_chunk : (text : List ℕ) (column : Column ℤ) (chunks : List (List Array)) → 0 < length text → column.data_type ≡ type.Int64
    → cells_of_text text ≡ Some (map (cell_of Int) column.items) → chunks ≡ (array.Int64 column ∷ []) ∷ [] → OfLines (Some text) (HoldCells chunks)
one_chunk text column chunks some typed told are = record {
  text = text;
  of_source = refl;
  cells = map (cell_of Int) column.items;
  of_lines = told;
  holds = record {
    groups =
        ap columns_of_chunks are ∙ ap (λ (data_type : DataType). ((data_type, map (cell_of Int) column.items) ∷ []) ∷ []) typed
        ∙ one_group text (map (cell_of Int) column.items) some told;
    fit = λ name.
        let Fit : List (List Array) → Type 0 = λ chunks. All (AllZip FitsField (field_of name ∷ [])) chunks in
        subst Fit (sym are) (All-cons (AllZip FitsField (field_of name ∷ [])) (array.Int64 column ∷ []) [] (fits_field name column typed, tt) (All-nil (AllZip FitsField (field_of name ∷ []))));
  };
}

-- ---- refusals

abbrev RefusesFields : Asked → List (List Array) → Error → Type 0
RefusesFields asked chunks e = RefusesToPut (field_of asked.name ∷ []) chunks asked.page_rows e

refuses : (asked : Asked) (told : Option (List ℕ)) (before now : ℕ) (chunks : List (List Array)) → 0 < asked.page_rows → OfLines told (HoldCells chunks)
    → (e : Error) → RefusesFields asked chunks e → RefusesLines asked told before now (status_of_error e)
refuses asked told before now chunks rows held (error.InvalidArgumentError part) k =
    absurd (k (record { some = omega arith; named = refl; paged = rows; each = held.holds.fit asked.name }))
refuses asked told before now chunks rows held (error.NotYetImplemented part) k = let bad = k.1 in cc
refuses asked told before now chunks rows held (error.ExternalFormat part) k = absurd k
refuses asked told before now chunks rows held (error.OutOfSpec part) k = k
refuses asked told before now chunks rows held error.Overflow k =
    let Large : List (List ColumnCells) → Type 0 = λ groups. IsFalse (is_short_file (put_description (field_of asked.name ∷ []) groups asked.page_rows)) in
    record { text = held.text; of_source = held.of_source; cells = held.cells; of_lines = held.of_lines; holds = subst Large held.holds.groups k.large }
refuses asked told before now chunks rows held error.Io k = absurd k
refuses asked told before now chunks rows held error.OutOfMemory k = tt

pub refuses_lines : {T : Type 0} (asked : Asked) (told : Option (List ℕ)) (before now : ℕ) (fields : List Field) (chunks held_chunks : List (List Array)) (result : Result T Error)
    → fields ≡ field_of asked.name ∷ [] → chunks ≡ held_chunks → 0 < asked.page_rows → OfLines told (HoldCells held_chunks)
    → IfErr result (RefusesToPut fields chunks asked.page_rows) → IfErr result (λ e. RefusesLines asked told before now (status_of_error e))
refuses_lines asked told before now fields chunks held_chunks result are same rows held refused =
    IfErr-weaker result (RefusesToPut fields chunks asked.page_rows) (λ e. RefusesLines asked told before now (status_of_error e))
    (λ e k.
    let OfFields : List Field → Type 0 = λ fields. RefusesToPut fields chunks asked.page_rows e in
    let OfChunks : List (List Array) → Type 0 = λ chunks. RefusesFields asked chunks e in
    refuses asked told before now held_chunks rows held e (subst OfChunks same (subst OfFields are k)))
    refused

-- What fits together, and what does not.
use Rattle.std.proofs.Common.{◌≡◌, ℕ, Bool, true, false, List, Option, Some, refl, sym, ap, subst, ◌∙◌, length, map}
use Rattle.std.specs.Prelude.{◌==◌, ◌&&◌, ◌||◌, not, slice_get}
use Rattle.std.specs.List.{list_all, list_any}
use Rattle.columns_core.specs.Array.{cells, column_of, data_type_of}
use Rattle.columns_core.specs.Column.{Column}
use Rattle.columns_core.specs.ElementType.{fixed_size}
use Rattle.columns_core.specs.Lent.{cell_lent}
use Rattle.columns_core.specs.declared.array.Array.{Array}
use Rattle.columns_core.specs.declared.cell.Cell.{Cell}
use Rattle.columns_core.specs.declared.data_type.DataType.{DataType, FixedSizeBinary}
use Rattle.columns_core.specs.declared.data_type.Field.{Field}
use Rattle.columns_core.specs.declared.error.Error.{Error}
use Rattle.columns_core.specs.declared.lent.Lent.{Lent}
use Rattle.columns_core.specs.declared.lent.Lent.TheVariants as lent
use Rattle.std.specs.Prelude.{Result}
use Rattle.parquet_page.specs.Stored.{Stored}
use Rattle.parquet_plain.specs.Columns.{written_chunk}
use Rattle.parquet_write.specs.declared.facts.ChunkFacts.{ChunkFacts}
use Rattle.parquet_write.specs.declared.parts.Parts.{Parts}
use Rattle.put_program.specs.Put.{stored_items, written_field}
use Rattle.put_program.specs.Request.{FitsField, are_sized, is_sized, is_fixed_size_binary, is_null_cell, is_own}
use Rattle.put_program.specs.Stored.{stored_cell}
use Rattle.put_program.specs.Typed.{AddsColumn}
use Rattle.put_program.proofs.ListLemmas.{all-fails}

-- ---- bytes of one size

pub not_sized : (column : Column (List ℕ)) (size row : ℕ) (bytes : List ℕ) → column.data_type ≡ FixedSizeBinary size → slice_get column.items row ≡ Some (Some bytes) → (length bytes == size) ≡ false →
    false ≡ are_sized column
not_sized column size row bytes typed own other =
    sym (ap (λ (t : DataType). is_fixed_size_binary t && list_all (is_sized (fixed_size t)) column.items) typed ∙ all-fails (is_sized size) column.items row (Some bytes) own other)

pub sized : (column : Column (List ℕ)) (size : ℕ) → column.data_type ≡ FixedSizeBinary size → list_all (is_sized size) column.items ≡ true → true ≡ are_sized column
sized column size typed all = sym (ap (λ (t : DataType). is_fixed_size_binary t && list_all (is_sized (fixed_size t)) column.items) typed ∙ all)

-- ---- nulls

pub not_null : (own : Lent) → (own ≡ lent.Null → ⊥) → is_null_cell (cell_lent own) ≡ false
not_null lent.Null other = absurd (other refl)
not_null (lent.Bool value) other = refl
not_null (lent.Int value) other = refl
not_null (lent.DaysMs days milliseconds) other = refl
not_null (lent.Text text) other = refl
not_null (lent.Bytes bytes) other = refl
not_null (lent.Cells inside) other = refl

-- ---- a field

pub fits : (field : Field) (array : Array) → data_type_of array ≡ field.data_type → is_own array ≡ true → (field.is_nullable ≡ true) → FitsField field array
fits field array same own nullable = record { same = same; own = own; whole = ap (λ (b : Bool). b || not (list_any is_null_cell (cells array))) nullable }

pub fits_without_null : (field : Field) (array : Array) → data_type_of array ≡ field.data_type → is_own array ≡ true → not (list_any is_null_cell (cells array)) ≡ true → FitsField field array
fits_without_null field array same own none = record { same = same; own = own; whole = or-second field.is_nullable (not (list_any is_null_cell (cells array))) none }
  where
    or-second : (a b : Bool) → b ≡ true → (a || b) ≡ true
    or-second true b holds = refl
    or-second false b holds = holds

pub without_null : (field : Field) (array : Array) → field.is_nullable ≡ false → FitsField field array → not (list_any is_null_cell (cells array)) ≡ true
without_null field array required f = ap (λ (b : Bool). b || not (list_any is_null_cell (cells array))) (sym required) ∙ f.whole

-- ---- an array of a kind

pub added : (array : Array) (field : Field) (page_rows : ℕ) (some : List Cell) (old new : Parts) (result : Result ChunkFacts Error) → data_type_of array ≡ field.data_type → cells array ≡ some →
    AddsColumn (written_chunk (written_field page_rows field) (map (stored_cell field.data_type) some)) old result new →
    AddsColumn (written_chunk (written_field page_rows field) (stored_items (column_of array))) old result new
added array field page_rows some old new result same own adds =
    subst (λ (items : List (Option Stored)). AddsColumn (written_chunk (written_field page_rows field) items) old result new)
    (ap (map (stored_cell field.data_type)) (sym own) ∙ ap (λ (t : DataType). map (stored_cell t) (cells array)) (sym same)) adds

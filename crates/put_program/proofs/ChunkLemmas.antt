-- A chunk hangs on how its items are stored, and not on the column's name.
use Rattle.std.proofs.Common.{◌≡◌, ℕ, Bool, List, Option, refl, sym, ap, ◌∙◌, map}
use Rattle.std.specs.Prelude.{IsTrue}
use Rattle.columns_core.specs.declared.cell.Cell.{Cell}
use Rattle.columns_core.specs.declared.data_type.Field.{Field}
use Rattle.parquet_meta.specs.declared.metadata.PhysicalType.{PhysicalType}
use Rattle.parquet_meta.specs.declared.metadata.Repetition.{Repetition}
use Rattle.parquet_page.specs.Stored.{Stored}
use Rattle.parquet_plain.specs.Columns.{Written, written_chunk, written_page}
use Rattle.parquet_plain.specs.Description.{PlainChunk}
use Rattle.parquet_write.specs.Items.{unnamed_column}
use Rattle.parquet_write.specs.declared.pages.Paging.{Paging}
use Rattle.put_program.specs.Orders.{order_of}
use Rattle.put_program.specs.Put.{repetition_of_field, written_field}
use Rattle.put_program.specs.Stored.{is_written, stored_cell}
use Rattle.put_program.specs.Typed.{AreStored}

abbrev chunk_by : PhysicalType → (Stored → Stored → Bool) → Repetition → ℕ → List (Option Stored) → PlainChunk
chunk_by type at_most repetition page_rows items = written_chunk (unnamed_column type at_most (record { repetition = repetition; page_rows = page_rows })) items

chunk-is : (to : Written) (items : List (Option Stored)) → written_chunk to items ≡ chunk_by to.column.type.physical_type to.at_most to.column.type.repetition to.page_rows items
unfolding written_chunk written_page
chunk-is to items = refl

pub field-chunk : (field : Field) (cells : List Cell) (type : PhysicalType) (at_most : Stored → Stored → Bool) (items : List (Option Stored)) (paging : Paging) (page_rows : ℕ) →
    IsTrue (is_written field.data_type) → AreStored field.data_type cells type at_most items → paging ≡ record { repetition = repetition_of_field field; page_rows = page_rows } →
    written_chunk (unnamed_column type at_most paging) items ≡ written_chunk (written_field page_rows field) (map (stored_cell field.data_type) cells)
field-chunk field cells type at_most items paging page_rows written are paged =
    ap (λ (p : Paging). written_chunk (unnamed_column type at_most p) items) paged
    ∙ sym (chunk-is (written_field page_rows field) (map (stored_cell field.data_type) cells)
    ∙ ap (λ (t : PhysicalType). chunk_by t (order_of field.data_type) (repetition_of_field field) page_rows (map (stored_cell field.data_type) cells)) (are.physical written)
    ∙ ap (λ (o : Stored → Stored → Bool). chunk_by type o (repetition_of_field field) page_rows (map (stored_cell field.data_type) cells)) are.order
    ∙ ap (chunk_by type at_most (repetition_of_field field) page_rows) are.same)

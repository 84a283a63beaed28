-- The file that is put: a column for each field, a group for each chunk, and pages of so many rows.
use Rattle.std.specs.Prelude.{ℕ, ◌&&◌, Bool, List, [], ◌∷◌, length, map, if◌then◌else◌, Option, Some, None}
use Rattle.std.specs.List.{list_all}
use Rattle.columns_core.specs.declared.cell.Cell.{Cell}
use Rattle.columns_core.specs.declared.data_type.DataType.{DataType}
use Rattle.columns_core.specs.declared.data_type.Field.{Field}
use Rattle.parquet_meta.specs.declared.metadata.PrimitiveType.{PrimitiveType}
use Rattle.parquet_meta.specs.declared.metadata.Repetition.{Repetition}
use Rattle.parquet_meta.specs.declared.metadata.Repetition.TheVariants.{Required, Optional}
use Rattle.parquet_page.specs.Stored.{Stored}
use Rattle.parquet_plain.specs.Columns.{Rows, Written, written_file}
use Rattle.parquet_plain.specs.Description.{PlainColumn, PlainFile}
use Rattle.parquet_plain.specs.File.{chunks_of, first_starts, meta_data_of_plain, plain_file}
use Rattle.parquet_plain.specs.Short.{are_short_chunks, is_short_footer}
use Rattle.put_program.specs.Orders.{order_of}
use Rattle.put_program.specs.Stored.{is_written, type_stored, stored_cell}

-- ---- columns

-- what an array is seen as: its type and its cells
abbrev pub ColumnCells : Type 0
ColumnCells = DataType × List Cell

abbrev pub repetition_of_field : Field → Repetition
repetition_of_field field = if field.is_nullable then Optional else Required

abbrev pub column_of_field : Field → PlainColumn
column_of_field field =
    let stored = type_stored field.data_type in
    let type : PrimitiveType = record { physical_type = stored.0; logical_type = stored.1; repetition = repetition_of_field field } in
    record { name = field.name; type = type }

abbrev pub written_field : ℕ → Field → Written
written_field page_rows field =
    record { column = column_of_field field; at_most = order_of field.data_type; page_rows = page_rows }

-- ---- groups

-- what is stored of a column, row by row
abbrev pub stored_items : ColumnCells → List (Option Stored)
stored_items column = map (stored_cell column.0) column.1

abbrev pub first_column_length : List ColumnCells → ℕ
first_column_length [] = 0
first_column_length (column ∷ columns) = length column.1

abbrev pub stored_rows : List ColumnCells → Rows
stored_rows columns = record { count = first_column_length columns; items = map stored_items columns }

-- ---- the file

-- what the file is to hold
abbrev pub put_description : List Field → List (List ColumnCells) → ℕ → PlainFile
put_description fields chunks page_rows =
    written_file (map (written_field page_rows) fields) (map stored_rows chunks)

abbrev pub are_written : List Field → Bool
are_written fields = list_all (λ (field : Field). is_written field.data_type) fields

-- Its bytes, where each field has a type that is written. They have a meaning where the columns of each chunk have the
-- fields' types.
abbrev pub put : List Field → List (List ColumnCells) → ℕ → Option (List ℕ)
put fields chunks page_rows =
    if are_written fields then Some (plain_file (put_description fields chunks page_rows)) else None

-- Readers take the rows and bytes of each page, the bytes of each index, all rows, and the bytes of the footer.
abbrev pub is_short_file : PlainFile → Bool
is_short_file file =
    let chunks = chunks_of file.groups in
    are_short_chunks (first_starts chunks).chunk chunks && is_short_footer (meta_data_of_plain file)

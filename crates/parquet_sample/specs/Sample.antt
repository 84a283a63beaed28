-- The sample file: three columns of which each cell follows from its row.
use Rattle.std.specs.Prelude.{ℕ, ◌%◌, ◌==◌, not, pos, Bool, true, List, [], ◌∷◌, length, map, decimal, if◌then◌else◌, Option, Some, None}
use Rattle.std.specs.Cmp.Lexicographic.{slice_cmp}
use Rattle.std.specs.List.{range_with_len}
use Rattle.std.specs.Ordering.{is_gt, nat_cmp}
use Rattle.columns_core.specs.declared.cell.Cell.{Cell, Null, Int, Text}
use Rattle.parquet_base.specs.Pieces.{cut}
use Rattle.parquet_meta.specs.declared.metadata.PhysicalType.TheVariants as types
use Rattle.parquet_meta.specs.declared.metadata.Repetition.TheVariants.{Required, Optional}
use Rattle.parquet_page.specs.Stored.{Stored, Number, Octets}
use Rattle.parquet_plain.specs.Columns.{Rows, Written, written_file}
use Rattle.parquet_plain.specs.File.{plain_file}
use Rattle.parquet_plain.specs.Orders.{numbers_at_most}

-- ---- what a cell is, by the sum of its row and the seed

abbrev pub is_absent : ℕ → Bool
is_absent n = n % 5 == 0

abbrev pub quantity : ℕ → ℕ
quantity n = n % 1000

-- `r` and the digits
abbrev pub name_text : ℕ → List ℕ
name_text n = 114 ∷ decimal n

-- ---- items

abbrev pub id_item : ℕ → Option Stored
id_item n = Some (Number (pos n))

abbrev pub qty_item : ℕ → Option Stored
qty_item n = if is_absent n then None else Some (Number (pos (quantity n)))

abbrev pub name_item : ℕ → Option Stored
name_item n = Some (Octets (name_text n))

-- ---- columns

-- unsigned bytes, one after another; a beginning comes first
abbrev pub texts_at_most : Stored → Stored → Bool
texts_at_most (Octets a) (Octets b) = not (is_gt (slice_cmp nat_cmp a b))
texts_at_most _ _ = true

-- `id`
abbrev pub id_column : Written
id_column = record {
  column = record { name = 105 ∷ 100 ∷ []; type = record { physical_type = types.Int64; logical_type = None; repetition = Required } };
  at_most = numbers_at_most;
  page_rows = 1000;
}

-- `qty`
abbrev pub qty_column : Written
qty_column = record {
  column = record { name = 113 ∷ 116 ∷ 121 ∷ []; type = record { physical_type = types.Int32; logical_type = None; repetition = Optional } };
  at_most = numbers_at_most;
  page_rows = 700;
}

-- `name`
abbrev pub name_column : Written
name_column = record {
  column = record { name = 110 ∷ 97 ∷ 109 ∷ 101 ∷ []; type = record { physical_type = types.ByteArray; logical_type = None; repetition = Required } };
  at_most = texts_at_most;
  page_rows = 450;
}

abbrev pub sample_columns : List Written
sample_columns = id_column ∷ qty_column ∷ name_column ∷ []

-- ---- the file

-- the items of rows with these numbers
abbrev pub rows_of_numbers : List ℕ → Rows
rows_of_numbers numbers = record { count = length numbers; items = map id_item numbers ∷ map qty_item numbers ∷ map name_item numbers ∷ [] }

abbrev pub group_rows : ℕ
group_rows = 20000

-- the largest sample
abbrev pub most_rows : ℕ
most_rows = 2000000

-- row and seed are added
unfoldable pub sample : ℕ → ℕ → List ℕ
sample rows seed = plain_file (written_file sample_columns (map rows_of_numbers (cut (Some group_rows) (range_with_len seed rows))))

-- ---- cells

-- the cell of a column by the number of its row
abbrev pub sample_cell_at : ℕ → ℕ → Cell
sample_cell_at column n =
    if column == 0 then Int (pos n)
    else (if column == 1 then (if is_absent n then Null else Int (pos (quantity n)))
    else Text (name_text n))

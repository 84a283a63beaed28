-- The parts of the sample by their column and rows.
use Rattle.std.specs.Prelude.{ℕ, List, ◌++◌, length, map, Option}
use Rattle.std.specs.Int.{w32, to_le_bytes}
use Rattle.std.specs.List.{flat_map, range_with_len}
use Rattle.parquet_page.specs.Stored.{Stored}
use Rattle.parquet_plain.specs.Bodies.{level_bytes}
use Rattle.parquet_plain.specs.Columns.{Written}
use Rattle.parquet_sample.specs.Rows.{are_present, id_bytes, qty_bytes, text_bytes}
use Rattle.parquet_sample.specs.Sample.{id_column, id_item, name_column, qty_column, qty_item, name_item}
use Rattle.parquet_sample.specs.declared.column.SampleColumn.{SampleColumn}
use Rattle.parquet_sample.specs.declared.column.SampleColumn.TheVariants.{Id, Qty, Name}

abbrev pub written_of : SampleColumn → Written
written_of Id = id_column
written_of Qty = qty_column
written_of Name = name_column

abbrev pub sample_item : SampleColumn → ℕ → Option Stored
sample_item Id n = id_item n
sample_item Qty n = qty_item n
sample_item Name n = name_item n

-- the items of rows from one on
abbrev pub items_from : SampleColumn → ℕ → ℕ → List (Option Stored)
items_from column first rows = map (sample_item column) (range_with_len first rows)

abbrev pub qty_body : ℕ → ℕ → List ℕ
qty_body first rows =
    let levels = level_bytes (are_present first rows) in (to_le_bytes w32 (length levels) ++ levels) ++ flat_map qty_bytes (range_with_len first rows)

-- a page's body, a row at a time
abbrev pub body_from : SampleColumn → ℕ → ℕ → List ℕ
body_from Id first rows = flat_map id_bytes (range_with_len first rows)
body_from Qty first rows = qty_body first rows
body_from Name first rows = flat_map text_bytes (range_with_len first rows)

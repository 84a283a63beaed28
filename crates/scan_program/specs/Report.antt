-- What the program writes.
use Rattle.std.specs.Prelude.{ℕ, Bool, if◌then◌else◌, List, [], ◌∷◌, ◌++◌, length, flat_map, codes, decimal}
use Rattle.std.specs.List.{join_by, enumerate_from, range_with_len}
use Rattle.pq_common.specs.Rows.{line, row_line}
use Rattle.columns_core.specs.declared.cell.Cell.{Cell}
use Rattle.columns_core.specs.declared.data_type.DataType.{DataType}
use Rattle.parquet_base.specs.declared.interval.Interval.{Interval}

abbrev pub interval_text : Interval → List ℕ
interval_text run = decimal run.start ++ codes "+" ++ decimal run.length

-- the runs of kept rows, or a dash
abbrev pub intervals_text : List Interval → List ℕ
intervals_text [] = codes "-"
intervals_text (run ∷ runs) = join_by interval_text (codes " ") (run ∷ runs)

abbrev pub group_line : ℕ × (ℕ × List Interval) → List ℕ
group_line group = line (codes "group " ++ decimal group.0 ++ codes " " ++ decimal (group.1).0 ++ codes " " ++ intervals_text (group.1).1)

abbrev pub chunk_length : List (DataType × List Cell) → ℕ
chunk_length [] = 0
chunk_length (column ∷ columns) = length column.1

-- the number of rows, and then the rows
abbrev pub chunk_lines : List (DataType × List Cell) → List ℕ
chunk_lines columns =
    line (codes "chunk " ++ decimal (chunk_length columns)) ++ flat_map (row_line columns) (range_with_len 0 (chunk_length columns))

abbrev pub summary_lines : ℕ → ℕ → List ℕ
summary_lines rows pages = line (codes "rows " ++ decimal rows) ++ line (codes "pages " ++ decimal pages)

-- A line for each group, and then the chunks, or in their place how many rows and pages there are.
abbrev pub report : Bool → List (ℕ × List Interval) → List (List (DataType × List Cell)) → ℕ → ℕ → List ℕ
report summary kept chunks rows pages =
    flat_map group_line (enumerate_from 0 kept) ++ (if summary then summary_lines rows pages else flat_map chunk_lines chunks)

-- The lines of columns.
use Rattle.std.specs.Prelude.{ℕ, List, ◌++◌, codes, decimal, flat_map, Option}
use Rattle.columns_core.specs.declared.data_type.DataType.{DataType}
use Rattle.std.specs.List.{enumerate_from, join_by}
use Rattle.std.specs.Option.{option_map_or}
use Rattle.parquet_meta.specs.declared.metadata.ColumnDescriptor.{ColumnDescriptor}
use Rattle.pq_common.specs.CellText.{quoted}
use Rattle.pq_common.specs.Rows.{line}
use Rattle.pq_common.specs.TypeText.{type_text}
use Rattle.inspect_program.specs.Guess.{guess_in}

-- the names of a path with dots between them
abbrev pub path : List (List ℕ) → List ℕ
path names = join_by (λ name. name) (codes ".") names

-- a path in quotes, and a guess or a dash
abbrev pub column_end : List ℕ → Option DataType → List ℕ
column_end path guess = line (codes " " ++ quoted path ++ codes " " ++ option_map_or type_text guess (codes "-"))

-- the number of a column from 0 on, its path, and its guess in the file
abbrev pub column_line : List ColumnDescriptor → ℕ × ColumnDescriptor → List ℕ
column_line columns column =
    codes "column " ++ decimal column.0 ++ column_end (path (column.1).path_in_schema) (guess_in columns column.1)

abbrev pub columns_text : List ColumnDescriptor → List ℕ
columns_text columns = flat_map (column_line columns) (enumerate_from 0 columns)

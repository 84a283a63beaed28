-- The lines of row groups, and what may be wrong with the parts of the file that they are told from.
use Rattle.std.specs.Prelude.{ℕ, Bool, List, ◌++◌, filter_map, flat_map, zip, codes, decimal, sum_by, if◌then◌else◌, unwrap_or, Option, None, option_map}
use Rattle.std.specs.List.{enumerate_from}
use Rattle.columns_core.specs.Causes.{Cause}
use Rattle.columns_core.specs.declared.cell.Cell.{Cell}
use Rattle.columns_core.specs.declared.data_type.DataType.{DataType}
use Rattle.column_ends.specs.Converted.{group_causes, group_cells}
use Rattle.parquet_meta.specs.declared.metadata.ColumnChunkMetaData.{ColumnChunkMetaData}
use Rattle.parquet_meta.specs.declared.metadata.Ends.{Ends}
use Rattle.parquet_meta.specs.declared.metadata.RowGroupMetaData.{RowGroupMetaData}
use Rattle.pq_common.specs.Rows.{line}
use Rattle.inspect_program.specs.Guess.{chunk_type}
use Rattle.inspect_program.specs.Pages.{indexes_length, pages_causes, pages_text, told_text}

-- ---- chunks

-- a chunk that lines are written of: the number of its column, and the type that it is read as
pub record ToldChunk : Type 0 where
  pub number : ℕ
  pub data_type : DataType
  pub column : ColumnChunkMetaData

-- nothing is known
abbrev pub no_ends : Ends Cell
no_ends = record { null_count = None; distinct_count = None; min_value = None; max_value = None }

abbrev pub statistics_line : ℕ → Ends Cell → List ℕ
statistics_line number ends =
    line (codes "stats " ++ decimal number ++ told_text ends.min_value ends.max_value ends.null_count)

-- what its statistics tell, of a chunk without a cause, and then its pages
abbrev pub told_chunk_text : ℕ → List ℕ → ToldChunk → List ℕ
told_chunk_text rows bytes chunk =
    statistics_line chunk.number (unwrap_or (group_cells chunk.data_type chunk.column) no_ends)
    ++ pages_text chunk.number rows chunk.data_type bytes chunk.column

abbrev pub told_chunk_causes : ℕ → List ℕ → ToldChunk → List Cause
told_chunk_causes rows bytes chunk =
    group_causes chunk.data_type chunk.column ++ pages_causes rows chunk.data_type bytes chunk.column

-- ---- groups

abbrev pub told_as : ℕ → DataType → ColumnChunkMetaData → ToldChunk
told_as number data_type column = record { number = number; data_type = data_type; column = column }

-- Of a column whose path begins as no other does, the chunk is told of where the column has a guess.
abbrev pub told_chunk : ℕ × (Bool × ColumnChunkMetaData) → Option ToldChunk
told_chunk chunk =
    option_map (λ data_type. told_as chunk.0 data_type (chunk.1).1)
    (if (chunk.1).0 then chunk_type ((chunk.1).1).descriptor else None)

-- the chunks of columns with a guess; the chunks of a group stand in the order of the columns
abbrev pub told_chunks : List Bool → List ColumnChunkMetaData → List ToldChunk
told_chunks singles chunks = filter_map told_chunk (enumerate_from 0 (zip singles chunks))

abbrev pub rows_line : ℕ → ℕ → List ℕ
rows_line number rows = line (codes "group " ++ decimal number ++ codes " " ++ decimal rows)

-- the number of the group from 0 on, how many rows it has, and its chunks
abbrev pub group_text : List Bool → List ℕ → ℕ × RowGroupMetaData → List ℕ
group_text singles bytes group =
    rows_line group.0 (group.1).num_rows
    ++ flat_map (told_chunk_text (group.1).num_rows bytes) (told_chunks singles (group.1).columns)

abbrev pub group_causes_told : List Bool → List ℕ → RowGroupMetaData → List Cause
group_causes_told singles bytes group =
    flat_map (told_chunk_causes group.num_rows bytes) (told_chunks singles group.columns)

-- how many bytes the indexes have that are read
abbrev pub group_indexes_length : List Bool → RowGroupMetaData → ℕ
group_indexes_length singles group =
    sum_by (λ (chunk : ToldChunk). indexes_length chunk.column) (told_chunks singles group.columns)

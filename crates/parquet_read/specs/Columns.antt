-- The bytes of a field's columns.
use Rattle.std.specs.Prelude.{ℕ, ◌&&◌, Bool, not, List, sum_by, Option, option_map}
use Rattle.std.specs.List.{list_all}
use Rattle.parquet_meta.specs.Chunks.{chunk_range}
use Rattle.parquet_meta.specs.Indexes.{field_columns}
use Rattle.parquet_meta.specs.Lists.{all_of}
use Rattle.parquet_meta.specs.Places.{part_at}
use Rattle.parquet_meta.specs.declared.metadata.ColumnChunkMetaData.{ColumnChunkMetaData}

-- a chunk that stands in this file, not encrypted
abbrev pub is_here : ColumnChunkMetaData → Bool
is_here column = not column.foreign && not column.encrypted

abbrev pub are_here : List ColumnChunkMetaData → Bool
are_here columns = list_all is_here columns

-- a column, with the bytes of its chunk
abbrev pub chunk_of_column : List ℕ → ColumnChunkMetaData → Option (ColumnChunkMetaData × List ℕ)
chunk_of_column file column = option_map (λ bytes. (column, bytes)) (part_at file (chunk_range column))

-- the columns of a field in their order
abbrev pub chunks_of_field : List ℕ → List ColumnChunkMetaData → List ℕ → Option (List (ColumnChunkMetaData × List ℕ))
chunks_of_field name columns file = all_of (chunk_of_column file) (field_columns name columns)

abbrev pub range_length : ColumnChunkMetaData → ℕ
range_length column = (chunk_range column).length

-- how many bytes these chunks have
abbrev pub chunks_length : List ColumnChunkMetaData → ℕ
chunks_length columns = sum_by range_length columns

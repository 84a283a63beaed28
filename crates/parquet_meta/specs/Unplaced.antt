-- Chunks that are kept as the columns that they will be, without their leaves, beside the types that they tell.
use Rattle.std.specs.Prelude.{List, [], ◌∷◌, Option, option_map}
use Rattle.parquet_meta.specs.declared.code.TypeCode.{TypeCode}
use Rattle.parquet_meta.specs.declared.footer.ChunkMetaData.{ChunkMetaData}
use Rattle.parquet_meta.specs.declared.footer.ChunkNumbers.{ChunkNumbers}
use Rattle.parquet_meta.specs.declared.footer.ColumnChunk.{ColumnChunk}
use Rattle.parquet_meta.specs.declared.metadata.ColumnChunkMetaData.{ColumnChunkMetaData}

abbrev pub Unplaced : Type 0
Unplaced = ColumnChunk

-- the numbers that a column tells
abbrev pub numbers_in : ColumnChunkMetaData → ChunkNumbers
numbers_in column = record {
  codec = column.codec;
  num_values = column.num_values;
  total_compressed_size = column.total_compressed_size;
  data_page_offset = column.data_page_offset;
  dictionary_page_offset = column.dictionary_page_offset;
  statistics = column.statistics_bytes;
}

abbrev pub words_in : ColumnChunkMetaData → TypeCode → ChunkMetaData
words_in column code = record { type_code = code; numbers = numbers_in column }

-- A chunk that tells no type says nothing of itself. The column's descriptor says nothing.
abbrev pub chunk_in : ColumnChunkMetaData → Option TypeCode → ColumnChunk
chunk_in column told = record {
  meta_data = option_map (words_in column) told;
  offset_index = column.offset_index;
  column_index = column.column_index;
  column_index_offset = column.column_index_offset;
  foreign = column.foreign;
  encrypted = column.encrypted;
}

unfoldable pub chunks_in : List ColumnChunkMetaData → List (Option TypeCode) → List ColumnChunk
chunks_in [] told = []
chunks_in (column ∷ columns) [] = []
chunks_in (column ∷ columns) (code ∷ told) = chunk_in column code ∷ chunks_in columns told

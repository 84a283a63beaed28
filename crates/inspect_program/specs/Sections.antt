-- The sections of an inspection that calls tell.
use Rattle.std.specs.Prelude.{ℕ, Bool, List, flat_map, sum_by}
use Rattle.parquet_meta.specs.declared.metadata.RowGroupMetaData.{RowGroupMetaData}
use Rattle.inspect_program.specs.Calls.{Section}
use Rattle.inspect_program.specs.Groups.{ToldChunk, told_chunk_causes, told_chunk_text, group_causes_told, group_indexes_length, group_text}
use Rattle.inspect_program.specs.Pages.{both_indexes_length, indexes_causes, indexes_length, page_line, pages_causes, pages_text, told_pages}

-- of the pages of a chunk, in a group of so many rows, where it has lines of pages
abbrev pub indexes_section : ℕ → ToldChunk → Section
indexes_section rows chunk = record {
  causes = λ bytes. indexes_causes rows chunk.data_type bytes chunk.column;
  text = λ bytes. flat_map (page_line chunk.number) (told_pages rows chunk.data_type bytes chunk.column);
  length = both_indexes_length chunk.column;
}

abbrev pub pages_section : ℕ → ToldChunk → Section
pages_section rows chunk = record {
  causes = λ bytes. pages_causes rows chunk.data_type bytes chunk.column;
  text = λ bytes. pages_text chunk.number rows chunk.data_type bytes chunk.column;
  length = indexes_length chunk.column;
}

-- of chunks in a group of so many rows
abbrev pub chunks_section : ℕ → List ToldChunk → Section
chunks_section rows chunks = record {
  causes = λ bytes. flat_map (told_chunk_causes rows bytes) chunks;
  text = λ bytes. flat_map (told_chunk_text rows bytes) chunks;
  length = sum_by (λ (chunk : ToldChunk). indexes_length chunk.column) chunks;
}

-- of groups, each with its number
abbrev pub groups_section : List Bool → List (ℕ × RowGroupMetaData) → Section
groups_section singles groups = record {
  causes = λ bytes. flat_map (λ (group : ℕ × RowGroupMetaData). group_causes_told singles bytes group.1) groups;
  text = λ bytes. flat_map (group_text singles bytes) groups;
  length = sum_by (λ (group : ℕ × RowGroupMetaData). group_indexes_length singles group.1) groups;
}

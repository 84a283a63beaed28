-- Pages, chunks and groups of the sample by their rows, and what is told of them.
use Rattle.std.specs.Prelude.{ℕ, List, map, Some}
use Rattle.std.specs.List.{range_with_len}
use Rattle.parquet_base.specs.Pieces.{cut}
use Rattle.parquet_meta.specs.declared.metadata.ColumnDescriptor.{ColumnDescriptor}
use Rattle.parquet_plain.specs.Columns.{Written, written_chunk, written_group, written_page}
use Rattle.parquet_plain.specs.Description.{PlainChunk, PlainGroup, PlainPage, descriptor_of}
use Rattle.parquet_sample.specs.Sample.{group_rows, rows_of_numbers, sample_columns}
use Rattle.parquet_sample.specs.Writing.{items_from, written_of}
use Rattle.parquet_sample.specs.declared.column.SampleColumn.{SampleColumn}
use Rattle.parquet_write.specs.Parts.{groups_facts, page_told, pages_told, starts_of}
use Rattle.parquet_write.specs.Told.{facts_of}
use Rattle.parquet_write.specs.declared.facts.ChunkFacts.{ChunkFacts}
use Rattle.parquet_write.specs.declared.facts.GroupFacts.{GroupFacts}
use Rattle.parquet_write.specs.declared.facts.PageFacts.{PageFacts}
use Rattle.parquet_write.specs.declared.parts.Parts.{Parts}

abbrev pub sample_page : SampleColumn → ℕ → ℕ → PlainPage
sample_page column first rows = written_page (written_of column) (items_from column first rows)

abbrev pub sample_chunk : SampleColumn → ℕ → ℕ → PlainChunk
sample_chunk column first rows = written_chunk (written_of column) (items_from column first rows)

abbrev pub sample_group : ℕ → ℕ → PlainGroup
sample_group first rows = written_group sample_columns (rows_of_numbers (range_with_len first rows))

-- the groups of so many rows
abbrev pub sample_groups : ℕ → ℕ → List PlainGroup
sample_groups first rows = map (written_group sample_columns) (map rows_of_numbers (cut (Some group_rows) (range_with_len first rows)))

-- ---- what is told

abbrev pub page_facts : SampleColumn → ℕ → ℕ → ℕ → ℕ → PageFacts
page_facts column first rows start row = page_told start row (sample_page column first rows)

abbrev pub pages_facts : SampleColumn → ℕ → ℕ → ℕ → List PageFacts
pages_facts column first rows start = pages_told start 0 (sample_chunk column first rows).pages

abbrev pub sample_descriptors : List ColumnDescriptor
sample_descriptors = map descriptor_of (map (λ (to : Written). to.column) sample_columns)

abbrev pub chunk_facts : Parts → SampleColumn → ℕ → ℕ → ChunkFacts
chunk_facts parts column first rows = facts_of (starts_of parts) (sample_chunk column first rows)

abbrev pub sample_facts : Parts → ℕ → ℕ → List GroupFacts
sample_facts parts first rows = groups_facts (starts_of parts) (sample_groups first rows)

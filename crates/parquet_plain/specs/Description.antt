-- What a plain file is to hold: columns, and for each group and column its pages.
use Rattle.parquet_meta.specs.Records.{StoredIndex}
use Rattle.std.specs.Prelude.{ℕ, ◌+◌, pos, true, is_none, List, [], ◌∷◌, ◌++◌, length, map, sum_by, Option, Some, None}
use Rattle.std.specs.List.{flat_map}
use Rattle.parquet_meta.specs.ColumnIndex.{index_with}
use Rattle.parquet_meta.specs.declared.metadata.ColumnDescriptor.{ColumnDescriptor}
use Rattle.parquet_meta.specs.declared.metadata.PageLocation.{PageLocation}
use Rattle.parquet_meta.specs.declared.metadata.PrimitiveType.{PrimitiveType}
use Rattle.parquet_meta.specs.declared.metadata.StatisticsBytes.{StatisticsBytes}
use Rattle.parquet_plain.specs.declared.ends.Ends.{Ends}
use Rattle.parquet_plain.specs.Structs.{page_header_bytes}

-- a page: its rows, its body, how many of its items are null, and its ends, where an item is present
pub record PlainPage : Type 0 where
  pub rows : ℕ
  pub body : List ℕ
  pub nulls : ℕ
  pub ends : Option Ends

pub record PlainChunk : Type 0 where
  pub pages : List PlainPage
  pub nulls : ℕ
  pub ends : Option Ends

-- a group: a chunk for each column
pub record PlainGroup : Type 0 where
  pub rows : ℕ
  pub chunks : List PlainChunk

pub record PlainColumn : Type 0 where
  pub name : List ℕ
  pub type : PrimitiveType

pub record PlainFile : Type 0 where
  pub columns : List PlainColumn
  pub groups : List PlainGroup

-- ---- the bytes of pages and chunks

unfoldable pub page_bytes : PlainPage → List ℕ
page_bytes page = page_header_bytes page.rows (length page.body) ++ page.body

abbrev pub chunk_bytes : PlainChunk → List ℕ
chunk_bytes chunk = flat_map page_bytes chunk.pages

abbrev pub rows_of_pages : List PlainPage → ℕ
rows_of_pages pages = sum_by (λ page. page.rows) pages

abbrev pub rows_of_chunk : PlainChunk → ℕ
rows_of_chunk chunk = rows_of_pages chunk.pages

-- ---- what is told of them

-- an end, or no byte where there is none
abbrev pub least_of : Option Ends → List ℕ
least_of None = []
least_of (Some ends) = ends.least

abbrev pub greatest_of : Option Ends → List ℕ
greatest_of None = []
greatest_of (Some ends) = ends.greatest

abbrev pub index_of_chunk : PlainChunk → StoredIndex
index_of_chunk chunk =
    index_with (map (λ (page : PlainPage). is_none page.ends) chunk.pages) (map (λ (page : PlainPage). least_of page.ends) chunk.pages) (map (λ (page : PlainPage). greatest_of page.ends) chunk.pages)
    (Some (map (λ (page : PlainPage). pos page.nulls) chunk.pages))

-- where pages stand that begin at a place of the file, and with a row
abbrev pub locations_from : ℕ → ℕ → List PlainPage → List PageLocation
locations_from start row [] = []
locations_from start row (page ∷ pages) =
    record { offset = pos start; compressed_page_size = pos (length (page_bytes page)); first_row_index = pos row } ∷ locations_from (start + length (page_bytes page)) (row + page.rows) pages

abbrev pub statistics_from : ℕ → Option Ends → StatisticsBytes
statistics_from nulls None = record { null_count = Some (pos nulls); distinct_count = None; max_value = None; min_value = None }
statistics_from nulls (Some ends) = record { null_count = Some (pos nulls); distinct_count = None; max_value = Some ends.greatest; min_value = Some ends.least }

abbrev pub statistics_of_chunk : PlainChunk → StatisticsBytes
statistics_of_chunk chunk = statistics_from chunk.nulls chunk.ends

abbrev pub descriptor_of : PlainColumn → ColumnDescriptor
descriptor_of column = record { path_in_schema = column.name ∷ []; primitive_type = column.type; flat = true }

-- Columns of items as plain chunks: the items in pages of a size, with their ends by an order.
use Rattle.std.specs.Prelude.{ℕ, Bool, List, [], ◌∷◌, length, map, count_by, is_none, if◌then◌else◌, Option, Some, None}
use Rattle.parquet_base.specs.Pieces.{cut}
use Rattle.std.specs.Int.{w32, w64, cast_unsigned}
use Rattle.parquet_meta.specs.declared.metadata.PhysicalType.{PhysicalType}
use Rattle.parquet_meta.specs.declared.metadata.PhysicalType.TheVariants as types
use Rattle.parquet_page.specs.Stored.{Stored}
use Rattle.parquet_plain.specs.Bodies.{octets_of, number_octets, truth_in, bit, present, body_bytes}
use Rattle.parquet_plain.specs.Description.{PlainPage, PlainChunk, PlainGroup, PlainColumn, PlainFile}
use Rattle.parquet_plain.specs.declared.ends.Ends.{Ends}

-- a column that is written: its name and type, the order of its items, and how many rows a page has
pub record Written : Type 0 where
  pub column : PlainColumn
  pub at_most : Stored → Stored → Bool
  pub page_rows : ℕ

-- ---- ends

-- the one of two items that comes first by an order
abbrev pub first_of : (Stored → Stored → Bool) → Stored → Stored → Stored
first_of at_most a b = if at_most a b then a else b

abbrev pub last_of : (Stored → Stored → Bool) → Stored → Stored → Stored
last_of at_most a b = if at_most a b then b else a

-- the least of items and one more
abbrev pub least : (Stored → Stored → Bool) → Stored → List Stored → Stored
least at_most item [] = item
least at_most item (next ∷ items) = least at_most (first_of at_most item next) items

abbrev pub greatest : (Stored → Stored → Bool) → Stored → List Stored → Stored
greatest at_most item [] = item
greatest at_most item (next ∷ items) = greatest at_most (last_of at_most item next) items

-- an end as it is stored: a byte array without a length, anything else as a plain value
abbrev pub end_bytes : PhysicalType → Stored → List ℕ
end_bytes types.Boolean item = bit (truth_in item) ∷ []
end_bytes types.Int32 item = number_octets 4 (cast_unsigned w32) item
end_bytes types.Int64 item = number_octets 8 (cast_unsigned w64) item
end_bytes _ item = octets_of item

abbrev pub ends_of : PhysicalType → (Stored → Stored → Bool) → List Stored → Option Ends
ends_of type at_most [] = None
ends_of type at_most (item ∷ items) = Some (record { least = end_bytes type (least at_most item items); greatest = end_bytes type (greatest at_most item items) })

-- ---- pages, chunks and files

abbrev pub nulls_of : List (Option Stored) → ℕ
nulls_of items = count_by is_none items

unfoldable pub written_page : Written → List (Option Stored) → PlainPage
written_page to items =
    let type = to.column.type in
    record { rows = length items; body = body_bytes type.physical_type type.repetition items; nulls = nulls_of items; ends = ends_of type.physical_type to.at_most (present items) }

unfoldable pub written_chunk : Written → List (Option Stored) → PlainChunk
written_chunk to items =
    record { pages = map (written_page to) (cut (Some to.page_rows) items); nulls = nulls_of items; ends = ends_of to.column.type.physical_type to.at_most (present items) }

-- the chunks of a group, of items for each column
unfoldable pub written_chunks : List Written → List (List (Option Stored)) → List PlainChunk
written_chunks (to ∷ columns) (items ∷ others) = written_chunk to items ∷ written_chunks columns others
written_chunks _ _ = []

-- a group: how many rows it has, and the items of each column
pub record Rows : Type 0 where
  pub count : ℕ
  pub items : List (List (Option Stored))

abbrev pub written_group : List Written → Rows → PlainGroup
written_group columns rows = record { rows = rows.count; chunks = written_chunks columns rows.items }

unfoldable pub written_file : List Written → List Rows → PlainFile
written_file columns groups = record { columns = map (λ (to : Written). to.column) columns; groups = map (written_group columns) groups }

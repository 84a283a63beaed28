-- Arrays as items of a type, and the chunks that they become.
use Rattle.std.specs.Prelude.{◌≡◌, ◌∷◌, [], ℕ, Bool, List, length, map, Option, Some, Result, IfOk, IsTrue}
use Rattle.columns_core.specs.Array.{column_of}
use Rattle.columns_core.specs.declared.array.Array.{Array}
use Rattle.columns_core.specs.declared.cell.Cell.{Cell}
use Rattle.columns_core.specs.declared.data_type.DataType.{DataType}
use Rattle.columns_core.specs.declared.data_type.Field.{Field}
use Rattle.columns_core.specs.declared.error.Error.{Error}
use Rattle.parquet_meta.specs.declared.metadata.PhysicalType.{PhysicalType}
use Rattle.parquet_page.specs.Stored.{Stored}
use Rattle.parquet_plain.specs.Columns.{written_group}
use Rattle.parquet_plain.specs.Description.{PlainChunk, PlainGroup}
use Rattle.parquet_plain.specs.Short.{is_short_chunk}
use Rattle.parquet_write.specs.Parts.{AddsChunks, OverflowsUnless, starts_of}
use Rattle.parquet_write.specs.Told.{facts_of}
use Rattle.parquet_write.specs.declared.facts.ChunkFacts.{ChunkFacts}
use Rattle.parquet_write.specs.declared.parts.Parts.{Parts}
use Rattle.put_program.specs.Orders.{order_of}
use Rattle.put_program.specs.Put.{stored_rows, written_field}
use Rattle.put_program.specs.Stored.{is_written, type_stored, stored_cell}

-- The items are what is stored of cells of a type, in its order, and as its physical type where it is written.
pub record AreStored (data_type : DataType) (cells : List Cell) (type_ : PhysicalType)
    (at_most : Stored → Stored → Bool) (items : List (Option Stored)) : Type 0 where
  pub physical : IsTrue (is_written data_type) → (type_stored data_type).0 ≡ type_
  pub order : order_of data_type ≡ at_most
  pub same : map (stored_cell data_type) cells ≡ items

-- the chunk stands behind what stood, and is told of; it is refused only where it is too large
pub record AddsColumn (chunk : PlainChunk) (old : Parts) (result : Result ChunkFacts Error) (new : Parts)
    : Type 0 where
  pub adds : IfOk result (λ _. AddsChunks old new (chunk ∷ []))
  pub told : IfOk result (λ told. told ≡ facts_of (starts_of old) chunk)
  pub short : OverflowsUnless (is_short_chunk (length old.chunks.items) chunk) result

-- Values of a type are stored so: as its physical type where it is written, in its order, each as its cell is stored.
pub record StoresValues {T : Type 0} (data_type : DataType) (type_ : PhysicalType)
    (at_most : Stored → Stored → Bool) (cell : T → Cell) (stored : T → Stored) : Type 0 where
  pub physical : IsTrue (is_written data_type) → (type_stored data_type).0 ≡ type_
  pub order : order_of data_type ≡ at_most
  pub each : (value : T) → stored_cell data_type (cell value) ≡ Some (stored value)

-- what is stored of a value
pub record IsStored {T : Type 0} (stored : T → Stored) (item : Stored) : Type 0 where
  pub value : T
  pub is : item ≡ stored value

-- ---- groups

-- of a chunk of arrays
abbrev pub put_group : ℕ → List Field → List Array → PlainGroup
put_group page_rows fields arrays =
    written_group (map (written_field page_rows) fields) (stored_rows (map column_of arrays))

abbrev pub put_groups : ℕ → List Field → List (List Array) → List PlainGroup
put_groups page_rows fields chunks = map (put_group page_rows fields) chunks

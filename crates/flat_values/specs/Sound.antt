-- What conversions give.
use Rattle.std.specs.Prelude.{◌≡◌, ◌==◌, ℕ, Bool, true, false, List, length, Option, Some}
use Rattle.std.specs.List.{list_all}
use Rattle.columns_core.specs.declared.cell.Cell.{Cell}
use Rattle.columns_core.specs.declared.data_type.DataType.{DataType}
use Rattle.parquet_meta.specs.declared.metadata.PhysicalType.{PhysicalType}
use Rattle.parquet_meta.specs.declared.metadata.PhysicalType.TheVariants.{Boolean, Int32, Int64, Int96, ByteArray, FixedLenByteArray}
use Rattle.parquet_meta.specs.declared.metadata.PrimitiveType.{PrimitiveType}
use Rattle.parquet_page.specs.Content.{DataContent, DictContent}
use Rattle.parquet_page.specs.Stored.{Stored, Number, Truth, Words, Octets}
use Rattle.columns_core.specs.Types.{signed_range, is_in}
use Rattle.flat_values.specs.CellTypes.{is_cell_of}
use Rattle.flat_values.specs.Conversion.{Conversion, Item, Value, NotInRange, NotText, convert}
use Rattle.flat_values.specs.Ends.{stored_end}
use Rattle.flat_values.specs.Items.{page_items}
use Rattle.flat_values.specs.Pairs.{conversion}

-- a value that a column of this type stores
abbrev pub is_stored_as : PhysicalType → Stored → Bool
is_stored_as Boolean (Truth b) = true
is_stored_as Int32 (Number n) = is_in (signed_range 32) n
is_stored_as Int64 (Number n) = is_in (signed_range 64) n
is_stored_as Int96 (Words low high day) = true
is_stored_as ByteArray (Octets bytes) = true
is_stored_as (FixedLenByteArray size) (Octets bytes) = length bytes == size
is_stored_as _ _ = false

-- A converted item is null or a value of the type that is asked for, of the entries' type where that is a dictionary's.
abbrev pub ConvertsToType : Type 0
ConvertsToType =
    (stored : PrimitiveType) (data_type : DataType) (rule : Conversion) (value : Stored) (cell : Cell) →
    conversion stored data_type ≡ Some rule → is_stored_as stored.physical_type value ≡ true → convert rule value ≡ Value cell → is_cell_of data_type cell ≡ true

-- Ends are such values as their column stores.
abbrev pub EndsAreStored : Type 0
EndsAreStored = (type : PhysicalType) (bytes : List ℕ) (value : Stored) → stored_end type bytes ≡ Some value → is_stored_as type value ≡ true

-- an item that is a value of the type, if it is one at all
abbrev pub is_item_of : DataType → Item → Bool
is_item_of data_type (Value cell) = is_cell_of data_type cell
is_item_of data_type NotInRange = true
is_item_of data_type NotText = true

-- All items of a page are null or values of the type that is asked for.
abbrev pub PageHasType : Type 0
PageHasType =
    (data_type : DataType) (dictionary : Option DictContent) (page : DataContent) (items : List Item) →
    page_items data_type dictionary page ≡ Some items → list_all (is_item_of data_type) items ≡ true

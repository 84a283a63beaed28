-- What the parts of a builder stand for, and which types they are parts of.
use Rattle.std.specs.Prelude.{ℕ, ◌==◌, ◌&&◌, not, Bool, true, false, List, map, replicate}
use Rattle.columns_core.specs.Array.{natural}
use Rattle.columns_core.specs.Column.{cell_of}
use Rattle.columns_core.specs.ElementType.{days_ms_cell, fixed_size, is_boolean, stores_i8, stores_i16, stores_i32, stores_i64, stores_u8, stores_u16, stores_u32, stores_u64, stores_i128, stores_days_ms}
use Rattle.columns_core.specs.declared.cell.Cell.{Cell, Null, Bool as Truth, Int, Bytes}
use Rattle.columns_core.specs.declared.data_type.DataType.{DataType}
use Rattle.columns_core.specs.declared.data_type.DataType as type
use Rattle.columns_core.specs.declared.data_type.DataType.TheOpen.{DataType-F}
use Rattle.columns_core.specs.Types.{Layer}
use Rattle.columns_core.specs.declared.data_type.IntervalUnit.TheVariants.{DayTime}
use Rattle.flat_builders.specs.Strings.{string_cell, stores_strings}
use Rattle.flat_builders.specs.declared.building.Building.{Building}
use Rattle.flat_builders.specs.declared.building.Building.TheVariants as part

-- the cells that were appended
abbrev pub built_cells : Building → List Cell
built_cells (part.Nulls count) = replicate count Null
built_cells (part.Truths items) = map (cell_of Truth) items
built_cells (part.Int8 items) = map (cell_of Int) items
built_cells (part.Int16 items) = map (cell_of Int) items
built_cells (part.Int32 items) = map (cell_of Int) items
built_cells (part.Int64 items) = map (cell_of Int) items
built_cells (part.UInt8 items) = map natural items
built_cells (part.UInt16 items) = map natural items
built_cells (part.UInt32 items) = map natural items
built_cells (part.UInt64 items) = map natural items
built_cells (part.Int128 items) = map (cell_of Int) items
built_cells (part.DaysMs items) = map (cell_of days_ms_cell) items
built_cells (part.Fixed bytes) = map (cell_of Bytes) bytes.1
built_cells (part.Strings strings) = map (cell_of (string_cell strings.0)) strings.1
built_cells (part.LargeStrings strings) = map (cell_of (string_cell strings.0)) strings.1

abbrev pub is_type_of_nulls : DataType → Bool
is_type_of_nulls type.Null = true
is_type_of_nulls _ = false

-- bytes of so many each, and of some
abbrev pub has_size : ℕ → DataType → Bool
has_size size data_type = fixed_size data_type == size && not (size == 0)

-- they are kept as values of this type are
abbrev pub is_kept_as : Building → DataType → Bool
is_kept_as (part.Nulls count) = is_type_of_nulls
is_kept_as (part.Truths items) = is_boolean
is_kept_as (part.Int8 items) = stores_i8
is_kept_as (part.Int16 items) = stores_i16
is_kept_as (part.Int32 items) = stores_i32
is_kept_as (part.Int64 items) = stores_i64
is_kept_as (part.UInt8 items) = stores_u8
is_kept_as (part.UInt16 items) = stores_u16
is_kept_as (part.UInt32 items) = stores_u32
is_kept_as (part.UInt64 items) = stores_u64
is_kept_as (part.Int128 items) = stores_i128
is_kept_as (part.DaysMs items) = stores_days_ms
is_kept_as (part.Fixed bytes) = has_size bytes.0
is_kept_as (part.Strings strings) = stores_strings strings.0 false
is_kept_as (part.LargeStrings strings) = stores_strings strings.0 true

-- of texts or of byte strings, by offsets of 64 bits or of 32
abbrev pub byte_layer : Bool → Bool → Layer
byte_layer true true = DataType-F.LargeUtf8
byte_layer true false = DataType-F.Utf8
byte_layer false true = DataType-F.LargeBinary
byte_layer false false = DataType-F.Binary

-- the outermost constructor of a type whose values are kept so
abbrev pub kept_layer : Building → Layer
kept_layer (part.Nulls count) = DataType-F.Null
kept_layer (part.Truths items) = DataType-F.Boolean
kept_layer (part.Int8 items) = DataType-F.Int8
kept_layer (part.Int16 items) = DataType-F.Int16
kept_layer (part.Int32 items) = DataType-F.Int32
kept_layer (part.Int64 items) = DataType-F.Int64
kept_layer (part.UInt8 items) = DataType-F.UInt8
kept_layer (part.UInt16 items) = DataType-F.UInt16
kept_layer (part.UInt32 items) = DataType-F.UInt32
kept_layer (part.UInt64 items) = DataType-F.UInt64
kept_layer (part.Int128 items) = DataType-F.Decimal 0 0
kept_layer (part.DaysMs items) = DataType-F.Interval DayTime
kept_layer (part.Fixed bytes) = DataType-F.FixedSizeBinary bytes.0
kept_layer (part.Strings strings) = byte_layer strings.0 false
kept_layer (part.LargeStrings strings) = byte_layer strings.0 true

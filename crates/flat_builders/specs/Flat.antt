-- Which types are flat: their values lie in one array, and are no arrays and no entries of a dictionary.
use Rattle.std.specs.Prelude.{◌==◌, if◌then◌else◌}
use Rattle.columns_core.specs.declared.data_type.DataType.{DataType, out-DataType}
use Rattle.columns_core.specs.declared.data_type.DataType.TheOpen.{DataType-F}
use Rattle.columns_core.specs.Types.{Layer}

-- Bytes of a fixed size have to have some.
pub data Flatness : Type 0 where
  Flat : Flatness
  Sizeless : Flatness
  Nested : Flatness

abbrev pub flatness_at : Layer → Flatness
flatness_at DataType-F.Null = Flat
flatness_at DataType-F.Boolean = Flat
flatness_at DataType-F.Int8 = Flat
flatness_at DataType-F.Int16 = Flat
flatness_at DataType-F.Int32 = Flat
flatness_at DataType-F.Int64 = Flat
flatness_at DataType-F.UInt8 = Flat
flatness_at DataType-F.UInt16 = Flat
flatness_at DataType-F.UInt32 = Flat
flatness_at DataType-F.UInt64 = Flat
flatness_at DataType-F.Date32 = Flat
flatness_at DataType-F.Date64 = Flat
flatness_at (DataType-F.Time32 unit) = Flat
flatness_at (DataType-F.Time64 unit) = Flat
flatness_at (DataType-F.Duration unit) = Flat
flatness_at (DataType-F.Timestamp unit time_zone) = Flat
flatness_at (DataType-F.Interval unit) = Flat
flatness_at (DataType-F.Decimal precision scale) = Flat
flatness_at DataType-F.Utf8 = Flat
flatness_at DataType-F.LargeUtf8 = Flat
flatness_at DataType-F.Binary = Flat
flatness_at DataType-F.LargeBinary = Flat
flatness_at (DataType-F.FixedSizeBinary size) = if size == 0 then Sizeless else Flat
flatness_at (DataType-F.Dictionary key value ordered) = Nested
flatness_at (DataType-F.List field) = Nested
flatness_at (DataType-F.LargeList field) = Nested
flatness_at (DataType-F.Struct fields) = Nested
flatness_at (DataType-F.Map field is_sorted) = Nested

abbrev pub flatness : DataType → Flatness
flatness data_type = flatness_at (out-DataType data_type)

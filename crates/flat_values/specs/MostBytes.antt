-- How many bytes the texts or byte strings of an array have together at most.
use Rattle.std.specs.Prelude.{ℕ, ◌-◌, ◌^◌, Option, Some, None}
use Rattle.columns_core.specs.declared.data_type.DataType.{DataType, out-DataType}
use Rattle.columns_core.specs.declared.data_type.DataType.TheOpen.{DataType-F}
use Rattle.columns_core.specs.Types.{Layer}

-- The places of texts and byte strings are numbers with a sign, of 32 bits or of 64. Arrays of other types have no such places.
abbrev pub most_bytes_at : Layer → Option ℕ
most_bytes_at DataType-F.Utf8 = Some (2 ^ 31 - 1)
most_bytes_at DataType-F.Binary = Some (2 ^ 31 - 1)
most_bytes_at DataType-F.LargeUtf8 = Some (2 ^ 63 - 1)
most_bytes_at DataType-F.LargeBinary = Some (2 ^ 63 - 1)
most_bytes_at DataType-F.Null = None
most_bytes_at DataType-F.Boolean = None
most_bytes_at DataType-F.Int8 = None
most_bytes_at DataType-F.Int16 = None
most_bytes_at DataType-F.Int32 = None
most_bytes_at DataType-F.Int64 = None
most_bytes_at DataType-F.UInt8 = None
most_bytes_at DataType-F.UInt16 = None
most_bytes_at DataType-F.UInt32 = None
most_bytes_at DataType-F.UInt64 = None
most_bytes_at DataType-F.Date32 = None
most_bytes_at DataType-F.Date64 = None
most_bytes_at (DataType-F.Time32 unit) = None
most_bytes_at (DataType-F.Time64 unit) = None
most_bytes_at (DataType-F.Duration unit) = None
most_bytes_at (DataType-F.Timestamp unit time_zone) = None
most_bytes_at (DataType-F.Interval unit) = None
most_bytes_at (DataType-F.Decimal precision scale) = None
most_bytes_at (DataType-F.FixedSizeBinary size) = None
most_bytes_at (DataType-F.Dictionary key value ordered) = None
most_bytes_at (DataType-F.List field) = None
most_bytes_at (DataType-F.LargeList field) = None
most_bytes_at (DataType-F.Struct fields) = None
most_bytes_at (DataType-F.Map field sorted) = None

abbrev pub most_bytes : DataType → Option ℕ
most_bytes data_type = most_bytes_at (out-DataType data_type)

-- The values of each type.
use Rattle.std.specs.Prelude.{ℕ, ◌-◌, ◌^◌, ℤ, pos, neg_ℤ, int_le, Bool, true, false, ◌==◌, ◌&&◌, Option, Some, None, is_some}
use Rattle.columns_core.specs.declared.data_type.DataType.{DataType, out-DataType}
use Rattle.columns_core.specs.declared.data_type.DataType.TheOpen.{DataType-F}
use Rattle.columns_core.specs.declared.data_type.Field.{Field}

-- a type, with the types inside it behind its outermost constructor
abbrev pub Layer : Type 0
Layer = DataType-F DataType Field

-- of a dictionary type the type of its entries, and of any other the type itself
abbrev pub value_type_at : DataType → Layer → DataType
value_type_at data_type (DataType-F.Dictionary key value ordered) = value
value_type_at data_type _ = data_type

abbrev pub value_type : DataType → DataType
value_type data_type = value_type_at data_type (out-DataType data_type)

abbrev pub signed_range : ℕ → ℤ × ℤ
signed_range bits = (neg_ℤ (pos (2 ^ (bits - 1))), pos (2 ^ (bits - 1) - 1))

abbrev pub unsigned_range : ℕ → ℤ × ℤ
unsigned_range bits = (pos 0, pos (2 ^ bits - 1))

-- a number lies between a least and a greatest one
abbrev pub is_in : ℤ × ℤ → ℤ → Bool
is_in range n = int_le range.0 n && int_le n range.1

-- the least and the greatest number of a type of numbers
abbrev pub number_range_at : Layer → Option (ℤ × ℤ)
number_range_at DataType-F.Int8 = Some (signed_range 8)
number_range_at DataType-F.Int16 = Some (signed_range 16)
number_range_at DataType-F.Int32 = Some (signed_range 32)
number_range_at DataType-F.Int64 = Some (signed_range 64)
number_range_at DataType-F.UInt8 = Some (unsigned_range 8)
number_range_at DataType-F.UInt16 = Some (unsigned_range 16)
number_range_at DataType-F.UInt32 = Some (unsigned_range 32)
number_range_at DataType-F.UInt64 = Some (unsigned_range 64)
number_range_at DataType-F.Date32 = Some (signed_range 32)
number_range_at DataType-F.Date64 = Some (signed_range 64)
number_range_at (DataType-F.Time32 unit) = Some (signed_range 32)
number_range_at (DataType-F.Time64 unit) = Some (signed_range 64)
number_range_at (DataType-F.Duration unit) = Some (signed_range 64)
number_range_at (DataType-F.Timestamp unit time_zone) = Some (signed_range 64)
number_range_at (DataType-F.Decimal precision scale) = Some (signed_range 128)
number_range_at _ = None

abbrev pub number_range : DataType → Option (ℤ × ℤ)
number_range data_type = number_range_at (out-DataType data_type)

abbrev pub is_text_at : Layer → Bool
is_text_at DataType-F.Utf8 = true
is_text_at DataType-F.LargeUtf8 = true
is_text_at _ = false

abbrev pub is_text : DataType → Bool
is_text data_type = is_text_at (out-DataType data_type)

-- a type of bytes
abbrev pub is_byte_type_at : Layer → Bool
is_byte_type_at DataType-F.Binary = true
is_byte_type_at DataType-F.LargeBinary = true
is_byte_type_at (DataType-F.FixedSizeBinary size) = true
is_byte_type_at _ = false

abbrev pub is_byte_type : DataType → Bool
is_byte_type data_type = is_byte_type_at (out-DataType data_type)

-- a type of bytes takes so many
abbrev pub takes_bytes_at : Layer → ℕ → Bool
takes_bytes_at DataType-F.Binary n = true
takes_bytes_at DataType-F.LargeBinary n = true
takes_bytes_at (DataType-F.FixedSizeBinary size) n = n == size
takes_bytes_at _ n = false

abbrev pub takes_bytes : DataType → ℕ → Bool
takes_bytes data_type = takes_bytes_at (out-DataType data_type)

abbrev pub is_ordered_at : Layer → Bool → Bool → Bool
is_ordered_at DataType-F.Binary number text = true
is_ordered_at DataType-F.LargeBinary number text = true
is_ordered_at (DataType-F.FixedSizeBinary size) number text = true
is_ordered_at _ true text = true
is_ordered_at _ false text = text

-- values of the type are compared: numbers, texts and bytes
abbrev pub is_ordered : DataType → Bool
is_ordered data_type = is_ordered_at (out-DataType data_type) (is_some (number_range data_type)) (is_text data_type)

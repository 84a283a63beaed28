-- Which types the arrays of bytes and texts have.
use Rattle.std.specs.Prelude.{Bool, true, false}
use Rattle.columns_core.specs.declared.data_type.DataType.{DataType, Utf8, LargeUtf8, Binary, LargeBinary}

-- with offsets of 32 bits, or of 64
abbrev pub is_binary : Bool → DataType → Bool
is_binary false Binary = true
is_binary true LargeBinary = true
is_binary _ _ = false

abbrev pub is_sized_text : Bool → DataType → Bool
is_sized_text false Utf8 = true
is_sized_text true LargeUtf8 = true
is_sized_text _ _ = false

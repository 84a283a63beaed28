-- The order of what is stored, which is that of the cells.
use Rattle.std.specs.Prelude.{ℕ, ℤ, pos, ◌||◌, int_le, not, Bool, List, reverse}
use Rattle.std.specs.Cmp.Lexicographic.{slice_cmp}
use Rattle.std.specs.Int.{Width, w32, w64, w128, cast_signed, cast_unsigned}
use Rattle.std.specs.Ordering.{is_gt, nat_cmp}
use Rattle.columns_core.specs.declared.data_type.DataType.{DataType}
use Rattle.columns_core.specs.declared.data_type.DataType as type
use Rattle.parquet_base.specs.Bytes.{little_endian}
use Rattle.parquet_page.specs.Stored.{Stored, Number, Truth, Words, Octets}
use Rattle.parquet_plain.specs.Bodies.{octets_of, truth_in}
use Rattle.parquet_plain.specs.Orders.{numbers_at_most}

-- (asked only of what is stored as numbers)
abbrev pub stored_integer : Stored → ℤ
stored_integer (Number n) = n
stored_integer (Truth b) = pos 0
stored_integer (Words low middle high) = pos 0
stored_integer (Octets bytes) = pos 0

-- false before true
abbrev pub truths_at_most : Stored → Stored → Bool
truths_at_most a b = not (truth_in a) || truth_in b

-- the number that the bits stand for without a sign
abbrev pub unsigned_integer : Width → Stored → ℤ
unsigned_integer width item = pos (cast_unsigned width (stored_integer item))

abbrev pub unsigned_at_most : Width → Stored → Stored → Bool
unsigned_at_most width a b = int_le (unsigned_integer width a) (unsigned_integer width b)

-- the number that 16 bytes stand for, the highest first
abbrev pub decimal_of : List ℕ → ℤ
decimal_of bytes = cast_signed w128 (little_endian (reverse bytes))

abbrev pub decimals_at_most : Stored → Stored → Bool
decimals_at_most a b = int_le (decimal_of (octets_of a)) (decimal_of (octets_of b))

-- byte by byte; a beginning comes first
abbrev pub bytes_at_most : Stored → Stored → Bool
bytes_at_most a b = not (is_gt (slice_cmp nat_cmp (octets_of a) (octets_of b)))

-- the order of a type's values: as numbers with a sign, unless it is named here
abbrev pub order_of : DataType → Stored → Stored → Bool
order_of type.Boolean = truths_at_most
order_of type.UInt32 = unsigned_at_most w32
order_of type.UInt64 = unsigned_at_most w64
order_of (type.Decimal precision scale) = decimals_at_most
order_of type.Utf8 = bytes_at_most
order_of type.LargeUtf8 = bytes_at_most
order_of type.Binary = bytes_at_most
order_of type.LargeBinary = bytes_at_most
order_of (type.FixedSizeBinary size) = bytes_at_most
order_of _ = numbers_at_most

-- The bodies of plain pages: levels in one packed run, and plain values.
use Rattle.std.specs.Prelude.{ℕ, zero, suc, ◌+◌, ◌*◌, ◌/◌, ◌%◌, ℤ, Bool, true, false, List, [], ◌∷◌, ◌++◌, length, map, filter_map, is_some, Option}
use Rattle.std.specs.Int.{w32, w64, cast_unsigned}
use Rattle.std.specs.List.{flat_map}
use Rattle.compact_write.specs.Written.{varint_bytes}
use Rattle.parquet_meta.specs.declared.metadata.PhysicalType.{PhysicalType}
use Rattle.parquet_meta.specs.declared.metadata.PhysicalType.TheVariants as types
use Rattle.parquet_meta.specs.declared.metadata.Repetition.{Repetition}
use Rattle.parquet_meta.specs.declared.metadata.Repetition.TheVariants.{Required, Optional, Repeated}
use Rattle.parquet_page.specs.Stored.{Stored, Number, Truth, Octets}

-- a number in so many bytes, the lowest first
unfoldable pub number_bytes : ℕ → ℕ → List ℕ
number_bytes zero n = []
number_bytes (suc count) n = n % 256 ∷ number_bytes count (n / 256)

-- ---- bits

abbrev pub bit : Bool → ℕ
bit true = 1
bit false = 0

-- truth values as one number, the first in the lowest bit
unfoldable pub number_of_bits : List Bool → ℕ
number_of_bits [] = 0
number_of_bits (b ∷ bs) = bit b + 2 * number_of_bits bs

abbrev pub groups_of_bits : ℕ → ℕ
groups_of_bits count = (count + 7) / 8

-- in whole bytes, the bits that are left over being 0
unfoldable pub bits_bytes : List Bool → List ℕ
bits_bytes bs = number_bytes (groups_of_bits (length bs)) (number_of_bits bs)

-- levels of width 1 in one packed run
unfoldable pub level_bytes : List Bool → List ℕ
level_bytes bs = varint_bytes (2 * groups_of_bits (length bs) + 1) ++ bits_bytes bs

-- ---- values

abbrev pub octets_of : Stored → List ℕ
octets_of (Octets bytes) = bytes
octets_of _ = []

abbrev pub number_octets : ℕ → (ℤ → ℕ) → Stored → List ℕ
number_octets size pattern (Number n) = number_bytes size (pattern n)
number_octets size pattern _ = []

abbrev pub truth_in : Stored → Bool
truth_in (Truth b) = b
truth_in _ = false

abbrev pub with_length : List ℕ → List ℕ
with_length bytes = number_bytes 4 (length bytes) ++ bytes

-- (a plain file has no values of the three other types)
unfoldable pub values_bytes : PhysicalType → List Stored → List ℕ
values_bytes types.Boolean values = bits_bytes (map truth_in values)
values_bytes types.Int32 values = flat_map (number_octets 4 (cast_unsigned w32)) values
values_bytes types.Int64 values = flat_map (number_octets 8 (cast_unsigned w64)) values
values_bytes types.ByteArray values = flat_map (λ value. with_length (octets_of value)) values
values_bytes (types.FixedLenByteArray width) values = flat_map octets_of values
values_bytes types.Int96 values = []
values_bytes types.Float values = []
values_bytes types.Double values = []

-- ---- bodies

-- (and no repeated column)
abbrev pub levels_of : Repetition → List (Option Stored) → List ℕ
levels_of Required items = []
levels_of Optional items = with_length (level_bytes (map is_some items))
levels_of Repeated items = []

abbrev pub present : List (Option Stored) → List Stored
present items = filter_map (λ item. item) items

-- the body of a page of these items
unfoldable pub body_bytes : PhysicalType → Repetition → List (Option Stored) → List ℕ
body_bytes type repetition items = levels_of repetition items ++ values_bytes type (present items)

-- The stored values of each encoding.
use Rattle.std.specs.Prelude.{ℕ, ℤ, pos, negsuc, zero, suc, ◌==◌, ◌||◌, nat_le, Bool, true, false, if◌then◌else◌, List, [], ◌∷◌, take, drop, map, slice_get, Option, Some, None, option_map}
use Rattle.std.specs.List.{list_any}
use Rattle.std.specs.Int.{w32, w64, cast_signed, int_wrap}
use Rattle.parquet_base.specs.Bytes.{little_endian}
use Rattle.parquet_base.specs.Reading.{◌>>=◌}
use Rattle.parquet_encoding.specs.Hybrid.{hybrid}
use Rattle.parquet_encoding.specs.Plain.{plain_fixed, plain_bytes, plain_bits}
use Rattle.parquet_encoding.specs.DeltaBinary.{delta_binary}
use Rattle.parquet_encoding.specs.DeltaLength.{delta_length}
use Rattle.parquet_meta.specs.declared.metadata.PhysicalType.{PhysicalType}
use Rattle.parquet_meta.specs.declared.metadata.PhysicalType.TheVariants.{Boolean, Int32, Int64, Int96, Float, Double, ByteArray, FixedLenByteArray}
use Rattle.parquet_page.specs.Stored.{Stored, Number, Truth, Words, Octets}

-- ---- plain

abbrev pub int32_of : List ℕ → Stored
int32_of bytes = Number (cast_signed w32 (little_endian bytes))

abbrev pub int64_of : List ℕ → Stored
int64_of bytes = Number (cast_signed w64 (little_endian bytes))

abbrev pub int96_of : List ℕ → Stored
int96_of bytes = Words (little_endian (take 4 bytes)) (little_endian (take 4 (drop 4 bytes))) (little_endian (drop 8 bytes))

-- `count` values that fill the bytes
unfoldable pub plain_values : PhysicalType → List ℕ → ℕ → Option (List Stored)
plain_values Boolean bytes count = option_map (map Truth) (plain_bits bytes count)
plain_values Int32 bytes count = option_map (map int32_of) (plain_fixed 4 bytes count)
plain_values Int64 bytes count = option_map (map int64_of) (plain_fixed 8 bytes count)
plain_values Int96 bytes count = option_map (map int96_of) (plain_fixed 12 bytes count)
plain_values Float bytes count = None
plain_values Double bytes count = None
plain_values ByteArray bytes count = option_map (map Octets) (plain_bytes bytes count)
plain_values (FixedLenByteArray size) bytes count = option_map (map Octets) (plain_fixed size bytes count)

-- ---- keys of a dictionary

-- one byte of width, and then the keys
unfoldable pub dictionary_keys : List ℕ → ℕ → Option (List ℕ)
dictionary_keys [] count = None
dictionary_keys (width ∷ bytes) count = hybrid width bytes count

-- all of the values, if each is there
abbrev pub all_some : {A : Type 0} → List (Option A) → Option (List A)
all_some [] = Some []
all_some (o ∷ os) = do
  x ← o
  xs ← all_some os
  Some (x ∷ xs)

-- the entries that the keys name, if there are so many
abbrev pub named_by : {A : Type 0} → List A → List ℕ → Option (List A)
named_by entries keys = all_some (map (slice_get entries) keys)

-- some key is past so many entries
abbrev pub has_key_past : ℕ → List ℕ → Bool
has_key_past entries keys = list_any (λ key. nat_le entries key) keys

-- ---- deltas

-- The numbers that the bytes begin with, of INT32 their low 32 bits. Any bytes may follow the last miniblock that is needed: what
-- `delta_binary` gives back behind it, `read.1`, is dropped.
unfoldable pub delta_values : PhysicalType → List ℕ → ℕ → Option (List Stored)
delta_values Int32 bytes count = option_map (λ read. map (λ number. Number (int_wrap w32 number)) read.0) (delta_binary count bytes)
delta_values Int64 bytes count = option_map (λ read. map Number read.0) (delta_binary count bytes)
delta_values type bytes count = None

-- The strings that the bytes begin with. Any bytes may follow the last of them.
unfoldable pub delta_length_values : PhysicalType → List ℕ → ℕ → Option (List Stored)
delta_length_values ByteArray bytes count = option_map (map Octets) (delta_length bytes count)
delta_length_values type bytes count = None

-- ---- encodings by their numbers

pub data Encoding : Type 0 where
  Plain : Encoding
  Keys : Encoding
  DeltaPacked : Encoding
  DeltaLengths : Encoding

-- the encodings that are read; the others have no case here
abbrev pub encoding_of : ℤ → Option Encoding
encoding_of (pos n) =
    if n == 0 then Some Plain else if (n == 2) || (n == 8) then Some Keys else if n == 5 then Some DeltaPacked else if n == 6 then Some DeltaLengths else None
encoding_of (negsuc n) = None

-- which of them go with which type
abbrev pub goes_with : Encoding → PhysicalType → Bool
goes_with Plain Float = false
goes_with Plain Double = false
goes_with Plain type = true
goes_with Keys Boolean = false
goes_with Keys Float = false
goes_with Keys Double = false
goes_with Keys type = true
goes_with DeltaPacked Int32 = true
goes_with DeltaPacked Int64 = true
goes_with DeltaPacked type = false
goes_with DeltaLengths ByteArray = true
goes_with DeltaLengths type = false

-- `count` values of a type in an encoding, over the entries of a dictionary where there is one
abbrev pub values_in : Encoding → PhysicalType → Option (List Stored) → List ℕ → ℕ → Option (List Stored)
values_in Plain type dictionary bytes count = plain_values type bytes count
values_in Keys type dictionary bytes count = do
  entries ← dictionary
  keys ← dictionary_keys bytes count
  named_by entries keys
values_in DeltaPacked type dictionary bytes count = delta_values type bytes count
values_in DeltaLengths type dictionary bytes count = delta_length_values type bytes count

-- Where no value is stored, nothing is looked at.
abbrev pub unless_none : {A : Type 0} → ℕ → Option (List A) → Option (List A)
unless_none zero values = Some []
unless_none (suc count) values = values

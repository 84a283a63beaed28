-- The compact protocol written: one spelling of each value, the shortest, with the short header of each field.
use Rattle.std.specs.Prelude.{◌≡◌, ◌<◌, ℕ, zero, suc, IsTrue, ◌&&◌, ◌+◌, ◌-◌, ◌*◌, ◌/◌, ◌%◌, ◌^◌, ℤ, pos, negsuc, Bool, true, false, List, [], ◌∷◌, ◌++◌, length, nat_lt, nat_le, if◌then◌else◌}
use Rattle.parquet_thrift.specs.Values.{Value, truth, number, double, binary, list, map, struct, Values, no_values, values, Fields, no_fields, fields}

-- ---- numbers

-- seven bits in each byte, the lowest first
unfoldable pub varint_bytes_within : ℕ → ℕ → List ℕ
varint_bytes_within zero n = []
varint_bytes_within (suc most) n = if nat_lt n 128 then n ∷ [] else (128 + n % 128) ∷ varint_bytes_within most (n / 128)

-- a number below 2 ^ 64, in ten bytes at most
unfoldable pub varint_bytes : ℕ → List ℕ
varint_bytes n = varint_bytes_within 10 n

-- 0, -1, 1, -2, 2 and on
abbrev pub zigzag_of : ℤ → ℕ
zigzag_of (pos n) = 2 * n
zigzag_of (negsuc n) = 2 * n + 1

unfoldable pub signed_bytes : ℤ → List ℕ
signed_bytes n = varint_bytes (zigzag_of n)

-- a length, and the bytes
unfoldable pub binary_bytes : List ℕ → List ℕ
binary_bytes bytes = varint_bytes (length bytes) ++ bytes

-- ---- headers

abbrev pub i32_kind : ℕ
i32_kind = 5

abbrev pub i64_kind : ℕ
i64_kind = 6

abbrev pub list_kind : ℕ
list_kind = 9

abbrev pub struct_kind : ℕ
struct_kind = 12

-- how far an id may lie above the one before it, by the short header
abbrev pub most_step : ℕ
most_step = 15

-- the step from the id before, and the kind
unfoldable pub field_header_bytes : ℕ → ℕ → ℕ → List ℕ
field_header_bytes previous id kind = (16 * (id - previous) + kind) ∷ []

-- a count below 15 beside the kind of the elements, any other behind it
unfoldable pub list_header_bytes : ℕ → ℕ → List ℕ
list_header_bytes kind count = if nat_lt count 15 then (16 * count + kind) ∷ [] else (240 + kind) ∷ varint_bytes count

-- a number that is a field
abbrev pub number_field_bytes : ℕ → ℕ → ℕ → ℤ → List ℕ
number_field_bytes previous id kind n = field_header_bytes previous id kind ++ signed_bytes n

-- one that is not negative
abbrev pub count_field_bytes : ℕ → ℕ → ℕ → ℕ → List ℕ
count_field_bytes previous id kind n = number_field_bytes previous id kind (pos n)

-- a list that is a field, up to its elements
abbrev pub list_start_bytes : ℕ → ℕ → ℕ → ℕ → List ℕ
list_start_bytes previous id kind count = field_header_bytes previous id list_kind ++ list_header_bytes kind count

-- ---- values

abbrev pub value_count : Values → ℕ
value_count no_values = 0
value_count (values v vs) = suc (value_count vs)

abbrev pub truth_byte : Bool → ℕ
truth_byte true = 1
truth_byte false = 2

unfoldable mutual
  -- a value that is a field: a truth value is its kind, and takes no byte
  pub value_bytes : Value → List ℕ
  value_bytes (truth b) = []
  value_bytes (number n) = signed_bytes n
  value_bytes (double bytes) = bytes
  value_bytes (binary bytes) = binary_bytes bytes
  value_bytes (list kind vs) = list_header_bytes kind (value_count vs) ++ elements_bytes vs
  value_bytes (map vs) = []
  value_bytes (struct fs) = fields_bytes 0 fs

  -- a value in a list
  pub element_bytes : Value → List ℕ
  element_bytes (truth b) = truth_byte b ∷ []
  element_bytes (number n) = signed_bytes n
  element_bytes (double bytes) = bytes
  element_bytes (binary bytes) = binary_bytes bytes
  element_bytes (list kind vs) = list_header_bytes kind (value_count vs) ++ elements_bytes vs
  element_bytes (map vs) = []
  element_bytes (struct fs) = fields_bytes 0 fs

  pub elements_bytes : Values → List ℕ
  elements_bytes no_values = []
  elements_bytes (values v vs) = element_bytes v ++ elements_bytes vs

  -- fields behind an id, and the end of the struct
  pub fields_bytes : ℕ → Fields → List ℕ
  fields_bytes previous no_fields = 0 ∷ []
  fields_bytes previous (fields (pos id) kind v more) = field_header_bytes previous id kind ++ (value_bytes v ++ fields_bytes id more)
  fields_bytes previous (fields (negsuc id) kind v more) = []

-- ---- what can be written

-- numbers of 16, 32 and 64 bits
abbrev pub kind_bits : ℕ → ℕ
kind_bits kind = if nat_lt kind 5 then 16 else if nat_lt kind 6 then 32 else 64

abbrev pub is_number_kind : ℕ → Bool
is_number_kind kind = nat_lt 3 kind && nat_lt kind 7

abbrev pub is_value_kind : ℕ → Bool
is_value_kind kind = nat_lt 0 kind && nat_le kind struct_kind

-- the id of a field behind another one, by the short header
abbrev pub is_next : ℕ → ℕ → Bool
is_next previous id = nat_lt previous id && nat_le id (previous + most_step) && nat_lt id (2 ^ 15)

abbrev pub truth_kind : Bool → ℕ
truth_kind true = 1
truth_kind false = 2

unfoldable mutual
  -- a value of this kind that is a field
  pub CanWrite : ℕ → Value → Type 0
  CanWrite kind (truth b) = kind ≡ truth_kind b
  CanWrite kind (number n) = IsTrue (is_number_kind kind) × (zigzag_of n < 2 ^ kind_bits kind)
  CanWrite kind (double bytes) = (kind ≡ 7) × (length bytes ≡ 8)
  CanWrite kind (binary bytes) = (kind ≡ 8) × (length bytes < 2 ^ 64)
  CanWrite kind (list of vs) = (kind ≡ list_kind) × IsTrue (is_value_kind of) × (value_count vs < 2 ^ 64) × CanWriteElements of vs
  CanWrite kind (map vs) = ⊥
  CanWrite kind (struct fs) = (kind ≡ struct_kind) × CanWriteFields 0 fs

  -- a value in a list whose elements have this kind
  pub CanWriteElement : ℕ → Value → Type 0
  CanWriteElement kind (truth b) = kind ≡ 1
  CanWriteElement kind (number n) = IsTrue (is_number_kind kind) × (zigzag_of n < 2 ^ kind_bits kind)
  CanWriteElement kind (double bytes) = (kind ≡ 7) × (length bytes ≡ 8)
  CanWriteElement kind (binary bytes) = (kind ≡ 8) × (length bytes < 2 ^ 64)
  CanWriteElement kind (list of vs) = (kind ≡ list_kind) × IsTrue (is_value_kind of) × (value_count vs < 2 ^ 64) × CanWriteElements of vs
  CanWriteElement kind (map vs) = ⊥
  CanWriteElement kind (struct fs) = (kind ≡ struct_kind) × CanWriteFields 0 fs

  pub CanWriteElements : ℕ → Values → Type 0
  CanWriteElements kind no_values = Unit {0}
  CanWriteElements kind (values v vs) = CanWriteElement kind v × CanWriteElements kind vs

  -- fields behind an id: ids rise, by 15 at most
  pub CanWriteFields : ℕ → Fields → Type 0
  CanWriteFields previous no_fields = Unit {0}
  CanWriteFields previous (fields (pos id) kind v more) = IsTrue (is_next previous id) × IsTrue (is_value_kind kind) × CanWrite kind v × CanWriteFields id more
  CanWriteFields previous (fields (negsuc id) kind v more) = ⊥

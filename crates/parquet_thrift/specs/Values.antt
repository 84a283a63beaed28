-- Which bytes spell which value in the compact protocol. The kinds of values are 1 true, 2 false, 3 byte, 4 i16, 5 i32,
-- 6 i64, 7 double, 8 binary, 9 list, 10 set, 11 map and 12 struct.
use Rattle.std.specs.Prelude.{ℕ, zero, suc, ◌/◌, ◌%◌, ℤ, pos, ◌+ℤ◌, int_le, Bool, false, max, List, [], ◌∷◌, length, Option, Some, None, nat_lt, nat_le, ◌==◌, ◌&&◌, if◌then◌else◌}
use Rattle.parquet_base.specs.Reading.{Read, ◌>>=◌, given, map_value}
use Rattle.parquet_base.specs.Varint.{varint}
use Rattle.parquet_thrift.specs.Numbers.{signed, signed_byte, raw, bytes_of_length}

mutual
  pub data Value : Type 0 where
    truth : Bool → Value
    number : ℤ → Value
    double : List ℕ → Value
    binary : List ℕ → Value
    -- the elements and their kind
    list : ℕ → Values → Value
    -- the keys and values in turn
    map : Values → Value
    struct : Fields → Value

  pub data Values : Type 0 where
    no_values : Values
    values : Value → Values → Values

  -- id, kind and value of each field, in the order of the bytes
  pub data Fields : Type 0 where
    no_fields : Fields
    fields : ℤ → ℕ → Value → Fields → Fields

-- A truth value is the kind itself in a struct, and one byte in a list or map.
pub data Context : Type 0 where
  in_struct : Context
  in_list : Context

abbrev pub is_kind : ℕ → Bool
is_kind kind = if nat_lt kind 1 then false else nat_lt kind 13

-- ---- headers

-- the id and kind of the next field after the id `previous`, or None at the end of the struct
abbrev pub Header : Type 0
Header = Option (ℤ × ℕ)

abbrev pub header_of : ℕ → Read ℤ → Read Header
header_of kind id bytes =
    if is_kind kind then (do
      n ← id bytes
      Some (Some (n.0, kind), n.1))
    else None

-- The high four bits are the step from the id before. Where they are 0 the id stands in the bytes that follow.
abbrev pub id_after : ℤ → ℕ → Read ℤ
id_after previous zero bytes = signed 16 bytes
id_after previous (suc step) bytes = if int_le (previous +ℤ pos (suc step)) (pos 32767) then Some (previous +ℤ pos (suc step), bytes) else None

unfoldable pub field_header : ℤ → Read Header
field_header previous [] = None
field_header previous (zero ∷ bytes) = Some (None, bytes)
field_header previous (suc byte ∷ bytes) = header_of (suc byte % 16) (id_after previous (suc byte / 16)) bytes

-- the count and the kind of the elements; the kind counts only where there is an element
abbrev pub list_header_of : ℕ → Option (ℕ × List ℕ) → Option ((ℕ × ℕ) × List ℕ)
list_header_of kind None = None
list_header_of kind (Some (zero, bytes)) = Some ((0, kind), bytes)
list_header_of kind (Some (suc count, bytes)) = if is_kind kind then Some ((suc count, kind), bytes) else None

-- The high four bits are the count. Where they are 15 it stands in the bytes that follow.
unfoldable pub list_header : Read (ℕ × ℕ)
list_header [] = None
list_header (byte ∷ bytes) = list_header_of (byte % 16) (if byte / 16 == 15 then varint bytes else Some (byte / 16, bytes))

-- the header of a list whose elements may all be there: each takes a byte at least
unfoldable pub list_start : Read (ℕ × ℕ)
list_start bytes = do
  header ← list_header bytes
  given (nat_le header.0.0 (length header.1)) header

-- the count and the kinds of the keys and of the values, which stand only where there is an entry
abbrev pub map_header_of : Option (ℕ × List ℕ) → Option ((ℕ × ℕ × ℕ) × List ℕ)
map_header_of None = None
map_header_of (Some (zero, bytes)) = Some ((0, 0, 0), bytes)
map_header_of (Some (suc count, [])) = None
map_header_of (Some (suc count, byte ∷ bytes)) =
    if is_kind (byte / 16) && is_kind (byte % 16) then Some ((suc count, byte / 16, byte % 16), bytes) else None

unfoldable pub map_header : Read (ℕ × ℕ × ℕ)
map_header bytes = map_header_of (varint bytes)

-- ---- values

-- in a list or map: 1 is true, 0 and 2 are false
unfoldable pub list_truth : Read Bool
list_truth [] = None
list_truth (byte ∷ bytes) = if nat_le byte 2 then Some (byte == 1, bytes) else None

abbrev pub truth_at : Context → ℕ → Read Value
truth_at in_struct kind bytes = Some (truth (kind == 1), bytes)
truth_at in_list kind bytes = map_value truth (list_truth bytes)

-- so many elements
unfoldable pub elements : Read Value → ℕ → Read Values
elements element zero bytes = Some (no_values, bytes)
elements element (suc count) bytes = do
  first ← element bytes
  others ← elements element count first.1
  Some (values first.0 others.0, others.1)

-- so many keys, each with its value
unfoldable pub entries : Read Value → Read Value → ℕ → Read Values
entries key value zero bytes = Some (no_values, bytes)
entries key value (suc count) bytes = do
  k ← key bytes
  v ← value k.1
  others ← entries key value count v.1
  Some (values k.0 (values v.0 others.0), others.1)

-- a field behind its header, and the fields after it
abbrev pub field_or_end : (ℕ → Read Value) → (ℤ → Read Fields) → Header → Read Fields
field_or_end value others None bytes = Some (no_fields, bytes)
field_or_end value others (Some (id, kind)) bytes = do
  v ← value kind bytes
  more ← others id v.1
  Some (fields id kind v.0 more.0, more.1)

-- Fields up to the end of the struct. The first number bounds them: each takes a byte, so the count of the bytes is enough.
unfoldable pub fields_within : (ℕ → Read Value) → ℕ → ℤ → Read Fields
fields_within value zero previous bytes = None
fields_within value (suc most) previous bytes = do
  header ← field_header previous bytes
  field_or_end value (fields_within value most) header.0 header.1

abbrev pub fields_of : (ℕ → Read Value) → ℤ → Read Fields
fields_of value previous bytes = fields_within value (length bytes) previous bytes

-- a value of this kind, where `inner` reads the values in it
abbrev pub value_with : (Context → ℕ → Read Value) → Context → ℕ → Read Value
value_with inner context kind bytes =
    if nat_le kind 2 then truth_at context kind bytes
    else (if kind == 3 then map_value number (signed_byte bytes)
    else (if kind == 4 then map_value number (signed 16 bytes)
    else (if kind == 5 then map_value number (signed 32 bytes)
    else (if kind == 6 then map_value number (signed 64 bytes)
    else (if kind == 7 then map_value double (raw 8 bytes)
    else (if kind == 8 then map_value binary (bytes_of_length bytes)
    else (if nat_le kind 10 then list_of (inner in_list) bytes
    else (if kind == 11 then map_of (inner in_list) bytes
    else map_value struct (fields_of (inner in_struct) (pos 0) bytes)))))))))
  where
    list_of : (ℕ → Read Value) → Read Value
    list_of element rest = do
      header ← list_header rest
      map_value (list header.0.1) (elements (element header.0.1) header.0.0 header.1)

    map_of : (ℕ → Read Value) → Read Value
    map_of entry rest = do
      header ← map_header rest
      map_value map (entries (entry header.0.1) (entry header.0.2) header.0.0 header.1)

-- a value nested at most so deep: a value that holds no other has depth 1
unfoldable pub value_within : ℕ → Context → ℕ → Read Value
value_within zero context kind bytes = None
value_within (suc depth) context kind bytes = if is_kind kind then value_with (value_within depth) context kind bytes else None

-- Each value takes a byte or stands in a field, so no value is nested deeper than the count of the bytes and one.
unfoldable pub value : Context → ℕ → Read Value
value context kind bytes = value_within (suc (length bytes)) context kind bytes

-- ---- depth

abbrev mutual
  -- a value that holds no other has depth 1
  pub depth : Value → ℕ
  depth (truth b) = 1
  depth (number n) = 1
  depth (double bytes) = 1
  depth (binary bytes) = 1
  depth (list kind vs) = suc (values_depth vs)
  depth (map vs) = suc (values_depth vs)
  depth (struct fs) = suc (fields_depth fs)

  pub values_depth : Values → ℕ
  values_depth no_values = 0
  values_depth (values v vs) = max (depth v) (values_depth vs)

  pub fields_depth : Fields → ℕ
  fields_depth no_fields = 0
  fields_depth (fields id kind v fs) = max (depth v) (fields_depth fs)

-- how deep a value may be nested that is passed over
abbrev pub most_depth : ℕ
most_depth = 32

-- what was read, where it is no deeper
abbrev pub keep : {A : Type 0} → (A → ℕ) → ℕ → Option (A × List ℕ) → Option (A × List ℕ)
keep depth_of most None = None
keep depth_of most (Some x) = if nat_le (depth_of x.0) most then Some x else None

-- a value nested at most so deep
abbrev pub no_deeper : ℕ → Context → ℕ → Read Value
no_deeper most context kind bytes = keep depth most (value context kind bytes)

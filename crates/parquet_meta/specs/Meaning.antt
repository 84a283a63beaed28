-- How a value is read as what a field holds. A rule sees the value's kind and the value, and refuses others. The kinds
-- are 1 true, 2 false, 5 a number of 32 bits, 6 one of 64 bits, 8 bytes, 9 a list and 12 a struct.
use Rattle.std.specs.Prelude.{ℕ, ℤ, pos, negsuc, Bool, true, false, List, [], ◌∷◌, Option, Some, None, option_map, nat_le, ◌==◌, if◌then◌else◌}
use Rattle.std.specs.Str.{is_utf8}
use Rattle.parquet_base.specs.Reading.{Read, ◌>>=◌}
use Rattle.parquet_thrift.specs.Values.{Value, truth, number, double, binary, list, map, struct, Values, no_values, values, Fields, no_fields, fields, Context, in_struct, in_list, elements, fields_of, value, depth, most_depth}

abbrev pub Rule : Type 0 → Type 0
Rule A = ℕ → Value → Option A

-- a value of this kind alone
abbrev pub of_kind : {A : Type 0} → ℕ → (Value → Option A) → Rule A
of_kind wanted part kind v = if kind == wanted then part v else None

abbrev pub number_of : Value → Option ℤ
number_of (number n) = Some n
number_of (truth b) = None
number_of (double bytes) = None
number_of (binary bytes) = None
number_of (list kind vs) = None
number_of (map vs) = None
number_of (struct fs) = None

abbrev pub bytes_of : Value → Option (List ℕ)
bytes_of (binary bytes) = Some bytes
bytes_of (truth b) = None
bytes_of (number n) = None
bytes_of (double bytes) = None
bytes_of (list kind vs) = None
bytes_of (map vs) = None
bytes_of (struct fs) = None

abbrev pub text_of : List ℕ → Option (List ℕ)
text_of bytes = if is_utf8 bytes then Some bytes else None

abbrev pub truth_of : Value → Option Bool
truth_of (truth b) = Some b
truth_of (number n) = None
truth_of (double bytes) = None
truth_of (binary bytes) = None
truth_of (list kind vs) = None
truth_of (map vs) = None
truth_of (struct fs) = None

unfoldable pub i32 : Rule ℤ
i32 = of_kind 5 number_of

unfoldable pub i64 : Rule ℤ
i64 = of_kind 6 number_of

unfoldable pub byte_string : Rule (List ℕ)
byte_string = of_kind 8 bytes_of

-- a text
unfoldable pub name : Rule (List ℕ)
name = of_kind 8 (λ v. bytes_of v >>= text_of)

-- a field's kind is its truth value
unfoldable pub truth_value : Rule Bool
truth_value kind v = if kind == 1 then Some true else (if kind == 2 then Some false else None)

-- a truth value in a list
unfoldable pub truth_element : Rule Bool
truth_element kind v = truth_of v

-- a field that nobody knows, and that is not nested too deep to be passed over
unfoldable pub unknown : Rule (Unit {0})
unknown kind v = if nat_le (depth v) most_depth then Some tt else None

-- What a struct's fields make of a state: each in turn, so the last field of an id counts, and each has to obey its rule.
abbrev pub Field : Type 0 → Type 0
Field S = S → ℤ → Rule S

unfoldable pub in_turn : {S : Type 0} → Field S → S → Fields → Option S
in_turn field s no_fields = Some s
in_turn field s (fields id kind v more) = do
  next ← field s id kind v
  in_turn field next more

abbrev pub fields_in : {S : Type 0} → Field S → S → Value → Option S
fields_in field s (struct fs) = in_turn field s fs
fields_in field s (truth b) = None
fields_in field s (number n) = None
fields_in field s (double bytes) = None
fields_in field s (binary b) = None
fields_in field s (list kind vs) = None
fields_in field s (map vs) = None

unfoldable pub struct_of : {S : Type 0} → Field S → S → Rule S
struct_of field s = of_kind 12 (fields_in field s)

-- the elements of a list, each by the rule
unfoldable pub each : {A : Type 0} → Rule A → ℕ → Values → Option (List A)
each rule kind no_values = Some []
each rule kind (values v vs) = do
  first ← rule kind v
  others ← each rule kind vs
  Some (first ∷ others)

abbrev pub elements_by : {A : Type 0} → Rule A → Value → Option (List A)
elements_by rule (list kind vs) = each rule kind vs
elements_by rule (truth b) = None
elements_by rule (number n) = None
elements_by rule (double bytes) = None
elements_by rule (binary b) = None
elements_by rule (map vs) = None
elements_by rule (struct fs) = None

unfoldable pub list_of : {A : Type 0} → Rule A → Rule (List A)
list_of rule = of_kind 9 (elements_by rule)

-- ids are small numbers that are not negative
abbrev pub is_id : ℤ → ℕ → Bool
is_id (pos n) known = n == known
is_id (negsuc n) known = false

-- the struct with a field set to what the rule gives
unfoldable pub setting : {A S : Type 0} → (A → S) → Rule A → Rule S
setting {A = A} {S = S} change rule kind v = option_map {T = A} {U = S} change (rule kind v)

-- what a rule gives, made into something else or refused
unfoldable pub made : {A B : Type 0} → Rule A → (A → Option B) → Rule B
made rule make kind v = rule kind v >>= make

-- the struct as it was, for a field that nobody knows
abbrev pub passing : {S : Type 0} → S → Rule S
passing s = setting (λ _. s) unknown

-- ---- from the bytes

-- a meaning, and the bytes after what it was read from
abbrev pub with_rest : {A : Type 0} → Option A → List ℕ → Option (A × List ℕ)
with_rest None rest = None
with_rest (Some meaning) rest = Some (meaning, rest)

-- what the bytes spell, by the rule
unfoldable pub by_rule : {A : Type 0} → Context → Rule A → ℕ → Read A
by_rule context rule kind bytes = do
  v ← value context kind bytes
  with_rest (rule kind v.0) v.1

-- what the fields after the id `previous` make of a state
unfoldable pub fields_by : {S : Type 0} → Field S → S → ℤ → Read S
fields_by field s previous bytes = do
  fs ← fields_of (value in_struct) previous bytes
  with_rest (in_turn field s fs.0) fs.1

-- so many elements, each by the rule
unfoldable pub elements_by_rule : {A : Type 0} → Rule A → ℕ → ℕ → Read (List A)
elements_by_rule rule kind count bytes = do
  vs ← elements (value in_list kind) count bytes
  with_rest (each rule kind vs.0) vs.1

-- What each rule makes of the bytes.
use Rattle.std.proofs.Common.{◌≡◌, ◌≢◌, ℕ, ℤ, pos, Bool, true, false, cond, List, [], ◌∷◌, Option, Some, None, refl, sym, ap, ◌∙◌, nat_le, suc, ◌+◌, ◌-◌, ◌<◌, ◌≤◌, ◌++◌, append_assoc, arith}
use Rattle.std.proofs.lemmas.List.{append-nil}
use Rattle.std.specs.Prelude.{option_map, IsUtf8}
use Rattle.std.specs.Str.{is_utf8}
use Rattle.std.proofs.lemmas.Bool.{ne_eqb}
use Rattle.std.proofs.lemmas.Str.{IsUtf8-from_is_utf8, is_utf8-from_IsUtf8}
use Rattle.parquet_base.specs.Reading.{◌>>=◌, map_value}
use Rattle.parquet_thrift.specs.Cursor.{Cursor}
use Rattle.parquet_thrift.specs.Numbers.{signed, bytes_of_length}
use Rattle.parquet_thrift.specs.Values.{Value, number, binary, list, struct, Values, values, Fields, Context, in_struct, in_list, list_start, elements, fields_of, value, value_within, depth, keep, most_depth, no_deeper}
use Rattle.parquet_thrift.proofs.ValueLemmas.{value-i32, value-i64, value-binary, value-struct}
use Rattle.parquet_thrift.proofs.Fronts.{value-list_start}
use Rattle.parquet_meta.specs.Meaning.{Rule, Field, of_kind, number_of, bytes_of, text_of, i32, i64, byte_string, name, truth_value, unknown, setting, with_rest, by_rule, struct_of, fields_in, in_turn, fields_by, list_of, elements_by, each, elements_by_rule}

-- a value of another kind is refused
of_kind-other : {A : Type 0} (context : Context) (wanted : ℕ) (part : Value → Option A) (kind : ℕ) (bytes : List ℕ) → kind ≢ wanted → by_rule context (of_kind wanted part) kind bytes ≡ None
unfolding by_rule
of_kind-other {A = A} context wanted part kind bytes other = rw (ne_eqb kind wanted other) (nothing (value context kind bytes))
  where
    nothing : (o : Option (Value × List ℕ)) → (o >>= λ v. with_rest {A = A} None v.1) ≡ None
    nothing None = refl
    nothing (Some v) = refl

numbers : (o : Option (ℤ × List ℕ)) → (map_value number o >>= λ v. with_rest (number_of v.0) v.1) ≡ o
numbers None = refl
numbers (Some n) = refl

pub i32_is : (context : Context) (bytes : List ℕ) → by_rule context i32 5 bytes ≡ signed 32 bytes
unfolding by_rule i32
i32_is context bytes = rw value-i32 (numbers (signed 32 bytes))

pub i32_other : (context : Context) (kind : ℕ) (bytes : List ℕ) → kind ≢ 5 → by_rule context i32 kind bytes ≡ None
unfolding i32
i32_other context kind bytes other = of_kind-other context 5 number_of kind bytes other

pub ruleset i32_rules = (i32_is, i32_other)

pub i64_is : (context : Context) (bytes : List ℕ) → by_rule context i64 6 bytes ≡ signed 64 bytes
unfolding by_rule i64
i64_is context bytes = rw value-i64 (numbers (signed 64 bytes))

pub i64_other : (context : Context) (kind : ℕ) (bytes : List ℕ) → kind ≢ 6 → by_rule context i64 kind bytes ≡ None
unfolding i64
i64_other context kind bytes other = of_kind-other context 6 number_of kind bytes other

pub ruleset i64_rules = (i64_is, i64_other)

binaries : (o : Option (List ℕ × List ℕ)) → (map_value binary o >>= λ v. with_rest (bytes_of v.0) v.1) ≡ o
binaries None = refl
binaries (Some b) = refl

pub byte_string_is : (context : Context) (bytes : List ℕ) → by_rule context byte_string 8 bytes ≡ bytes_of_length bytes
unfolding by_rule byte_string
byte_string_is context bytes = rw value-binary (binaries (bytes_of_length bytes))

pub byte_string_other : (context : Context) (kind : ℕ) (bytes : List ℕ) → kind ≢ 8 → by_rule context byte_string kind bytes ≡ None
unfolding byte_string
byte_string_other context kind bytes other = of_kind-other context 8 bytes_of kind bytes other

pub ruleset byte_string_rules = (byte_string_is, byte_string_other)

pub text_of-is : (bytes : List ℕ) → IsUtf8 bytes → text_of bytes ≡ Some bytes
text_of-is bytes h = rw (is_utf8-from_IsUtf8 bytes h) refl

pub text_of-none : (bytes : List ℕ) → ¬ (IsUtf8 bytes) → text_of bytes ≡ None
text_of-none bytes h = by_test (is_utf8 bytes) refl
  where
    by_test : (b : Bool) → is_utf8 bytes ≡ b → text_of bytes ≡ None
    by_test true e = absurd (h (IsUtf8-from_is_utf8 bytes e))
    by_test false e = rw e refl

pub ruleset utf8_rules = (text_of-is, text_of-none)

texts : (o : Option (List ℕ × List ℕ)) → (map_value binary o >>= λ v. with_rest (bytes_of v.0 >>= text_of) v.1) ≡ (o >>= λ b. with_rest (text_of b.0) b.1)
texts None = refl
texts (Some b) = refl

pub name_is : (context : Context) (bytes : List ℕ) → by_rule context name 8 bytes ≡ (bytes_of_length bytes >>= λ b. with_rest (text_of b.0) b.1)
unfolding by_rule name
name_is context bytes = rw value-binary (texts (bytes_of_length bytes))

pub name_other : (context : Context) (kind : ℕ) (bytes : List ℕ) → kind ≢ 8 → by_rule context name kind bytes ≡ None
unfolding name
name_other context kind bytes other = of_kind-other context 8 (λ v. bytes_of v >>= text_of) kind bytes other

pub ruleset name_rules = (name_is, name_other)

structs : {S : Type 0} (field : Field S) (s : S) (o : Option (Fields × List ℕ)) → (map_value struct o >>= λ v. with_rest (fields_in field s v.0) v.1) ≡ (o >>= λ fs. with_rest (in_turn field s fs.0) fs.1)
structs field s None = refl
structs field s (Some fs) = refl

pub struct_is : {S : Type 0} (context : Context) (field : Field S) (s : S) (bytes : List ℕ) → by_rule context (struct_of field s) 12 bytes ≡ fields_by field s (pos 0) bytes
unfolding by_rule struct_of fields_by
struct_is context field s bytes = rw value-struct (structs field s (fields_of (value in_struct) (pos 0) bytes))

pub struct_other : {S : Type 0} (context : Context) (field : Field S) (s : S) (kind : ℕ) (bytes : List ℕ) → kind ≢ 12 → by_rule context (struct_of field s) kind bytes ≡ None
unfolding struct_of
struct_other context field s kind bytes other = of_kind-other context 12 (fields_in field s) kind bytes other

pub ruleset struct_rules = (struct_is, struct_other)

lists : {A : Type 0} (rule : Rule A) (kind : ℕ) (o : Option (Values × List ℕ)) → (map_value (list kind) o >>= λ v. with_rest (elements_by rule v.0) v.1) ≡ (o >>= λ vs. with_rest (each rule kind vs.0) vs.1)
lists rule kind None = refl
lists rule kind (Some vs) = refl

pub list_is : {A : Type 0} (context : Context) (rule : Rule A) (bytes : List ℕ) →
    by_rule context (list_of rule) 9 bytes ≡ (list_start bytes >>= λ h. elements_by_rule rule h.0.1 h.0.0 h.1)
unfolding by_rule list_of elements_by_rule
list_is context rule bytes = rw value-list_start (through (list_start bytes))
  where
    through : (o : Option ((ℕ × ℕ) × List ℕ)) →
        ((o >>= λ h. map_value (list h.0.1) (elements (value in_list h.0.1) h.0.0 h.1)) >>= λ v. with_rest (elements_by rule v.0) v.1)
        ≡ (o >>= λ h. elements (value in_list h.0.1) h.0.0 h.1 >>= λ vs. with_rest (each rule h.0.1 vs.0) vs.1)
    through None = refl
    through (Some h) = lists rule h.0.1 (elements (value in_list h.0.1) h.0.0 h.1)

pub list_other : {A : Type 0} (context : Context) (rule : Rule A) (kind : ℕ) (bytes : List ℕ) → kind ≢ 9 → by_rule context (list_of rule) kind bytes ≡ None
unfolding list_of
list_other context rule kind bytes other = of_kind-other context 9 (elements_by rule) kind bytes other

pub ruleset list_rules = (list_is, list_other)

pub true_is : (bytes : List ℕ) → by_rule in_struct truth_value 1 bytes ≡ Some (true, bytes)
unfolding by_rule truth_value value value_within
true_is bytes = refl

pub false_is : (bytes : List ℕ) → by_rule in_struct truth_value 2 bytes ≡ Some (false, bytes)
unfolding by_rule truth_value value value_within
false_is bytes = refl

pub truth_other : (kind : ℕ) (bytes : List ℕ) → kind ≢ 1 → kind ≢ 2 → by_rule in_struct truth_value kind bytes ≡ None
unfolding by_rule truth_value
truth_other kind bytes not_true not_false = rw (ne_eqb kind 1 not_true, ne_eqb kind 2 not_false) (nothing (value in_struct kind bytes))
  where
    nothing : (o : Option (Value × List ℕ)) → (o >>= λ v. with_rest {A = Bool} None v.1) ≡ None
    nothing None = refl
    nothing (Some v) = refl

pub ruleset truth_rules = (true_is, false_is, truth_other)

abbrev nothing_of : Value → Unit {0}
nothing_of v = tt

pub unknown_is : (kind : ℕ) (bytes : List ℕ) → by_rule in_struct unknown kind bytes ≡ map_value nothing_of (no_deeper most_depth in_struct kind bytes)
unfolding by_rule unknown
unknown_is kind bytes = kept (value in_struct kind bytes)
  where
    kept : (o : Option (Value × List ℕ)) → (o >>= λ v. with_rest (cond (nat_le (depth v.0) 32) (Some tt) None) v.1) ≡ map_value nothing_of (keep depth 32 o)
    kept None = refl
    kept (Some v) = chosen (nat_le (depth v.0) 32)
      where
        chosen : (b : Bool) → with_rest (cond b (Some tt) None) v.1 ≡ map_value nothing_of (cond b (Some v) None)
        chosen true = refl
        chosen false = refl

-- what a rule gives goes into the struct
pub by_rule_setting : {A S : Type 0} (context : Context) (change : A → S) (rule : Rule A) (kind : ℕ) (bytes : List ℕ) →
    by_rule context (setting change rule) kind bytes ≡ map_value change (by_rule context rule kind bytes)
unfolding by_rule setting
by_rule_setting {A = A} context change rule kind bytes = through (value context kind bytes)
  where
    one : (r : Option A) (rest : List ℕ) → with_rest (option_map change r) rest ≡ map_value change (with_rest r rest)
    one None rest = refl
    one (Some x) rest = refl

    through : (o : Option (Value × List ℕ)) → (o >>= λ v. with_rest (option_map change (rule kind v.0)) v.1) ≡ map_value change (o >>= λ v. with_rest (rule kind v.0) v.1)
    through None = refl
    through (Some v) = one (rule kind v.0) v.1

-- ---- elements, one after the other

-- elements read before those that are left
abbrev pub with_front : {A : Type 0} → List A → Option (List A × List ℕ) → Option (List A × List ℕ)
with_front front o = map_value (λ others. front ++ others) o

abbrev before_others : Value → Option (Values × List ℕ) → Option (Values × List ℕ)
before_others v o = o >>= λ others. Some (values v others.0, others.1)

one_element : {A : Type 0} (rule : Rule A) (kind : ℕ) (r : Option A) (v : Value) → rule kind v ≡ r → (o : Option (Values × List ℕ)) (rest : List ℕ) →
    (before_others v o >>= λ vs. with_rest (each rule kind vs.0) vs.1)
    ≡ (with_rest r rest >>= λ x. map_value (λ others. x.0 ∷ others) (o >>= λ vs. with_rest (each rule kind vs.0) vs.1))
unfolding each
one_element rule kind None v e None rest = refl
one_element rule kind None v e (Some vs) rest = rw e refl
one_element rule kind (Some x) v e None rest = refl
one_element {A = A} rule kind (Some x) v e (Some vs) rest = rw e (all (each rule kind vs.0))
  where
    all : (r : Option (List A)) → with_rest (r >>= λ others. Some (x ∷ others)) vs.1 ≡ map_value (λ others. x ∷ others) (with_rest r vs.1)
    all None = refl
    all (Some xs) = refl

pub elements-next : {A : Type 0} (rule : Rule A) (kind count : ℕ) (bytes : List ℕ) →
    elements_by_rule rule kind (suc count) bytes ≡ (by_rule in_list rule kind bytes >>= λ x. map_value (λ others. x.0 ∷ others) (elements_by_rule rule kind count x.1))
unfolding elements_by_rule by_rule elements
elements-next {A = A} rule kind count bytes = through (value in_list kind bytes)
  where
    through : (o : Option (Value × List ℕ)) →
        ((o >>= λ first. before_others first.0 (elements (value in_list kind) count first.1)) >>= λ vs. with_rest (each rule kind vs.0) vs.1)
        ≡ ((o >>= λ v. with_rest (rule kind v.0) v.1) >>= λ x. map_value (λ others. x.0 ∷ others) (elements (value in_list kind) count x.1 >>= λ vs. with_rest (each rule kind vs.0) vs.1))
    through None = refl
    through (Some v) = one_element rule kind (rule kind v.0) v.0 refl (elements (value in_list kind) count v.1) v.1 ∙ same_rest (rule kind v.0)
      where
        same_rest : (r : Option A) →
            (with_rest r v.1 >>= λ x. map_value (λ others. x.0 ∷ others) (elements (value in_list kind) count v.1 >>= λ vs. with_rest (each rule kind vs.0) vs.1))
            ≡ (with_rest r v.1 >>= λ x. map_value (λ others. x.0 ∷ others) (elements (value in_list kind) count x.1 >>= λ vs. with_rest (each rule kind vs.0) vs.1))
        same_rest None = refl
        same_rest (Some m) = refl

-- the elements so far, and those that are left, are all of them
pub record IsReadingList {A : Type 0} (rule : Rule A) (kind count : ℕ) (start : Cursor) (counter : ℕ) (items : List A) (now : Cursor) : Type 0 where
  pub few : counter ≤ count
  pub same : with_front items (elements_by_rule rule kind (count - counter) now.rest) ≡ elements_by_rule rule kind count start.rest
  pub whole : now.whole ≡ start.whole

front-map : {A : Type 0} (front : List A) (x : A) (o : Option (List A × List ℕ)) → with_front front (map_value (λ others. x ∷ others) o) ≡ with_front (front ++ x ∷ []) o
front-map front x None = refl
front-map {A = A} front x (Some xs) = ap (λ (l : List A). Some (l, xs.1)) (sym (append_assoc front (x ∷ []) xs.0))

pub list_goes_on : {A : Type 0} (rule : Rule A) (kind count : ℕ) (start : Cursor) (counter : ℕ) (items : List A) (now : Cursor) (x : A) (then : Cursor) →
    IsReadingList rule kind count start counter items now → counter < count → by_rule in_list rule kind now.rest ≡ Some (x, then.rest) → then.whole ≡ now.whole →
    IsReadingList rule kind count start (counter + 1) (items ++ x ∷ []) then
list_goes_on rule kind count start counter items now x then reading lt one whole =
    let k : count - counter ≡ suc (count - (counter + 1)) = omega arith in
    record {
      few = omega arith;
      same = sym (front-map items x (elements_by_rule rule kind (count - (counter + 1)) then.rest))
          ∙ sym (ap (λ (n : ℕ). with_front items (elements_by_rule rule kind n now.rest)) k
          ∙ ap (with_front items) (elements-next rule kind (count - (counter + 1)) now.rest)
          ∙ rw one refl)
          ∙ reading.same;
      whole = whole ∙ reading.whole;
    }

pub list_fails : {A : Type 0} (rule : Rule A) (kind count : ℕ) (start : Cursor) (counter : ℕ) (items : List A) (now : Cursor) →
    IsReadingList rule kind count start counter items now → counter < count → by_rule in_list rule kind now.rest ≡ None → elements_by_rule rule kind count start.rest ≡ None
list_fails rule kind count start counter items now reading lt none =
    let k : count - counter ≡ suc (count - (counter + 1)) = omega arith in
    sym reading.same ∙ ap (λ (n : ℕ). with_front items (elements_by_rule rule kind n now.rest)) k
    ∙ ap (with_front items) (elements-next rule kind (count - (counter + 1)) now.rest)
    ∙ rw none refl

pub list_ends : {A : Type 0} (rule : Rule A) (kind count : ℕ) (start : Cursor) (counter : ℕ) (items : List A) (now : Cursor) →
    IsReadingList rule kind count start counter items now → count ≤ counter → elements_by_rule rule kind count start.rest ≡ Some (items, now.rest)
unfolding elements_by_rule elements each
list_ends {A = A} rule kind count start counter items now reading le =
    let k : count - counter ≡ 0 = omega arith in
    sym reading.same ∙ rw k (ap (λ (l : List A). Some (l, now.rest)) (append-nil items))

-- Truth values of lists: one byte each.
use Rattle.std.proofs.Common.{◌≡◌, ◌≢◌, ℕ, zero, suc, ℤ, pos, Bool, true, false, cond, List, Option, Some, None, refl, nat_le, nat_eq, arith}
use Rattle.std.proofs.lemmas.Bool.{lt-leb}
use Rattle.parquet_base.specs.Reading.{◌>>=◌, map_value}
use Rattle.parquet_thrift.specs.Numbers.{signed, signed_byte, raw, bytes_of_length}
use Rattle.parquet_thrift.specs.Values.{Value, truth, number, double, binary, list, map, struct, Values, Fields, in_struct, in_list, is_kind, list_header, map_header, elements, entries, fields_of, list_truth, value, value_with, value_within}
use Rattle.parquet_thrift.proofs.ValueLemmas.{value-next}
use Rattle.parquet_meta.specs.Meaning.{truth_element, truth_of, with_rest, by_rule}

-- what is read is no truth value
abbrev HasNoTruth : Option (Value × List ℕ) → Type 0
HasNoTruth o = (o >>= λ v. with_rest (truth_of v.0) v.1) ≡ None

either_way : (b : Bool) (x y : Option (Value × List ℕ)) → HasNoTruth x → HasNoTruth y → HasNoTruth (cond b x y)
either_way true x y p q = p
either_way false x y p q = q

numbers : (o : Option (ℤ × List ℕ)) → HasNoTruth (map_value number o)
numbers None = refl
numbers (Some n) = refl

doubles : (o : Option (List ℕ × List ℕ)) → HasNoTruth (map_value double o)
doubles None = refl
doubles (Some n) = refl

binaries : (o : Option (List ℕ × List ℕ)) → HasNoTruth (map_value binary o)
binaries None = refl
binaries (Some n) = refl

lists : (kind : ℕ) (o : Option (Values × List ℕ)) → HasNoTruth (map_value (list kind) o)
lists kind None = refl
lists kind (Some n) = refl

maps : (o : Option (Values × List ℕ)) → HasNoTruth (map_value map o)
maps None = refl
maps (Some n) = refl

structs : (o : Option (Fields × List ℕ)) → HasNoTruth (map_value struct o)
structs None = refl
structs (Some n) = refl

headed_lists : (o : Option ((ℕ × ℕ) × List ℕ)) → HasNoTruth (o >>= λ h. map_value (list h.0.1) (elements (value in_list h.0.1) h.0.0 h.1))
headed_lists None = refl
headed_lists (Some h) = lists h.0.1 (elements (value in_list h.0.1) h.0.0 h.1)

headed_maps : (o : Option ((ℕ × ℕ × ℕ) × List ℕ)) → HasNoTruth (o >>= λ h. map_value map (entries (value in_list h.0.1) (value in_list h.0.2) h.0.0 h.1))
headed_maps None = refl
headed_maps (Some h) = maps (entries (value in_list h.0.1) (value in_list h.0.2) h.0.0 h.1)

-- a value of a kind above those of truth values
others : (kind : ℕ) (bytes : List ℕ) → nat_le kind 2 ≡ false → HasNoTruth (value_with value in_list kind bytes)
others kind bytes above =
    rw above
    (either_way (nat_eq kind 3) _ _ (numbers (signed_byte bytes))
    (either_way (nat_eq kind 4) _ _ (numbers (signed 16 bytes))
    (either_way (nat_eq kind 5) _ _ (numbers (signed 32 bytes))
    (either_way (nat_eq kind 6) _ _ (numbers (signed 64 bytes))
    (either_way (nat_eq kind 7) _ _ (doubles (raw 8 bytes))
    (either_way (nat_eq kind 8) _ _ (binaries (bytes_of_length bytes))
    (either_way (nat_le kind 10) _ _ (headed_lists (list_header bytes))
    (either_way (nat_eq kind 11) _ _ (headed_maps (map_header bytes))
    (structs (fields_of (value in_struct) (pos 0) bytes))))))))))

truths : (o : Option (Bool × List ℕ)) → (map_value truth o >>= λ v. with_rest (truth_of v.0) v.1) ≡ o
truths None = refl
truths (Some b) = refl

pub truth_element_true : (bytes : List ℕ) → by_rule in_list truth_element 1 bytes ≡ list_truth bytes
unfolding by_rule truth_element value value_within
truth_element_true bytes = truths (list_truth bytes)

pub truth_element_false : (bytes : List ℕ) → by_rule in_list truth_element 2 bytes ≡ list_truth bytes
unfolding by_rule truth_element value value_within
truth_element_false bytes = truths (list_truth bytes)

pub truth_element_other : (kind : ℕ) (bytes : List ℕ) → kind ≢ 1 → kind ≢ 2 → by_rule in_list truth_element kind bytes ≡ None
unfolding by_rule truth_element
truth_element_other zero bytes not_true not_false = rw (value-next in_list zero bytes) refl
truth_element_other (suc zero) bytes not_true not_false = absurd (not_true refl)
truth_element_other (suc (suc zero)) bytes not_true not_false = absurd (not_false refl)
truth_element_other (suc (suc (suc kind))) bytes not_true not_false = rw (value-next in_list (suc (suc (suc kind))) bytes) (either_way (is_kind (suc (suc (suc kind)))) _ _ (others (suc (suc (suc kind))) bytes (lt-leb (suc (suc (suc kind))) 2 (omega arith))) refl)

pub ruleset truth_element_rules = (truth_element_true, truth_element_false, truth_element_other)

-- Places among byte strings of one size.
use Rattle.std.proofs.Common.{◌≡◌, ℕ, ◌*◌, ◌/◌, ◌<◌, ◌++◌, true, List, [], ◌∷◌, length, map, take, drop, Option, Some, None, Ok, refl, sym, ap, ◌∙◌, subst, arith}
use Rattle.std.specs.Prelude.{◌==◌, is_some, unwrap_or, option_map}
use Rattle.std.specs.Simd.{first_chunks}
use Rattle.std.proofs.Math.Nat.{mul-div_cancel}
use Rattle.std.proofs.lemmas.Bool.{true≢false, eqb-true}
use Rattle.std.specs.Option.{option_map_or}
use Rattle.std.proofs.lemmas.List.{drop-map, map-append, take-map, take_all}
use Rattle.std.proofs.lemmas.Simd.{map-map}
use Rattle.columns_core.specs.Causes.{ExternalFormat, IsOneOf, cause_of, unless}
use Rattle.columns_core.specs.declared.cell.Cell.{Cell, Bytes}
use Rattle.columns_core.specs.declared.error.Error.{Error}
use Rattle.columns_core.specs.Fixed.{fixed_pieces}
use Rattle.parquet_encoding.specs.Places.{bytes_in, places_of}
use Rattle.parquet_encoding.specs.Plain.{plain_fixed}
use Rattle.parquet_encoding.proofs.FixedLemmas.{chunks_in, places-chunks, steps}
use Rattle.parquet_encoding.proofs.StepLemmas.{given_some}
use Rattle.parquet_encoding.specs.PlainLeft.{fixed_values}
use Rattle.parquet_encoding.specs.declared.plain_fixed.PlainFixed.{PlainFixed}
use Rattle.parquet_meta.specs.declared.metadata.PhysicalType.TheVariants.{FixedLenByteArray}
use Rattle.parquet_page.specs.Opened.{key_causes}
use Rattle.parquet_page.specs.Stored.{Octets}
use Rattle.parquet_page.specs.Values as encoding
use Rattle.parquet_page.specs.Values.{dictionary_keys, plain_values}
use Rattle.page_decoding.specs.Outcome.{Given, causes_in, refusal_of}
use Rattle.flat_values.specs.Added.{Adds}
use Rattle.flat_values.specs.Conversion.{Conversion, Keep}
use Rattle.flat_values.specs.FixedLeft.{fixed_outcomes}
use Rattle.flat_values.specs.KeysLeft.{keys}
use Rattle.flat_values.specs.Outcomes.{dictionary_cells, entry_outcome, stored_outcome, value_causes, value_outcomes}
use Rattle.flat_values.specs.declared.fixed.FixedPlace.{FixedPlace}
use Rattle.flat_values.specs.declared.fixed.FixedPlace.TheVariants.{Plain, Keys}
use Rattle.flat_values.specs.declared.keys.KeyPlace.{KeyPlace}
use Rattle.flat_values.proofs.OutcomeLemmas.{behind, no_entries}
use Rattle.flat_values.proofs.NumberPlaces.{dictionary_read}
use Rattle.flat_values.proofs.ItemLemmas.{pieces-chunks}
use Rattle.flat_values.proofs.PlainLemmas.{is_some-map}

some_of : {A : Type 0} (o : Option A) → true ≡ is_some o → (x : A) × (o ≡ Some x)
some_of None e = absurd (true≢false e)
some_of (Some x) e = (x, refl)

-- what stands at the places of plain values are the values
pub at_places : (size : ℕ) (bytes : List ℕ) (count : ℕ) (left : Option (List (ℕ × ℕ))) → true ≡ is_some (plain_fixed size bytes count) → left ≡ option_map (places_of 0 0) (plain_fixed size bytes count)
    → plain_fixed size bytes count ≡ Some (map (bytes_in bytes) (unwrap_or left []))
unfolding plain_fixed
at_places size bytes count left there is =
    let some = some_of (plain_fixed size bytes count) there in
    let test = given_some (length bytes == count * size) (first_chunks size count bytes) some.0 some.1 in
    let long : length bytes ≡ count * size = eqb-true (length bytes) (count * size) test.0 in
    let places : left ≡ Some (steps 0 size count) = is ∙ ap (option_map (places_of 0 0)) some.1 ∙ ap (λ values. Some (places_of 0 0 values)) (sym test.1) ∙ ap Some (places-chunks size count bytes 0 long) in
    some.1 ∙ ap Some (
    sym test.1 ∙ ap (first_chunks size count) (sym (take_all (count * size) bytes (omega (arith, long)))) ∙ chunks_in size count bytes 0
    ∙ ap (λ o. map (bytes_in bytes) (unwrap_or o [])) (sym places))

-- a part of plain values, cut into items
pub cut_part : (size own count : ℕ) (part : List ℕ) (values : List (List ℕ)) → 0 < size → own ≡ size → length part ≡ count * own → first_chunks own count part ≡ values → fixed_pieces size part ≡ values
cut_part size own count part values some same long is =
    pieces-chunks size part ∙ ap (λ n. first_chunks size n part) (ap (λ n. n / size) (long ∙ ap (λ n. count * n) same) ∙ mul-div_cancel count some) ∙ ap (λ n. first_chunks n count part) (sym same) ∙ is

-- ---- what is left

module _ (rule : Conversion) (entries : Option (List Cell)) (bytes : List ℕ) (place : FixedPlace) where
  pub plain_rest : (own : PlainFixed) (left : Option (List (ℕ × ℕ))) (count : ℕ) → place ≡ Plain own → left ≡ Some (drop count (fixed_values own bytes))
      → map (λ piece. stored_outcome rule (Octets (bytes_in bytes piece))) (unwrap_or left []) ≡ drop count (fixed_outcomes rule entries bytes place)
  plain_rest own left count is rest = behind (λ piece. stored_outcome rule (Octets (bytes_in bytes piece))) left (fixed_values own bytes) count rest ∙ ap (λ p. drop count (fixed_outcomes rule entries bytes p)) (sym is)

  pub keys_rest : (own : KeyPlace) (left : List ℕ) (count : ℕ) → place ≡ Keys own → left ≡ drop count (keys own bytes) → map (entry_outcome entries) left ≡ drop count (fixed_outcomes rule entries bytes place)
  keys_rest own left count is rest = ap (map (entry_outcome entries)) rest ∙ sym (drop-map (entry_outcome entries) count (keys own bytes)) ∙ ap (λ p. drop count (fixed_outcomes rule entries bytes p)) (sym is)

  -- what the next plain values give
  pub plain_taken : (own : PlainFixed) (count : ℕ) → place ≡ Plain own → map (λ value. stored_outcome rule (Octets value)) (map (bytes_in bytes) (take count (fixed_values own bytes))) ≡ take count (fixed_outcomes rule entries bytes place)
  plain_taken own count is =
      map-map (λ value. stored_outcome rule (Octets value)) (bytes_in bytes) (take count (fixed_values own bytes))
      ∙ sym (take-map (λ piece. stored_outcome rule (Octets (bytes_in bytes piece))) count (fixed_values own bytes)) ∙ ap (λ p. take count (fixed_outcomes rule entries bytes p)) (sym is)

-- plain values that are added as they are
pub plain_added : (entries : Option (List Cell)) (bytes : List ℕ) (place : FixedPlace) (own : PlainFixed) (old new : List (List ℕ)) (count : ℕ) → place ≡ Plain own → new ≡ old ++ map (bytes_in bytes) (take count (fixed_values own bytes))
    → Adds Bytes old new (take count (fixed_outcomes Keep entries bytes place))
plain_added entries bytes place own old new count is added =
    let item = λ (value : List ℕ). Given (Bytes value) in
    ap (map item) added ∙ map-append item old (map (bytes_in bytes) (take count (fixed_values own bytes)))
    ∙ ap (λ more. map item old ++ more) (plain_taken Keep entries bytes place own count is)

-- the entries as a list that may be empty, or none
pub fixed_alike : {D T : Type 0} (cell : T → Cell) (dict : Option D) (items : D → List T) (entries : List T) (rule : Conversion) (bytes : List ℕ) (p : FixedPlace) → entries ≡ option_map_or items dict []
    → fixed_outcomes rule (Some (map cell entries)) bytes p ≡ fixed_outcomes rule (option_map (λ v. map cell (items v)) dict) bytes p
fixed_alike {D = D} cell dict items entries rule bytes p e = ap (λ l. fixed_outcomes rule (Some (map cell l)) bytes p) e ∙ same dict p where
  same : (o : Option D) (p : FixedPlace) → fixed_outcomes rule (Some (map cell (option_map_or items o []))) bytes p ≡ fixed_outcomes rule (option_map (λ v. map cell (items v)) o) bytes p
  same None (Plain q) = refl
  same None (Keys q) = refl
  same (Some v) p = refl

-- ---- what is opened

module _ (size : ℕ) (bytes : List ℕ) (count : ℕ) where
  pub plain_outcomes : (rule : Conversion) (entries : Option (List Cell)) (places : List (ℕ × ℕ)) → plain_fixed size bytes count ≡ Some (map (bytes_in bytes) places)
      → value_outcomes rule (FixedLenByteArray size) entries encoding.Plain bytes count ≡ Some (map (λ piece. stored_outcome rule (Octets (bytes_in bytes piece))) places)
  unfolding value_outcomes plain_values
  plain_outcomes rule entries places e =
      ap (λ o. option_map (map (stored_outcome rule)) (option_map (map Octets) o)) e
      ∙ ap Some (map-map (stored_outcome rule) Octets (map (bytes_in bytes) places) ∙ map-map (λ value. stored_outcome rule (Octets value)) (bytes_in bytes) places)

  plain_causes : (entries : Option ℕ) → value_causes (FixedLenByteArray size) entries encoding.Plain bytes count ≡ unless (is_some (plain_fixed size bytes count)) ExternalFormat
  unfolding value_causes plain_values
  plain_causes entries = ap (λ b. unless b ExternalFormat) (is_some-map (map Octets) (plain_fixed size bytes count))

  pub no_plain_cause : (entries : Option ℕ) (values : List (List ℕ)) → plain_fixed size bytes count ≡ Some values → value_causes (FixedLenByteArray size) entries encoding.Plain bytes count ≡ []
  no_plain_cause entries values e = plain_causes entries ∙ ap (λ o. unless (is_some o) ExternalFormat) e

  pub one_plain_cause : (entries : Option ℕ) (error : Error) → (cause_of error ≡ Some ExternalFormat) × (plain_fixed size bytes count ≡ None)
      → IsOneOf (value_causes (FixedLenByteArray size) entries encoding.Plain bytes count) (cause_of error)
  one_plain_cause entries error h = rw (plain_causes entries, h.1, h.0) (0, omega arith, refl)

  pub key_outcomes : (rule : Conversion) (entries : Option (List Cell)) (keys : List ℕ) → dictionary_keys bytes count ≡ Some keys → value_outcomes rule (FixedLenByteArray size) entries encoding.Keys bytes count ≡ Some (map (entry_outcome entries) keys)
  unfolding value_outcomes
  key_outcomes rule entries keys e = ap (option_map (map (entry_outcome entries))) e

  pub no_key_cause : (entries own : Option ℕ) → own ≡ entries → option_map_or (key_causes None own) (dictionary_keys bytes count) (ExternalFormat ∷ []) ≡ [] → value_causes (FixedLenByteArray size) entries encoding.Keys bytes count ≡ []
  unfolding value_causes
  no_key_cause entries own same none = ap (λ e. option_map_or (key_causes None e) (dictionary_keys bytes count) (ExternalFormat ∷ [])) (sym same) ∙ none

  pub one_key_cause : (entries own : Option ℕ) (error : Error) → own ≡ entries → IsOneOf (option_map_or (key_causes None own) (dictionary_keys bytes count) (ExternalFormat ∷ [])) (cause_of error)
      → IsOneOf (value_causes (FixedLenByteArray size) entries encoding.Keys bytes count) (cause_of error)
  unfolding value_causes
  one_key_cause entries own error same told = let P : Option ℕ → Type 0 = λ e. IsOneOf (option_map_or (key_causes None e) (dictionary_keys bytes count) (ExternalFormat ∷ [])) (cause_of error) in subst P same told

  -- the entries of a dictionary
  pub fixed_entries : {T : Type 0} (cell : T → Cell) (rule : Conversion) (values : List (List ℕ)) (entries : List T) → plain_fixed size bytes count ≡ Some values → Adds cell [] entries (map (λ value. stored_outcome rule (Octets value)) values)
      → dictionary_cells rule (FixedLenByteArray size) (record { body = bytes; num_values = count }) ≡ Ok (map cell entries)
  unfolding plain_values
  fixed_entries cell rule values entries e added =
      dictionary_read cell rule (FixedLenByteArray size) (record { body = bytes; num_values = count }) (map Octets values) entries (ap (option_map (map Octets)) e) (added ∙ sym (map-map (stored_outcome rule) Octets values))

  pub no_fixed_entries : (rule : Conversion) (error : Error) → (cause_of error ≡ Some ExternalFormat) × (plain_fixed size bytes count ≡ None)
      → IsOneOf (causes_in (refusal_of (dictionary_cells rule (FixedLenByteArray size) (record { body = bytes; num_values = count })))) (cause_of error)
  unfolding plain_values
  no_fixed_entries rule error h = no_entries rule (FixedLenByteArray size) (record { body = bytes; num_values = count }) error (ap (option_map (map Octets)) h.1) h.0

-- Places among stored numbers: before the first, behind some, and what they give.
use Rattle.std.proofs.Common.{◌≡◌, ℕ, ℤ, false, List, [], ◌∷◌, length, map, refl, sym, ap, ◌∙◌, subst, inl, inr, arith, append-nil}
use Rattle.std.specs.Prelude.{if◌then◌else◌, is_some, Contains, Option, Some, None, option_map, Ok, Err}
use Rattle.std.specs.Option.{option_map_or}
use Rattle.std.proofs.lemmas.Bool.{true≢false}
use Rattle.std.proofs.lemmas.List.{length-map}
use Rattle.std.proofs.lemmas.Simd.{map-map}
use Rattle.columns_core.specs.Causes.{Cause, ExternalFormat, IsOneOf, cause_of, is_empty, unless}
use Rattle.columns_core.specs.declared.cell.Cell.{Cell}
use Rattle.columns_core.specs.declared.error.Error.{Error}
use Rattle.parquet_encoding.proofs.StepLemmas.{something}
use Rattle.parquet_meta.specs.declared.metadata.PhysicalType.{PhysicalType}
use Rattle.parquet_page.specs.Content.{DictContent}
use Rattle.parquet_page.specs.Opened.{key_causes}
use Rattle.parquet_page.specs.Stored.{Stored}
use Rattle.parquet_page.specs.Values.{delta_values, dictionary_keys, plain_values}
use Rattle.page_decoding.specs.Outcome.{Outcome, Given, IsCausedBy, all_given, causes_in, cells_in, refusal_of}
use Rattle.flat_values.specs.Added.{Adds}
use Rattle.flat_values.specs.Conversion.{Conversion}
use Rattle.flat_values.specs.Encodings.{as_encoding}
use Rattle.flat_values.specs.NumbersLeft.{number_left}
use Rattle.flat_values.specs.Outcomes.{dictionary_cells, entry_outcome, stored_outcome, value_causes, value_outcomes}
use Rattle.flat_values.specs.declared.numbers.NumberPlace.{NumberPlace}
use Rattle.flat_values.specs.declared.numbers.NumberPlace.TheVariants as place
use Rattle.flat_values.specs.declared.value_decoder.ValueEncoding.{ValueEncoding}
use Rattle.flat_values.specs.declared.value_decoder.ValueEncoding.TheVariants as read

-- ---- before the first

pub opens_plain : (rule : Conversion) (type : PhysicalType) (entries : Option (List Cell)) (encoding : ValueEncoding) (bytes : List ℕ) (count : ℕ) (values : List Stored) → encoding ≡ read.Plain → plain_values type bytes count ≡ Some values
    → value_outcomes rule type entries (as_encoding encoding) bytes count ≡ Some (map (stored_outcome rule) values)
unfolding value_outcomes
opens_plain rule type entries encoding bytes count values is e = ap (λ x. value_outcomes rule type entries (as_encoding x) bytes count) is ∙ ap (option_map (map (stored_outcome rule))) e

pub opens_keys : (rule : Conversion) (type : PhysicalType) (entries : Option (List Cell)) (encoding : ValueEncoding) (bytes : List ℕ) (count : ℕ) (keys : List ℕ) → encoding ≡ read.Keys → dictionary_keys bytes count ≡ Some keys
    → value_outcomes rule type entries (as_encoding encoding) bytes count ≡ Some (map (entry_outcome entries) keys)
unfolding value_outcomes
opens_keys rule type entries encoding bytes count keys is e = ap (λ x. value_outcomes rule type entries (as_encoding x) bytes count) is ∙ ap (option_map (map (entry_outcome entries))) e

pub opens_deltas : (rule : Conversion) (type : PhysicalType) (delta : ℤ → Stored) (entries : Option (List Cell)) (encoding : ValueEncoding) (bytes : List ℕ) (count : ℕ) (numbers : List ℤ) → encoding ≡ read.DeltaPacked → delta_values type bytes count ≡ Some (map delta numbers)
    → value_outcomes rule type entries (as_encoding encoding) bytes count ≡ Some (map (λ number. stored_outcome rule (delta number)) numbers)
unfolding value_outcomes
opens_deltas rule type delta entries encoding bytes count numbers is e =
    ap (λ x. value_outcomes rule type entries (as_encoding x) bytes count) is ∙ ap (option_map (map (stored_outcome rule))) e ∙ ap something (map-map (stored_outcome rule) delta numbers)

pub plain_causes : (type : PhysicalType) (entries : Option ℕ) (encoding : ValueEncoding) (bytes : List ℕ) (count : ℕ) → encoding ≡ read.Plain → value_causes type entries (as_encoding encoding) bytes count ≡ unless (is_some (plain_values type bytes count)) ExternalFormat
unfolding value_causes
plain_causes type entries encoding bytes count is = ap (λ x. value_causes type entries (as_encoding x) bytes count) is

pub delta_causes : (type : PhysicalType) (entries : Option ℕ) (encoding : ValueEncoding) (bytes : List ℕ) (count : ℕ) → encoding ≡ read.DeltaPacked → value_causes type entries (as_encoding encoding) bytes count ≡ unless (is_some (delta_values type bytes count)) ExternalFormat
unfolding value_causes
delta_causes type entries encoding bytes count is = ap (λ x. value_causes type entries (as_encoding x) bytes count) is

-- as many cells as entries
pub cells_counted : {D T : Type 0} (cell : T → Cell) (dict : Option D) (items : D → List T) → option_map (λ v. length (map cell (items v))) dict ≡ option_map (λ v. length (items v)) dict
cells_counted cell None items = refl
cells_counted cell (Some v) items = ap something (length-map (items v) cell)

pub keys_causes : {D T : Type 0} (cell : T → Cell) (dict : Option D) (items : D → List T) (entries : Option ℕ) (type : PhysicalType) (encoding : ValueEncoding) (bytes : List ℕ) (count : ℕ) → encoding ≡ read.Keys → entries ≡ option_map (λ v. length (items v)) dict
    → value_causes type (option_map (λ v. length (map cell (items v))) dict) (as_encoding encoding) bytes count ≡ option_map_or (key_causes None entries) (dictionary_keys bytes count) (ExternalFormat ∷ [])
unfolding value_causes
keys_causes cell dict items entries type encoding bytes count is e =
    ap (λ x. value_causes type (option_map (λ v. length (map cell (items v))) dict) (as_encoding x) bytes count) is
    ∙ ap (λ n. option_map_or (key_causes None n) (dictionary_keys bytes count) (ExternalFormat ∷ [])) (cells_counted cell dict items ∙ sym e)

-- ---- the entries of a dictionary

pub entries_alike : {D T : Type 0} (cell : T → Cell) (dict : Option D) (items : D → List T) (entries : List T) (rule : Conversion) (type : PhysicalType) (delta : ℤ → Stored) (bytes : List ℕ) (p : NumberPlace) → entries ≡ option_map_or items dict []
    → number_left rule type delta (Some (map cell entries)) bytes p ≡ number_left rule type delta (option_map (λ v. map cell (items v)) dict) bytes p
entries_alike {D = D} cell dict items entries rule type delta bytes p e = ap (λ l. number_left rule type delta (Some (map cell l)) bytes p) e ∙ same dict p where
  same : (o : Option D) (p : NumberPlace) → number_left rule type delta (Some (map cell (option_map_or items o []))) bytes p ≡ number_left rule type delta (option_map (λ v. map cell (items v)) o) bytes p
  same None (place.Plain q) = refl
  same None (place.Keys q) = refl
  same None (place.Deltas q) = refl
  same (Some v) p = refl

-- ---- a dictionary page

-- what pieces spell, converted
pub pieces_give : {B : Type 0} (so : Stored → Outcome) (plain : B → Stored) (pieces : List B) (stored : List Stored) → map plain pieces ≡ stored → map (λ piece. so (plain piece)) pieces ≡ map so stored
pieces_give so plain pieces stored e = sym (map-map so plain pieces) ∙ ap (map so) e

none_wrong : {T : Type 0} (cell : T → Cell) (values : List T) → causes_in (map (λ y. Given (cell y)) values) ≡ []
none_wrong cell [] = refl
none_wrong cell (value ∷ values) = none_wrong cell values

all_cells : {T : Type 0} (cell : T → Cell) (values : List T) → cells_in (map (λ y. Given (cell y)) values) ≡ map cell values
all_cells cell [] = refl
all_cells cell (value ∷ values) = ap (λ rest. cell value ∷ rest) (all_cells cell values)

given_all : {T : Type 0} (cell : T → Cell) (values : List T) → all_given (map (λ y. Given (cell y)) values) ≡ Ok (map cell values)
given_all cell values = rw (none_wrong cell values, all_cells cell values) refl

pub dictionary_read : {T : Type 0} (cell : T → Cell) (rule : Conversion) (type : PhysicalType) (page : DictContent) (stored : List Stored) (entries : List T) → plain_values type page.body page.num_values ≡ Some stored → Adds cell [] entries (map (stored_outcome rule) stored)
    → dictionary_cells rule type page ≡ Ok (map cell entries)
unfolding dictionary_cells
dictionary_read cell rule type page stored entries e added = ap (λ o. option_map_or (λ stored. all_given (map (stored_outcome rule) stored)) o (Err (ExternalFormat ∷ []))) e ∙ ap all_given (sym added) ∙ given_all cell entries

pub dictionary_damaged : (rule : Conversion) (type : PhysicalType) (page : DictContent) → false ≡ is_some (plain_values type page.body page.num_values) → Contains (causes_in (refusal_of (dictionary_cells rule type page))) ExternalFormat
unfolding dictionary_cells
dictionary_damaged rule type page e = go (plain_values type page.body page.num_values) e where
  go : (o : Option (List Stored)) → false ≡ is_some o → Contains (causes_in (refusal_of (option_map_or (λ stored. all_given (map (stored_outcome rule) stored)) o (Err (ExternalFormat ∷ []))))) ExternalFormat
  go None e = (0, omega arith, refl)
  go (Some stored) e = absurd (true≢false (sym e))

wrong_alike : (cells : List Cell) (causes : List Cause) (o : Option Cause) → IsOneOf causes o → IsOneOf (causes_in (refusal_of (if is_empty causes then Ok cells else Err causes))) o
wrong_alike cells [] None h = h
wrong_alike cells [] (Some cause) h = absurd (omega (arith, h.1))
wrong_alike cells (first ∷ causes) o h = let P : List Cause → Type 0 = λ found. IsOneOf found o in subst P (sym (append-nil (first ∷ causes))) h

pub dictionary_wrong : (rule : Conversion) (type : PhysicalType) (page : DictContent) (stored : List Stored) (error : Error) → plain_values type page.body page.num_values ≡ Some stored → IsCausedBy (map (stored_outcome rule) stored) error → IsCausedBy (refusal_of (dictionary_cells rule type page)) error
unfolding dictionary_cells
dictionary_wrong rule type page stored error e (inl memory) = inl memory
dictionary_wrong rule type page stored error e (inr wrong) =
    let outcomes = map (stored_outcome rule) stored in
    inr (rw e (wrong_alike (cells_in outcomes) (causes_in outcomes) (cause_of error) wrong))

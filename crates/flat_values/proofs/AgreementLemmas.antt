-- The places of a page give what its items are.
use Rattle.std.proofs.Common.{◌≡◌, ℕ, zero, suc, Bool, true, false, List, [], ◌∷◌, length, map, refl, sym, ap, ◌∙◌}
use Rattle.std.specs.Prelude.{if◌then◌else◌, is_some, slice_get, Option, Some, None, option_map, Ok, Err}
use Rattle.std.specs.Option.{option_map_or}
use Rattle.std.proofs.lemmas.List.{length-map}
use Rattle.std.proofs.lemmas.Option.{none-some}
use Rattle.columns_core.specs.Causes.{Cause, ExternalFormat, is_empty}
use Rattle.columns_core.specs.declared.cell.Cell.{Cell, Null}
use Rattle.columns_core.specs.declared.data_type.DataType.{DataType}
use Rattle.parquet_base.specs.Reading.{◌>>=◌}
use Rattle.parquet_encoding.proofs.StepLemmas.{bind_some, is_something, some_is, something, something_is}
use Rattle.parquet_meta.specs.declared.metadata.PhysicalType.{PhysicalType}
use Rattle.parquet_page.specs.Content.{DataContent, DictContent}
use Rattle.parquet_page.specs.Levels.{placed, present_count}
use Rattle.parquet_page.specs.Opened.{page_causes}
use Rattle.parquet_page.specs.Spelling.{dictionary_entries, page_encoding, places_and_values, spelled}
use Rattle.parquet_page.specs.Stored.{Stored}
use Rattle.parquet_page.specs.Values.{Encoding, Plain, Keys, DeltaPacked, DeltaLengths, dictionary_keys, named_by, unless_none, values_in}
use Rattle.parquet_page.proofs.SpelledLemmas.{AreTold, values_are_spelled}
use Rattle.page_decoding.specs.Outcome.{Outcome, Given, all_given, causes_in, cells_in}
use Rattle.flat_values.specs.Agreement.{AreEntriesOf, PlacesGiveItems}
use Rattle.flat_values.specs.Conversion.{Conversion, Item, Value, NotInRange, NotText, convert, convert_place}
use Rattle.flat_values.specs.Items.{page_items}
use Rattle.flat_values.specs.Outcomes.{dictionary_cells, entry_outcome, outcome_of, place_outcomes, placed_outcome, stored_outcome, value_outcomes}
use Rattle.flat_values.specs.Pairs.{conversion}

-- ---- entries that all become cells

first_given : (item : Item) (outcomes : List Outcome) → (causes_in outcomes ≡ [] → outcomes ≡ map Given (cells_in outcomes))
    → causes_in (outcome_of item ∷ outcomes) ≡ [] → outcome_of item ∷ outcomes ≡ map Given (cells_in (outcome_of item ∷ outcomes))
first_given (Value cell) outcomes others none = ap (λ rest. Given cell ∷ rest) (others none)
first_given NotInRange outcomes others none = absurd cc
first_given NotText outcomes others none = absurd cc

none_refused : (rule : Conversion) (stored : List Stored) → causes_in (map (stored_outcome rule) stored) ≡ [] → map (stored_outcome rule) stored ≡ map Given (cells_in (map (stored_outcome rule) stored))
none_refused rule [] none = refl
none_refused rule (value ∷ values) none = first_given (convert rule value) (map (stored_outcome rule) values) (none_refused rule values) none

no_causes : (causes : List Cause) (found cells : List Cell) → (if is_empty causes then Ok found else Err causes) ≡ Ok cells → (causes ≡ []) × (found ≡ cells)
no_causes [] found cells e = (refl, cc)
no_causes (cause ∷ causes) found cells e = absurd cc

stored_given : (rule : Conversion) (stored : List Stored) (cells : List Cell) → all_given (map (stored_outcome rule) stored) ≡ Ok cells → map (stored_outcome rule) stored ≡ map Given cells
stored_given rule stored cells e =
    let own = no_causes (causes_in (map (stored_outcome rule) stored)) (cells_in (map (stored_outcome rule) stored)) cells e in
    none_refused rule stored own.0 ∙ ap (map Given) own.1

-- the entries as they are stored, and converted
abbrev pub AreConverted : Conversion → Option (List Stored) → Option (List Cell) → Type 0
AreConverted rule None None = Unit {0}
AreConverted rule (Some stored) (Some cells) = map (stored_outcome rule) stored ≡ map Given cells
AreConverted rule _ _ = ⊥

pub entries_converted : (rule : Conversion) (type : PhysicalType) (dictionary : Option DictContent) (entries : Option (List Cell)) → AreEntriesOf rule type dictionary entries → AreConverted rule (dictionary >>= dictionary_entries type) entries
unfolding dictionary_cells
entries_converted rule type None None are = tt
entries_converted rule type None (Some cells) are = are
entries_converted rule type (Some page) None are = absurd are
entries_converted rule type (Some page) (Some cells) are = go (dictionary_entries type page) are where
  go : (o : Option (List Stored)) → option_map_or (λ stored. all_given (map (stored_outcome rule) stored)) o (Err (ExternalFormat ∷ [])) ≡ Ok cells → AreConverted rule o (Some cells)
  go None e = absurd cc
  go (Some stored) e = stored_given rule stored cells e

pub as_many : (rule : Conversion) (told : Option (List Stored)) (entries : Option (List Cell)) → AreConverted rule told entries → option_map length told ≡ option_map length entries
as_many rule None None are = refl
as_many rule None (Some cells) are = absurd are
as_many rule (Some stored) None are = absurd are
as_many rule (Some stored) (Some cells) are = ap something (sym (length-map stored (stored_outcome rule)) ∙ ap length are ∙ length-map cells Given)

are_told : (rule : Conversion) (told : Option (List Stored)) (entries : Option (List Cell)) → AreConverted rule told entries → AreTold (is_some entries) told
are_told rule None None are h = h
are_told rule None (Some cells) are h = absurd are
are_told rule (Some stored) entries are h = refl

-- ---- values

-- a key finds the same entry, stored or converted
found_given : (rule : Conversion) (stored : List Stored) (cells : List Cell) (key : ℕ) (value : Stored) → map (stored_outcome rule) stored ≡ map Given cells → slice_get stored key ≡ Some value → entry_outcome (Some cells) key ≡ stored_outcome rule value
found_given rule [] cells key value are e = absurd (none-some value e)
found_given rule (first ∷ stored) [] key value are e = absurd cc
found_given rule (first ∷ stored) (cell ∷ cells) zero value are e = let here : stored_outcome rule first ≡ Given cell = cc in sym here ∙ ap (stored_outcome rule) (some_is first value e)
found_given rule (first ∷ stored) (cell ∷ cells) (suc key) value are e = let others : map (stored_outcome rule) stored ≡ map Given cells = cc in found_given rule stored cells key value others e

named_given : (rule : Conversion) (stored : List Stored) (cells : List Cell) → map (stored_outcome rule) stored ≡ map Given cells → (keys : List ℕ) (values : List Stored) → named_by stored keys ≡ Some values
    → map (entry_outcome (Some cells)) keys ≡ map (stored_outcome rule) values
named_given rule stored cells are [] values e = ap (map (stored_outcome rule)) (some_is [] values e)
named_given rule stored cells are (key ∷ keys) values e =
    let value = bind_some (slice_get stored key) (λ value. named_by stored keys >>= λ others. Some (value ∷ others)) values e in
    let others = bind_some (named_by stored keys) (λ others. Some (value.0 ∷ others)) values value.2 in
    rw (found_given rule stored cells key value.0 are value.1, named_given rule stored cells are keys others.0 others.1) (ap (map (stored_outcome rule)) (some_is (value.0 ∷ others.0) values others.2))

value_given : (rule : Conversion) (type : PhysicalType) (told : Option (List Stored)) (entries : Option (List Cell)) → AreConverted rule told entries
    → (encoding : Encoding) (bytes : List ℕ) (count : ℕ) (values : List Stored) → values_in encoding type told bytes count ≡ Some values → value_outcomes rule type entries encoding bytes count ≡ Some (map (stored_outcome rule) values)
unfolding value_outcomes
value_given rule type told entries are Plain bytes count values e = ap (option_map (map (stored_outcome rule))) e
value_given rule type told entries are DeltaPacked bytes count values e = ap (option_map (map (stored_outcome rule))) e
value_given rule type told entries are DeltaLengths bytes count values e = ap (option_map (map (stored_outcome rule))) e
value_given rule type None entries are Keys bytes count values e = absurd (none-some values e)
value_given rule type (Some stored) None are Keys bytes count values e = absurd are
value_given rule type (Some stored) (Some cells) are Keys bytes count values e =
    let keys = bind_some (dictionary_keys bytes count) (named_by stored) values e in
    rw keys.1 (ap something (named_given rule stored cells are keys.0 values keys.2))

unless_none_given : {A B : Type 0} (f : A → B) (count : ℕ) (o : Option (List A)) (p : Option (List B)) → ((values : List A) → o ≡ Some values → p ≡ Some (map f values))
    → (values : List A) → unless_none count o ≡ Some values → unless_none count p ≡ Some (map f values)
unless_none_given f zero o p given values e = ap (λ list. Some (map f list)) (some_is [] values e)
unless_none_given f (suc count) o p given values e = given values e

-- ---- places

mapped_places : {A B : Type 0} (f : A → B) (places : List Bool) (values : List A) (list : List (Option A)) → placed places values ≡ Some list → placed places (map f values) ≡ Some (map (option_map f) list)
mapped_places f [] [] list e = ap (λ places. Some (map (option_map f) places)) (some_is [] list e)
mapped_places f [] (value ∷ values) list e = absurd (none-some list e)
mapped_places f (false ∷ places) values list e =
    let others = bind_some (placed places values) (λ others. Some (None ∷ others)) list e in
    rw (mapped_places f places values others.0 others.1) (ap (λ places. Some (map (option_map f) places)) (some_is (None ∷ others.0) list others.2))
mapped_places f (true ∷ places) [] list e = absurd (none-some list e)
mapped_places f (true ∷ places) (value ∷ values) list e =
    let others = bind_some (placed places values) (λ others. Some (Some value ∷ others)) list e in
    rw (mapped_places f places values others.0 others.1) (ap (λ places. Some (map (option_map f) places)) (some_is (Some value ∷ others.0) list others.2))

place_given : (rule : Conversion) (places : List (Option Stored)) → map placed_outcome (map (option_map (stored_outcome rule)) places) ≡ map outcome_of (map (convert_place rule) places)
place_given rule [] = refl
place_given rule (None ∷ places) = ap (λ rest. Given Null ∷ rest) (place_given rule places)
place_given rule (Some value ∷ places) = ap (λ rest. stored_outcome rule value ∷ rest) (place_given rule places)

-- ---- pages

outcomes_placed : (rule : Conversion) (entries : Option (List Cell)) (page : DataContent) (encoding : Encoding) (parts : List Bool × List ℕ) (values : List Outcome) (list : List (Option Outcome)) → page_encoding page ≡ Some encoding → places_and_values page ≡ Some parts
    → unless_none (present_count parts.0) (value_outcomes rule page.type.physical_type entries encoding parts.1 (present_count parts.0)) ≡ Some values → placed parts.0 values ≡ Some list → place_outcomes rule entries page ≡ Some (map placed_outcome list)
unfolding place_outcomes
outcomes_placed rule entries page encoding parts values list read split stored e = rw (read, split, stored, e) refl

spelled_given : (rule : Conversion) (told : Option (List Stored)) (entries : Option (List Cell)) (page : DataContent) (places : List (Option Stored)) → AreConverted rule told entries → spelled page told ≡ Some places
    → place_outcomes rule entries page ≡ Some (map outcome_of (map (convert_place rule) places))
unfolding spelled
spelled_given rule told entries page places are e =
    let type = page.type.physical_type in
    let encoding = bind_some (page_encoding page) (λ encoding. places_and_values page >>= λ parts. unless_none (present_count parts.0) (values_in encoding type told parts.1 (present_count parts.0)) >>= λ values. placed parts.0 values) places e in
    let parts = bind_some (places_and_values page) (λ parts. unless_none (present_count parts.0) (values_in encoding.0 type told parts.1 (present_count parts.0)) >>= λ values. placed parts.0 values) places encoding.2 in
    let count = present_count parts.0.0 in
    let values = bind_some (unless_none count (values_in encoding.0 type told parts.0.1 count)) (λ values. placed parts.0.0 values) places parts.2 in
    let outcomes = unless_none_given (stored_outcome rule) count (values_in encoding.0 type told parts.0.1 count) (value_outcomes rule type entries encoding.0 parts.0.1 count) (value_given rule type told entries are encoding.0 parts.0.1 count) values.0 values.1 in
    outcomes_placed rule entries page encoding.0 parts.0 (map (stored_outcome rule) values.0) (map (option_map (stored_outcome rule)) places) encoding.1 parts.1 outcomes (mapped_places (stored_outcome rule) parts.0.0 values.0 places values.2)
    ∙ ap something (place_given rule places)

items_spelled : (data_type : DataType) (rule : Conversion) (dictionary : Option DictContent) (page : DataContent) (places : List (Option Stored)) → conversion page.type data_type ≡ Some rule
    → spelled page (dictionary >>= dictionary_entries page.type.physical_type) ≡ Some places → page_items data_type dictionary page ≡ Some (map (convert_place rule) places)
unfolding page_items
items_spelled data_type rule dictionary page places pair e = rw (pair, e) refl

pub places_give_items : PlacesGiveItems
places_give_items data_type rule dictionary entries page pair are none =
    let told = dictionary >>= dictionary_entries page.type.physical_type in
    let converted = entries_converted rule page.type.physical_type dictionary entries are in
    let same : page_causes None (is_some entries) (option_map length told) page ≡ [] = ap (λ count. page_causes None (is_some entries) count page) (as_many rule told entries converted) ∙ none in
    let places = is_something (spelled page told) (values_are_spelled page (is_some entries) told (are_told rule told entries converted) same) in
    let outcomes = spelled_given rule told entries page places.0 converted places.1 in
    let items = items_spelled data_type rule dictionary page places.0 pair places.1 in
    (something_is (place_outcomes rule entries page) _ outcomes, outcomes ∙ sym (ap (option_map (map outcome_of)) items))

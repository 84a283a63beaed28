-- What the pages of a column give, and what their items are.
use Rattle.std.proofs.Common.{◌≡◌, ℕ, suc, ◌+◌, ◌-◌, Bool, true, false, List, [], ◌∷◌, ◌++◌, length, map, take, refl, sym, ◌∙◌, ap, subst, arith, inl, inr, append-nil}
use Rattle.std.specs.Prelude.{not, Option, Some, None, ◌⊎◌, is_some, option_map, unwrap_or, flat_map, sum_by, IsSome, if◌then◌else◌, Result, Ok, Err, IfErr, IfOk, OnOk}
use Rattle.std.specs.Option.{option_map_or}
use Rattle.std.specs.Result.{result_ok}
use Rattle.std.proofs.lemmas.List.{length-map, take-map}
use Rattle.columns_core.specs.Causes.{Cause, ExternalFormat, NotYetImplemented, OutOfSpec, Overflow, IsOneOf, and_then, is_empty, unless}
use Rattle.columns_core.specs.declared.cell.Cell.{Cell}
use Rattle.columns_core.specs.DictionaryType.{key_type_at}
use Rattle.columns_core.specs.declared.data_type.DataType.{DataType, out-DataType}
use Rattle.columns_core.specs.declared.data_type.DataType.TheOpen.{DataType-F}
use Rattle.columns_core.specs.Types.{Layer, value_type}
use Rattle.parquet_base.specs.Reading.{◌>>=◌, given}
use Rattle.parquet_base.specs.declared.interval.Interval.{Interval}
use Rattle.parquet_encoding.proofs.StepLemmas.{bind_some, is_something, nothing_is, some_is}
use Rattle.parquet_meta.specs.declared.metadata.PhysicalType.{PhysicalType}
use Rattle.parquet_meta.specs.declared.metadata.PhysicalType.TheVariants.{Boolean, Int32, Int64, Int96, Float, Double, ByteArray, FixedLenByteArray}
use Rattle.parquet_meta.specs.declared.metadata.PrimitiveType.{PrimitiveType}
use Rattle.parquet_page.specs.Chunk.{ChunkPage, Dictionary, NoDictionary, Undefined, Defined, DictionaryPage}
use Rattle.parquet_page.specs.Content.{DataContent, DictContent, header_values}
use Rattle.parquet_page.specs.Lent.{Lent, behind_dictionary, lent_dictionary_of, in_front}
use Rattle.parquet_page.specs.Levels.{placed, present_count}
use Rattle.parquet_page.specs.Opened.{carried_encoding, key_causes, page_causes, spelling_causes}
use Rattle.parquet_page.specs.Selected.{selected_of}
use Rattle.parquet_page.specs.Spelling.{dictionary_entries, has_plain_entries, header_encoding, is_keys, page_encoding, page_keys, placed_keys, places_and_values, spelled}
use Rattle.parquet_page.specs.Stored.{Stored}
use Rattle.parquet_page.specs.Values.{Encoding, Plain, Keys, DeltaPacked, DeltaLengths, dictionary_keys, encoding_of, goes_with, unless_none, values_in}
use Rattle.page_decoding.specs.Bytes.{cell_bytes, fits_most}
use Rattle.page_decoding.specs.Column.{followed_by, rows}
use Rattle.page_decoding.specs.Outcome.{Outcome, Given, Refused, all_given, causes_in, cells_in, page_outcomes, refusal_of, refused}
use Rattle.page_decoding.proofs.FilteredLemmas.{places-length}
use Rattle.page_decoding.proofs.BytesLemmas.{take-append}
use Rattle.page_decoding.proofs.NextLemmas.{fewer-wanted, take-nil}
use Rattle.page_decoding.proofs.RowLemmas.{causes_in-append}
use Rattle.flat_values.specs.Agreement.{AreEntriesOf}
use Rattle.flat_values.specs.Conversion.{Conversion, Item, Value, NotInRange, NotText, convert_place}
use Rattle.flat_values.specs.Items.{page_items}
use Rattle.flat_values.specs.MostBytes.{most_bytes}
use Rattle.flat_values.specs.Outcomes.{dictionary_cells, fitted, outcome_of, place_outcomes, selected_outcomes, stored_outcome}
use Rattle.flat_values.specs.Pairs.{conversion, conversion_at, is_repeated}
use Rattle.dictionary_values.specs.Keys.{keys_of, placed_entry, selected_by}
use Rattle.dictionary_values.proofs.SelectedLemmas.{fine-key-page}
use Rattle.flat_values.proofs.AgreementLemmas.{places_give_items, as_many, entries_converted}
use Rattle.column_ends.specs.Converted.{item_causes}
use Rattle.parquet_scan.specs.Causes.{causes_of_data, causes_of_defined, causes_of_dictionary, causes_of_entries, entry_count, has_dictionary, pair_causes}
use Rattle.parquet_scan.specs.Cells.{Reading, content_of, dictionary_content, items_in}
use Rattle.parquet_scan.specs.Costs.{with_dictionary_page}
use Rattle.flat_binary.specs.Decoding.{key_limit_of, outcomes_by}
use Rattle.flat_binary.specs.PagesWanted.{pages_wanted}
use Rattle.parquet_scan.specs.Decoded.{column_entries, column_outcomes, pages_by, rows_by}
use Rattle.parquet_scan.proofs.CauseLemmas.{one_cases}
use Rattle.flat_values.proofs.FlatLemmas.{selected-map}

-- ---- the selected rows of a page

-- a page with some of its rows selected
abbrev pub content_with : PrimitiveType → Option (List Interval) → ChunkPage → DataContent
content_with type selected page = record { header = page.header; body = page.body; type = type; selected = selected }

same_places : (type : PrimitiveType) (selected : Option (List Interval)) (page : ChunkPage) → places_and_values (content_with type selected page) ≡ places_and_values (content_of type page)
unfolding places_and_values
same_places type selected page = refl

same_keys : (type : PrimitiveType) (selected : Option (List Interval)) (page : ChunkPage) → page_keys (content_with type selected page) ≡ page_keys (content_of type page)
unfolding page_keys
same_keys type selected page = by (is_keys (encoding_of (header_encoding page.header))) where
  read : DataContent → Option (List ℕ)
  read keys_page = places_and_values keys_page >>= λ parts. unless_none (present_count parts.0) (dictionary_keys parts.1 (present_count parts.0))

  by : (b : Bool) → (given b (content_with type selected page) >>= read) ≡ (given b (content_of type page) >>= read)
  by true = ap (λ o. o >>= λ parts. unless_none (present_count parts.0) (dictionary_keys parts.1 (present_count parts.0))) (same_places type selected page)
  by false = refl

same_spelled : (type : PrimitiveType) (selected : Option (List Interval)) (page : ChunkPage) → spelled (content_with type selected page) None ≡ spelled (content_of type page) None
unfolding spelled
same_spelled type selected page =
    ap (λ o. page_encoding (content_of type page) >>= λ encoding. o >>= λ parts. unless_none (present_count parts.0) (values_in encoding type.physical_type None parts.1 (present_count parts.0)) >>= λ values. placed parts.0 values)
    (same_places type selected page)

same_spelling : (most entries : Option ℕ) (type : PrimitiveType) (selected : Option (List Interval)) (page : ChunkPage) (encoding : Encoding) → spelling_causes most entries (content_with type selected page) encoding ≡ spelling_causes most entries (content_of type page) encoding
same_spelling most entries type selected page Keys = ap (λ o. option_map_or (key_causes most entries) o (ExternalFormat ∷ [])) (same_keys type selected page)
same_spelling most entries type selected page Plain = ap (λ o. unless (is_some o) ExternalFormat) (same_spelled type selected page)
same_spelling most entries type selected page DeltaPacked = ap (λ o. unless (is_some o) ExternalFormat) (same_spelled type selected page)
same_spelling most entries type selected page DeltaLengths = ap (λ o. unless (is_some o) ExternalFormat) (same_spelled type selected page)

-- what is wrong with a page does not depend on the rows that are selected of it
pub any_selection : (most : Option ℕ) (has : Bool) (entries : Option ℕ) (type : PrimitiveType) (selected : Option (List Interval)) (page : ChunkPage) → page_causes most has entries (content_with type selected page) ≡ page_causes most has entries (content_of type page)
unfolding page_causes
any_selection most has entries type selected page =
    λ i. option_map_or (λ encoding. same_spelling most entries type selected page encoding i) (carried_encoding (is_some most) has (content_of type page)) (NotYetImplemented ∷ [])

same_outcomes : (rule : Conversion) (entries : Option (List Cell)) (type : PrimitiveType) (selected : Option (List Interval)) (page : ChunkPage) → place_outcomes rule entries (content_with type selected page) ≡ place_outcomes rule entries (content_of type page)
unfolding place_outcomes places_and_values
same_outcomes rule entries type selected page = refl

-- ---- a page has as many items as it has places

placed_many : {A : Type 0} (places : List Bool) (values : List A) (list : List (Option A)) → placed places values ≡ Some list → length list ≡ length places
placed_many [] [] list e = ap length (sym (some_is [] list e))
placed_many [] (value ∷ values) list e = absurd (nothing_is list e)
placed_many (false ∷ places) values list e =
    let others = bind_some (placed places values) (λ others. Some (None ∷ others)) list e in
    ap length (sym (some_is (None ∷ others.0) list others.2)) ∙ ap suc (placed_many places values others.0 others.1)
placed_many (true ∷ places) [] list e = absurd (nothing_is list e)
placed_many (true ∷ places) (value ∷ values) list e =
    let others = bind_some (placed places values) (λ others. Some (Some value ∷ others)) list e in
    ap length (sym (some_is (Some value ∷ others.0) list others.2)) ∙ ap suc (placed_many places values others.0 others.1)

spelled_many : (page : DataContent) (told : Option (List Stored)) (list : List (Option Stored)) → spelled page told ≡ Some list → length list ≡ header_values page.header
unfolding spelled
spelled_many page told list e =
    let type = page.type.physical_type in
    let encoding = bind_some (page_encoding page) (λ encoding. places_and_values page >>= λ parts. unless_none (present_count parts.0) (values_in encoding type told parts.1 (present_count parts.0)) >>= λ values. placed parts.0 values) list e in
    let parts = bind_some (places_and_values page) (λ parts. unless_none (present_count parts.0) (values_in encoding.0 type told parts.1 (present_count parts.0)) >>= λ values. placed parts.0 values) list encoding.2 in
    let values = bind_some (unless_none (present_count parts.0.0) (values_in encoding.0 type told parts.0.1 (present_count parts.0.0))) (λ values. placed parts.0.0 values) list parts.2 in
    placed_many parts.0.0 values.0 list values.2 ∙ places-length page parts.0.0 (ap (option_map (λ parts. parts.0)) parts.1)

pub items_many : (reading : Reading) (page : ChunkPage) (items : List Item) → items_in reading page ≡ Some items → length items ≡ header_values page.header
unfolding page_items
items_many reading page items e =
    let content = content_of reading.stored page in
    let told = dictionary_content reading.dictionary >>= dictionary_entries reading.stored.physical_type in
    let rule = bind_some (conversion reading.stored reading.data_type) (λ rule. spelled content told >>= λ places. Some (map (convert_place rule) places)) items e in
    let places = bind_some (spelled content told) (λ places. Some (map (convert_place rule.0) places)) items rule.2 in
    ap length (sym (some_is (map (convert_place rule.0) places.0) items places.2)) ∙ length-map places.0 (convert_place rule.0) ∙ spelled_many content told places.0 places.1

-- ---- a pair that is carried

pub pair_rule : (stored : PrimitiveType) (data_type : DataType) → pair_causes stored data_type ≡ [] → (rule : Conversion) × (conversion stored data_type ≡ Some rule)
pair_rule stored data_type none = by (conversion stored data_type) none where
  by : (o : Option Conversion) → unless (is_some o) NotYetImplemented ≡ [] → (rule : Conversion) × (o ≡ Some rule)
  by (Some rule) none = (rule, refl)
  by None none = absurd cc

-- A pair of a dictionary type is carried only of a stored type that has keys.
carried_keys : (stored : PrimitiveType) (data_type : DataType) (rule : Conversion) → conversion stored data_type ≡ Some rule → (most : ℕ) → key_limit_of data_type ≡ Some most → goes_with Keys stored.physical_type ≡ true
carried_keys stored data_type rule pair most limit = by (is_repeated stored.repetition) stored.physical_type (out-DataType data_type) pair limit where
  by : (repeated : Bool) (physical : PhysicalType) (layer : Layer) → (if repeated then None else conversion_at physical stored.logical_type layer) ≡ Some rule → option_map keys_of (key_type_at layer) ≡ Some most → goes_with Keys physical ≡ true
  by true physical layer pair limit = absurd cc
  by false Boolean (DataType-F.Dictionary key value ordered) pair limit = absurd cc
  by false Boolean layer pair limit = absurd cc
  by false Float (DataType-F.Dictionary key value ordered) pair limit = absurd cc
  by false Float layer pair limit = absurd cc
  by false Double (DataType-F.Dictionary key value ordered) pair limit = absurd cc
  by false Double layer pair limit = absurd cc
  by false Int32 layer pair limit = refl
  by false Int64 layer pair limit = refl
  by false Int96 layer pair limit = refl
  by false ByteArray layer pair limit = refl
  by false (FixedLenByteArray size) layer pair limit = refl

-- ---- the entries of a dictionary

-- a dictionary has as many entries as cells come of them
pub entries_counted : (rule : Conversion) (type : PhysicalType) (dictionary : Dictionary) (entries : Option (List Cell)) → AreEntriesOf rule type (dictionary_content dictionary) entries → entry_count type dictionary ≡ option_map length entries
entries_counted rule type dictionary entries are =
    as_many rule (dictionary_content dictionary >>= dictionary_entries type) entries (entries_converted rule type (dictionary_content dictionary) entries are)

-- ---- what is wrong with items

pub items_caused : (items : List Item) → causes_in (map outcome_of items) ≡ flat_map item_causes items
items_caused [] = refl
items_caused (Value cell ∷ items) = items_caused items
items_caused (NotInRange ∷ items) = ap (λ causes. Overflow ∷ causes) (items_caused items)
items_caused (NotText ∷ items) = ap (λ causes. OutOfSpec ∷ causes) (items_caused items)

-- items with which nothing is wrong are values
pub all_values : (items : List Item) → flat_map item_causes items ≡ [] → (cells : List Cell) × (items ≡ map Value cells)
all_values [] none = ([], refl)
all_values (Value cell ∷ items) none = let others = all_values items none in (cell ∷ others.0, ap (λ rest. Value cell ∷ rest) others.1)
all_values (NotInRange ∷ items) none = absurd cc
all_values (NotText ∷ items) none = absurd cc

pub values_given : (cells : List Cell) → map outcome_of (map Value cells) ≡ map Given cells
values_given [] = refl
values_given (cell ∷ cells) = ap (λ rest. Given cell ∷ rest) (values_given cells)

-- ---- rows and those behind them

pub some_cause : (cause : Cause) (causes : List Cause) → cause ∷ causes ≡ [] → ⊥
some_cause cause causes e = cc

followed_none : (first later : List Outcome) → causes_in (followed_by first later) ≡ [] → (causes_in first ≡ []) × (followed_by first later ≡ first ++ later)
followed_none first later none = by (causes_in first) refl none where
  by : (causes : List Cause) → causes_in first ≡ causes → causes_in (if is_empty causes then first ++ later else first) ≡ [] → (causes_in first ≡ []) × ((if is_empty causes then first ++ later else first) ≡ first ++ later)
  by [] e none = (e, refl)
  by (cause ∷ causes) e none = absurd (some_cause cause causes (sym e ∙ none))

followed_wrong : (first later : List Outcome) (o : Option Cause) → IsOneOf (causes_in (followed_by first later)) o → IsOneOf (causes_in first) o ⊎ IsOneOf (causes_in later) o
followed_wrong first later o wrong = by (is_empty (causes_in first)) wrong where
  by : (b : Bool) → IsOneOf (causes_in (if b then first ++ later else first)) o → IsOneOf (causes_in first) o ⊎ IsOneOf (causes_in later) o
  by true wrong = one_cases (causes_in first) (causes_in later) o (subst (λ causes. IsOneOf causes o) (causes_in-append first later) wrong)
  by false wrong = inl wrong

-- ---- the first of the rows

taken_by : (goes_on : Bool) (n : ℕ) (own later : List Outcome) → take n (if goes_on then own ++ later else own) ≡ take n own ++ take (if goes_on then n - length own else 0) later
taken_by true n own later = take-append n own later
taken_by false n own later = sym (append-nil (take n own))

no_causes : (first rest : List Outcome) → causes_in (first ++ rest) ≡ [] → (causes_in first ≡ []) × (causes_in rest ≡ [])
no_causes first rest none = by (causes_in first) (sym (causes_in-append first rest) ∙ none) where
  by : (causes : List Cause) → causes ++ causes_in rest ≡ [] → (causes ≡ []) × (causes_in rest ≡ [])
  by [] none = (refl, none)
  by (cause ∷ causes) none = absurd (some_cause cause (causes ++ causes_in rest) none)

-- where nothing is wrong with so many, they go on behind the first
taken_none : (n : ℕ) (own later : List Outcome) → causes_in (take n (followed_by own later)) ≡ [] → take n (followed_by own later) ≡ take n own ++ take (n - length own) later
taken_none n own later none =
    let split = taken_by (is_empty (causes_in own)) n own later in
    let both = no_causes (take n own) (take (if is_empty (causes_in own) then n - length own else 0) later) (sym (ap causes_in split) ∙ none) in
    split ∙ ap (λ m. take n own ++ take m later) (sym (fewer-wanted n own both.0))

taken_wrong : (n : ℕ) (own later : List Outcome) (o : Option Cause) → IsOneOf (causes_in (take n (followed_by own later))) o
    → IsOneOf (causes_in (take n own)) o ⊎ IsOneOf (causes_in (take (n - length own) later)) o
taken_wrong n own later o wrong = by (is_empty (causes_in own)) wrong where
  by : (b : Bool) → IsOneOf (causes_in (take n (if b then own ++ later else own))) o → IsOneOf (causes_in (take n own)) o ⊎ IsOneOf (causes_in (take (n - length own) later)) o
  by true wrong =
      one_cases (causes_in (take n own)) (causes_in (take (n - length own) later)) o
      (subst (λ causes. IsOneOf causes o) (ap causes_in (take-append n own later) ∙ causes_in-append (take n own) (take (n - length own) later)) wrong)
  by false wrong = inl wrong

-- ---- a page

-- What a page gives: its items, as many as its header says, and of selected rows what their items are.
pub record IsGiven (reading : Reading) (rule : Conversion) (entries : Option (List Cell)) (page : ChunkPage) : Type 0 where
  pub items : List Item
  pub are : items_in reading page ≡ Some items
  pub many : length items ≡ header_values page.header
  pub outcomes : (selected : Option (List Interval)) → column_outcomes reading.data_type rule entries (content_with reading.stored selected page) ≡ map outcome_of (selected_of selected items)

-- Selected rows of a page with which nothing is wrong as a whole, all of them values, and what stands behind them.
pub record BeginsGiven (reading : Reading) (selected : Option (List Interval)) (page : ChunkPage) (own later : List Outcome) : Type 0 where
  pub none : causes_of_data reading page ≡ []
  pub items : List Item
  pub are : items_in reading page ≡ Some items
  pub many : length items ≡ header_values page.header
  pub cells : List Cell
  pub values : selected_of selected items ≡ map Value cells
  pub long : length own ≡ length cells
  pub outcomes : followed_by own later ≡ map Given cells ++ later

-- something is wrong with the item of a selected row
pub record HasWrongItem (reading : Reading) (selected : Option (List Interval)) (page : ChunkPage) (o : Option Cause) : Type 0 where
  pub items : List Item
  pub are : items_in reading page ≡ Some items
  pub wrong : IsOneOf (flat_map item_causes (selected_of selected items)) o

-- The first rows of a page with which nothing is wrong as a whole, all of them values, and what stands behind it.
pub record BeginsTaken (reading : Reading) (wanted : ℕ) (page : ChunkPage) (own later : List Outcome) : Type 0 where
  pub none : causes_of_data reading page ≡ []
  pub items : List Item
  pub are : items_in reading page ≡ Some items
  pub many : length items ≡ header_values page.header
  pub long : length own ≡ header_values page.header
  pub cells : List Cell
  pub values : take wanted items ≡ map Value cells
  pub outcomes : take wanted (followed_by own later) ≡ map Given cells ++ take (wanted - header_values page.header) later
  pub later_none : causes_in (take (wanted - header_values page.header) later) ≡ []

-- something is wrong with one of the first items
pub record HasWrongFirst (reading : Reading) (wanted : ℕ) (page : ChunkPage) (o : Option Cause) : Type 0 where
  pub items : List Item
  pub are : items_in reading page ≡ Some items
  pub wrong : IsOneOf (flat_map item_causes (take wanted items)) o

-- Keys of a type are keys.
not_wrong : (limit : Option ℕ) (rule : Conversion) (entries : Option (List Cell)) (page : DataContent) → ((most : ℕ) → limit ≡ Some most → goes_with Keys page.type.physical_type ≡ true)
    → page_causes limit (is_some entries) (option_map length entries) page ≡ [] → page_causes None (is_some entries) (option_map length entries) page ≡ []
not_wrong None rule entries page goes none = none
not_wrong (Some most) rule entries page goes none = (fine-key-page rule most entries page (goes most refl) none).alone

values_are : (rule : Conversion) (entries : Option (List Cell)) (page : DataContent) (places : List Outcome) → page_causes None (is_some entries) (option_map length entries) page ≡ []
    → place_outcomes rule entries page ≡ Some places → selected_outcomes rule entries page ≡ selected_of page.selected places
unfolding selected_outcomes
values_are rule entries page places none are = λ i. page_outcomes (none i) page.selected (unwrap_or (are i) [])

outcomes_are : (limit : Option ℕ) (rule : Conversion) (entries : Option (List Cell)) (page : DataContent) (places : List Outcome) → ((most : ℕ) → limit ≡ Some most → goes_with Keys page.type.physical_type ≡ true)
    → page_causes limit (is_some entries) (option_map length entries) page ≡ [] → place_outcomes rule entries page ≡ Some places → outcomes_by limit rule entries page ≡ selected_of page.selected places
outcomes_are None rule entries page places goes none are = values_are rule entries page places none are
outcomes_are (Some most) rule entries page places goes none are =
    let fine = fine-key-page rule most entries page (goes most refl) none in
    fine.outcomes ∙ values_are rule entries page places fine.alone are

causes_are : (limit : Option ℕ) (rule : Conversion) (entries : Option (List Cell)) (page : DataContent) (cause : Cause) (causes : List Cause) → page_causes limit (is_some entries) (option_map length entries) page ≡ cause ∷ causes
    → outcomes_by limit rule entries page ≡ refused (cause ∷ causes)
unfolding selected_outcomes selected_by
causes_are None rule entries page cause causes e = λ i. page_outcomes (e i) page.selected (unwrap_or (place_outcomes rule entries page) [])
causes_are (Some most) rule entries page cause causes e = λ i. page_outcomes (e i) page.selected (map (placed_entry entries) (unwrap_or (placed_keys page) []))

module _ (reading : Reading) (rule : Conversion) (entries : Option (List Cell)) (pair : conversion reading.stored reading.data_type ≡ Some rule)
    (over : AreEntriesOf rule reading.stored.physical_type (dictionary_content reading.dictionary) entries) (has : has_dictionary reading.dictionary ≡ is_some entries) where
  abbrev limit : Option ℕ
  limit = key_limit_of reading.data_type

  same_causes : (selected : Option (List Interval)) (page : ChunkPage) → page_causes limit (is_some entries) (option_map length entries) (content_with reading.stored selected page) ≡ causes_of_data reading page
  same_causes selected page =
      let counted = entries_counted rule reading.stored.physical_type reading.dictionary entries over in
      any_selection limit (is_some entries) (option_map length entries) reading.stored selected page
      ∙ (λ i. page_causes limit (sym has i) (sym counted i) (content_of reading.stored page))

  -- a page with which nothing is wrong as a whole
  pub page_given : (page : ChunkPage) → causes_of_data reading page ≡ [] → IsGiven reading rule entries page
  page_given page none = go (items_in reading page) refl where
    agree : IsSome (place_outcomes rule entries (content_of reading.stored page)) × (place_outcomes rule entries (content_of reading.stored page) ≡ option_map (map outcome_of) (items_in reading page))
    agree =
        places_give_items reading.data_type rule (dictionary_content reading.dictionary) entries (content_of reading.stored page) pair over
        (not_wrong limit rule entries (content_of reading.stored page) (carried_keys reading.stored reading.data_type rule pair) (same_causes None page ∙ none))

    go : (o : Option (List Item)) → items_in reading page ≡ o → IsGiven reading rule entries page
    go None e =
        let places = is_something (place_outcomes rule entries (content_of reading.stored page)) agree.0 in
        absurd (nothing_is places.0 (sym (agree.1 ∙ ap (option_map (map outcome_of)) e) ∙ places.1))
    go (Some items) e = record {
      items = items;
      are = e;
      many = items_many reading page items e;
      outcomes = λ selected.
          outcomes_are limit rule entries (content_with reading.stored selected page) (map outcome_of items) (carried_keys reading.stored reading.data_type rule pair) (same_causes selected page ∙ none)
          (same_outcomes rule entries reading.stored selected page ∙ agree.1 ∙ ap (option_map (map outcome_of)) e)
          ∙ selected-map outcome_of selected items;
    }

  -- one with which something is wrong as a whole
  pub page_refused : (selected : Option (List Interval)) (page : ChunkPage) (cause : Cause) (causes : List Cause) → causes_of_data reading page ≡ cause ∷ causes
      → column_outcomes reading.data_type rule entries (content_with reading.stored selected page) ≡ refused (cause ∷ causes)
  page_refused selected page cause causes e = causes_are limit rule entries (content_with reading.stored selected page) cause causes (same_causes selected page ∙ e)

  -- a page in front of others, where nothing is wrong with all that is given
  pub first_given : (selected : Option (List Interval)) (page : ChunkPage) (later : List Outcome) → causes_in (followed_by (column_outcomes reading.data_type rule entries (content_with reading.stored selected page)) later) ≡ []
      → BeginsGiven reading selected page (column_outcomes reading.data_type rule entries (content_with reading.stored selected page)) later
  first_given selected page later none = go (causes_of_data reading page) refl where
    own : List Outcome
    own = column_outcomes reading.data_type rule entries (content_with reading.stored selected page)

    split : (causes_in own ≡ []) × (followed_by own later ≡ own ++ later)
    split = followed_none own later none

    go : (causes : List Cause) → causes_of_data reading page ≡ causes → BeginsGiven reading selected page own later
    go [] e =
        let found = page_given page e in
        let values = all_values (selected_of selected found.items) (sym (items_caused (selected_of selected found.items)) ∙ sym (ap causes_in (found.outcomes selected)) ∙ split.0) in
        record {
          none = e;
          items = found.items;
          are = found.are;
          many = found.many;
          cells = values.0;
          values = values.1;
          long = ap length (found.outcomes selected ∙ ap (map outcome_of) values.1 ∙ values_given values.0) ∙ length-map values.0 Given;
          outcomes = split.1 ∙ ap (λ front. front ++ later) (found.outcomes selected ∙ ap (map outcome_of) values.1 ∙ values_given values.0);
        }
    go (cause ∷ causes) e = absurd (some_cause cause (causes ++ []) (sym (ap causes_in (page_refused selected page cause causes e)) ∙ split.0))

  -- what is wrong with all that is given is wrong with the page as a whole, with an item of it, or with what stands behind it
  pub first_wrong : (selected : Option (List Interval)) (page : ChunkPage) (later : List Outcome) (o : Option Cause)
      → IsOneOf (causes_in (followed_by (column_outcomes reading.data_type rule entries (content_with reading.stored selected page)) later)) o
      → IsOneOf (causes_of_data reading page) o ⊎ (HasWrongItem reading selected page o ⊎ IsOneOf (causes_in later) o)
  first_wrong selected page later o wrong = elim (followed_wrong own later o wrong) [
    | inl here ↦ go (causes_of_data reading page) refl here
    | inr behind ↦ inr (inr behind)
  ] where
    own : List Outcome
    own = column_outcomes reading.data_type rule entries (content_with reading.stored selected page)

    go : (causes : List Cause) → causes_of_data reading page ≡ causes → IsOneOf (causes_in own) o → IsOneOf (causes_of_data reading page) o ⊎ (HasWrongItem reading selected page o ⊎ IsOneOf (causes_in later) o)
    go [] e here =
        let found = page_given page e in
        inr (inl (record {
          items = found.items;
          are = found.are;
          wrong = subst (λ causes. IsOneOf causes o) (ap causes_in (found.outcomes selected) ∙ items_caused (selected_of selected found.items)) here;
        }))
    go (cause ∷ causes) e here = inl (subst (λ causes. IsOneOf causes o) (ap causes_in (page_refused selected page cause causes e) ∙ append-nil (cause ∷ causes) ∙ sym e) here)

  -- the first of the rows of a page in front of others, where nothing is wrong with so many
  pub first_taken : (wanted : ℕ) (page : ChunkPage) (later : List Outcome) → causes_in (take (suc wanted) (followed_by (column_outcomes reading.data_type rule entries (content_with reading.stored None page)) later)) ≡ []
      → BeginsTaken reading (suc wanted) page (column_outcomes reading.data_type rule entries (content_with reading.stored None page)) later
  first_taken wanted page later none = go (causes_of_data reading page) refl where
    own : List Outcome
    own = column_outcomes reading.data_type rule entries (content_with reading.stored None page)

    split : take (suc wanted) (followed_by own later) ≡ take (suc wanted) own ++ take (suc wanted - length own) later
    split = taken_none (suc wanted) own later none

    go : (causes : List Cause) → causes_of_data reading page ≡ causes → BeginsTaken reading (suc wanted) page own later
    go [] e =
        let found = page_given page e in
        let outcomes : own ≡ map outcome_of found.items = found.outcomes None in
        let long : length own ≡ header_values page.header = ap length outcomes ∙ length-map found.items outcome_of ∙ found.many in
        let taken : take (suc wanted) own ≡ map outcome_of (take (suc wanted) found.items) = ap (take (suc wanted)) outcomes ∙ take-map outcome_of (suc wanted) found.items in
        let both = no_causes (take (suc wanted) own) (take (suc wanted - length own) later) (sym (ap causes_in split) ∙ none) in
        let values = all_values (take (suc wanted) found.items) (sym (items_caused (take (suc wanted) found.items)) ∙ sym (ap causes_in taken) ∙ both.0) in
        record {
          none = e;
          items = found.items;
          are = found.are;
          many = found.many;
          long = long;
          cells = values.0;
          values = values.1;
          outcomes = split ∙ (λ i. (taken ∙ ap (map outcome_of) values.1 ∙ values_given values.0) i ++ take (suc wanted - long i) later);
          later_none = ap (λ n. causes_in (take (suc wanted - n) later)) (sym long) ∙ both.1;
        }
    go (cause ∷ causes) e =
        absurd (some_cause cause (causes ++ causes_in (take wanted [])) (sym (ap (λ own. causes_in (take (suc wanted) (followed_by own later))) (page_refused None page cause causes e)) ∙ none))

  -- What is wrong with them is wrong with the page as a whole, with one of its first items, or with what stands behind it.
  pub first_taken_wrong : (wanted : ℕ) (page : ChunkPage) (later : List Outcome) (o : Option Cause)
      → IsOneOf (causes_in (take (suc wanted) (followed_by (column_outcomes reading.data_type rule entries (content_with reading.stored None page)) later))) o
      → IsOneOf (causes_of_data reading page) o ⊎ (HasWrongFirst reading (suc wanted) page o ⊎ IsOneOf (causes_in (take (suc wanted - header_values page.header) later)) o)
  first_taken_wrong wanted page later o wrong = go (causes_of_data reading page) refl where
    own : List Outcome
    own = column_outcomes reading.data_type rule entries (content_with reading.stored None page)

    go : (causes : List Cause) → causes_of_data reading page ≡ causes
        → IsOneOf (causes_of_data reading page) o ⊎ (HasWrongFirst reading (suc wanted) page o ⊎ IsOneOf (causes_in (take (suc wanted - header_values page.header) later)) o)
    go [] e =
        let found = page_given page e in
        let outcomes : own ≡ map outcome_of found.items = found.outcomes None in
        let long : length own ≡ header_values page.header = ap length outcomes ∙ length-map found.items outcome_of ∙ found.many in
        let taken : take (suc wanted) own ≡ map outcome_of (take (suc wanted) found.items) = ap (take (suc wanted)) outcomes ∙ take-map outcome_of (suc wanted) found.items in
        elim (taken_wrong (suc wanted) own later o wrong) [
          | inl here ↦ inr (inl (record { items = found.items; are = found.are; wrong = subst (λ causes. IsOneOf causes o) (ap causes_in taken ∙ items_caused (take (suc wanted) found.items)) here }))
          | inr behind ↦ inr (inr (subst (λ n. IsOneOf (causes_in (take (suc wanted - n) later)) o) long behind))
        ]
    go (cause ∷ causes) e =
        let refused = page_refused None page cause causes e in
        inl (subst (λ causes. IsOneOf causes o)
        (ap (λ own. causes_in (take (suc wanted) (followed_by own later))) refused ∙ ap (λ rest. (cause ∷ causes) ++ causes_in rest) (take-nil wanted) ∙ append-nil (cause ∷ causes) ∙ sym e) wrong)

-- ---- a dictionary in front of pages

-- the rows behind a dictionary with which nothing is wrong, or behind none
pub record IsOver (reading : Reading) (rule : Conversion) (others : Lent) : Type 0 where
  pub entries : Option (List Cell)
  pub are : AreEntriesOf rule reading.stored.physical_type (dictionary_content reading.dictionary) entries
  pub has : has_dictionary reading.dictionary ≡ is_some entries
  pub none : causes_of_dictionary reading reading.dictionary ≡ []
  pub outcomes : rows_by reading.data_type reading.stored.physical_type (behind_dictionary reading.dictionary others).pages (behind_dictionary reading.dictionary others).causes rule
      ≡ rows (column_entries reading.data_type rule reading.stored.physical_type) (column_outcomes reading.data_type rule) entries others.pages others.causes
  pub lent : (wanted count : ℕ) → length (pages_wanted (column_entries reading.data_type rule reading.stored.physical_type) (column_outcomes reading.data_type rule) entries (suc wanted) others.pages) ≡ suc count
      → length (pages_by reading.data_type reading.stored.physical_type (suc wanted) (behind_dictionary reading.dictionary others).pages rule) ≡ with_dictionary_page reading.dictionary (suc count)

-- a dictionary with which something is wrong
pub record IsRefused (reading : Reading) (rule : Conversion) (others : Lent) : Type 0 where
  pub cause : Cause
  pub causes : List Cause
  pub are : causes_of_dictionary reading reading.dictionary ≡ cause ∷ causes
  pub outcomes : rows_by reading.data_type reading.stored.physical_type (behind_dictionary reading.dictionary others).pages (behind_dictionary reading.dictionary others).causes rule ≡ Refused (cause ∷ causes) ∷ []

-- entries, if their bytes fit
abbrev if_fits : Bool → List Cell → Result (List Cell) (List Cause)
if_fits fits cells = if fits then Ok cells else Err (Overflow ∷ [])

-- those whose bytes fit are entries
fitted_cells : (most : Option ℕ) (found : Result (List Cell) (List Cause)) (cells : List Cell) → fitted most found ≡ Ok cells → found ≡ Ok cells
fitted_cells None found cells e = e
fitted_cells (Some most) (Err causes) cells e = e
fitted_cells (Some most) (Ok found) cells e = by (fits_most (Some most) (sum_by cell_bytes found)) e where
  by : (b : Bool) → if_fits b found ≡ Ok cells → if_fits true found ≡ Ok cells
  by true e = e
  by false e = absurd cc

-- what is wrong with them is wrong with the entries, or is something
still_wrong : (most : Option ℕ) (found : Result (List Cell) (List Cause)) → (found ≡ Err [] → ⊥) → fitted most found ≡ Err [] → ⊥
still_wrong None found not e = not e
still_wrong (Some most) (Err causes) not e = not e
still_wrong (Some most) (Ok found) not e = by (fits_most (Some most) (sum_by cell_bytes found)) e where
  by : (b : Bool) → if_fits b found ≡ Err [] → ⊥
  by true e = cc
  by false e = cc

-- what is wrong with entries is something
not_empty : (rule : Conversion) (type : PhysicalType) (page : DictContent) → dictionary_cells rule type page ≡ Err [] → ⊥
unfolding dictionary_cells
not_empty rule type page e = go (dictionary_entries type page) e where
  one : (causes : List Cause) (cells : List Cell) → (if is_empty causes then Ok cells else Err causes) ≡ Err [] → ⊥
  one [] cells e = cc
  one (cause ∷ causes) cells e = cc

  go : (o : Option (List Stored)) → option_map_or (λ stored. all_given (map (stored_outcome rule) stored)) o (Err (ExternalFormat ∷ [])) ≡ Err [] → ⊥
  go None e = cc
  go (Some stored) e = one (causes_in (map (stored_outcome rule) stored)) (cells_in (map (stored_outcome rule) stored)) e

module _ (stored : PrimitiveType) (data_type : DataType) (rule : Conversion) (pair : conversion stored data_type ≡ Some rule) (others : Lent) where
  abbrev over : Dictionary → Reading
  over dictionary = record { stored = stored; dictionary = dictionary; data_type = data_type }

  abbrev held : DictionaryPage → DictContent
  held page = record { body = page.body; num_values = page.num_values }

  abbrev lent_if : Bool → DictionaryPage → Lent
  lent_if plain page = if plain then in_front (lent_dictionary_of page) others else record { pages = []; causes = NotYetImplemented ∷ [] }

  caused : (page : DictionaryPage) (plain : Bool) (found : Result (List Cell) (List Cause)) → has_plain_entries page.encoding ≡ plain → column_entries data_type rule stored.physical_type (held page) ≡ found
      → causes_of_dictionary (over (Defined page)) (Defined page) ≡ and_then (unless plain NotYetImplemented) (causes_of_entries found)
  caused page plain found is e = ap (λ o. option_map_or (causes_of_defined (over (Defined page)) page) o []) pair ∙ (λ i. and_then (unless (is i) NotYetImplemented) (causes_of_entries (e i)))

  given_behind : (page : DictionaryPage) (found : Result (List Cell) (List Cause)) → has_plain_entries page.encoding ≡ true → column_entries data_type rule stored.physical_type (held page) ≡ found
      → rows_by data_type stored.physical_type (behind_dictionary (Defined page) others).pages (behind_dictionary (Defined page) others).causes rule
      ≡ followed_by (refusal_of found) (rows (column_entries data_type rule stored.physical_type) (column_outcomes data_type rule) (result_ok found) others.pages others.causes)
  given_behind page found plain e =
      ap (λ b. rows_by data_type stored.physical_type (lent_if b page).pages (lent_if b page).causes rule) plain
      ∙ ap (λ found. followed_by (refusal_of found) (rows (column_entries data_type rule stored.physical_type) (column_outcomes data_type rule) (result_ok found) others.pages others.causes)) e

  lent_behind : (page : DictionaryPage) (cells : List Cell) → has_plain_entries page.encoding ≡ true → column_entries data_type rule stored.physical_type (held page) ≡ Ok cells → (wanted count : ℕ)
      → length (pages_wanted (column_entries data_type rule stored.physical_type) (column_outcomes data_type rule) (Some cells) (suc wanted) others.pages) ≡ suc count
      → length (pages_by data_type stored.physical_type (suc wanted) (behind_dictionary (Defined page) others).pages rule) ≡ suc count + 1
  lent_behind page cells plain e wanted count many =
      let all : suc wanted - 0 ≡ suc wanted = omega arith in
      let lent = ap (λ b. length (pages_by data_type stored.physical_type (suc wanted) (lent_if b page).pages rule)) plain
      ∙ ap (λ found. suc (length (pages_wanted (column_entries data_type rule stored.physical_type) (column_outcomes data_type rule) (result_ok found) (suc wanted - length (refusal_of found)) others.pages))) e
      ∙ ap (λ n. suc (length (pages_wanted (column_entries data_type rule stored.physical_type) (column_outcomes data_type rule) (Some cells) n others.pages))) all in
      omega (arith, lent, many)

  defined_first : (page : DictionaryPage) (plain : Bool) (found : Result (List Cell) (List Cause)) → has_plain_entries page.encoding ≡ plain → column_entries data_type rule stored.physical_type (held page) ≡ found
      → IsOver (over (Defined page)) rule others ⊎ IsRefused (over (Defined page)) rule others
  defined_first page true (Ok cells) plain e =
      inl (record { entries = Some cells; are = subst (λ o. AreEntriesOf rule stored.physical_type o (Some cells)) (sym (ap (λ plain. given plain (held page)) plain)) (fitted_cells (most_bytes (value_type data_type)) (dictionary_cells rule stored.physical_type (held page)) cells e); has = refl; none = caused page true (Ok cells) plain e; outcomes = given_behind page (Ok cells) plain e; lent = lent_behind page cells plain e })
  defined_first page true (Err []) plain e = absurd (still_wrong (most_bytes (value_type data_type)) (dictionary_cells rule stored.physical_type (held page)) (not_empty rule stored.physical_type (held page)) e)
  defined_first page true (Err (cause ∷ causes)) plain e =
      inr (record { cause = cause; causes = causes; are = caused page true (Err (cause ∷ causes)) plain e; outcomes = given_behind page (Err (cause ∷ causes)) plain e })
  defined_first page false found plain e =
      inr (record {
        cause = NotYetImplemented;
        causes = [];
        are = caused page false found plain e;
        outcomes = ap (λ b. rows_by data_type stored.physical_type (lent_if b page).pages (lent_if b page).causes rule) plain;
      })

  pub dictionary_first : (dictionary : Dictionary) → IsOver (over dictionary) rule others ⊎ IsRefused (over dictionary) rule others
  dictionary_first NoDictionary = inl (record { entries = None; are = tt; has = refl; none = refl; outcomes = refl; lent = λ wanted count e. e })
  dictionary_first Undefined = inr (record { cause = ExternalFormat; causes = []; are = refl; outcomes = refl })
  dictionary_first (Defined page) = defined_first page (has_plain_entries page.encoding) (column_entries data_type rule stored.physical_type (held page)) refl refl

-- ---- results

pub if_ok : {T E : Type 0} {P Q : T → Type 0} (r : Result T E) → ((x : T) → P x → Q x) → IfOk r P → IfOk r Q
if_ok (Ok x) f h = f x h
if_ok (Err e) f h = h

pub both_if : {T E : Type 0} {P Q R : T → Type 0} (r : Result T E) → ((x : T) → P x → Q x → R x) → IfOk r P → IfOk r Q → IfOk r R
both_if (Ok x) f p q = f x p q
both_if (Err e) f p q = tt

pub both_ok : {T E Q R : Type 0} {P : T → Type 0} (r : Result T E) → ((x : T) → P x → Q → R) → IfOk r P → OnOk r Q → OnOk r R
both_ok (Ok x) f p q = f x p q
both_ok (Err e) f p q = tt

pub ok_always : {T E P : Type 0} (r : Result T E) → P → OnOk r P
ok_always (Ok x) p = p
ok_always (Err e) p = tt

pub ok_if : {T E Q : Type 0} {P : T → Type 0} (r : Result T E) → ((x : T) → P x → Q) → IfOk r P → OnOk r Q
ok_if (Ok x) f h = f x h
ok_if (Err e) f h = h

pub if_err : {T E : Type 0} {P Q : E → Type 0} (r : Result T E) → ((e : E) → P e → Q e) → IfErr r P → IfErr r Q
if_err (Ok x) f h = h
if_err (Err e) f h = f e h

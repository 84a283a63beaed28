-- States of pages of keys.
use Rattle.std.proofs.Common.{◌≡◌, ℕ, zero, suc, ◌<◌, Bool, true, false, List, [], ◌∷◌, length, map, take, Option, Some, None, refl, sym, ap, ap₂, ◌∙◌, subst, arith, append-nil}
use Rattle.std.specs.Prelude.{is_some, min, IfOk, OnOk, Result, Ok, Err, option_map, unwrap_or}
use Rattle.std.proofs.lemmas.List.Elements.{Contains-push}
use Rattle.std.specs.Option.{option_map_or}
use Rattle.columns_core.specs.Causes.{Cause, ExternalFormat, IsOneOf, NotYetImplemented, TellsOf, cause_of}
use Rattle.columns_core.specs.declared.error.Error.{Error}
use Rattle.columns_core.specs.Array.{cells}
use Rattle.columns_core.specs.declared.array.Array.{Array}
use Rattle.columns_core.specs.declared.cell.Cell.{Cell}
use Rattle.parquet_base.specs.Reading.{given}
use Rattle.parquet_meta.specs.declared.metadata.PhysicalType.{PhysicalType}
use Rattle.parquet_meta.specs.declared.metadata.PhysicalType.TheVariants.{ByteArray}
use Rattle.parquet_page.specs.Content.{DataContent}
use Rattle.parquet_page.specs.Opened.{key_causes, page_causes, spelling_causes}
use Rattle.parquet_page.specs.Spelling.{has_readable_levels, header_encoding, is_keys, page_encoding, page_keys, placed_keys, places_and_values}
use Rattle.parquet_page.specs.Values.{Encoding, Plain, Keys, DeltaPacked, DeltaLengths, dictionary_keys, encoding_of, unless_none}
use Rattle.page_decoding.specs.FilteredLeft.{stored_values}
use Rattle.page_decoding.specs.Outcome.{Outcome, causes_in, page_outcomes}
use Rattle.page_decoding.proofs.NextLemmas.{nothing_wrong}
use Rattle.parquet_page.specs.Levels.{Body, body_parts}
use Rattle.parquet_page.specs.Plan.{Step, plan}
use Rattle.parquet_page.specs.ValidityLeft.{levels_causes, page_places}
use Rattle.flat_values.specs.Conversion.{Keep}
use Rattle.flat_values.specs.FlatLeft.{read_encoding}
use Rattle.flat_values.specs.FlatState.{IsFlatState, state_outcomes}
use Rattle.flat_values.specs.KeysLeft.{IsAmongKeys}
use Rattle.flat_values.specs.OneEncoding.{IsKeyState}
use Rattle.flat_values.specs.declared.flat_decoder.FlatState.{FlatState}
use Rattle.flat_values.specs.declared.keys.KeyPlace.{KeyPlace}
use Rattle.flat_values.proofs.FlatLemmas.{IsOpened, IsRead, is_read, opened}
use Rattle.dictionary_values.specs.Keys.{key_place, selected_by, selected_keys}
use Rattle.dictionary_values.specs.KeysGiven.{keys_given, numbers_below, stored_as}
use Rattle.dictionary_values.proofs.CauseLemmas.{causes-alone, causes-typed, fine-numbers, key-page, no-dictionary, not-keys}
use Rattle.dictionary_values.proofs.KeyLemmas.{length-numbers}
use Rattle.dictionary_values.proofs.PageLemmas.{numbers-selected}

-- what is wrong with a page as a whole stands at its first place
pub told-first : (most : ℕ) (entries : Option (List Cell)) (page : DataContent) (o : Option Cause) → IsOneOf (page_causes (Some most) (is_some entries) (option_map length entries) page) o → IsOneOf (causes_in (take 1 (selected_keys most entries page))) o
unfolding selected_by
told-first most entries page o wrong = go (page_causes (Some most) (is_some entries) (option_map length entries) page) wrong where
  go : (causes : List Cause) → IsOneOf causes o → IsOneOf (causes_in (take 1 (page_outcomes causes page.selected (map key_place (unwrap_or (placed_keys page) []))))) o
  go [] wrong = absurd (nothing_wrong o wrong)
  go (cause ∷ causes) wrong = let P : List Cause → Type 0 = λ found. IsOneOf found o in subst P (sym (append-nil (cause ∷ causes))) wrong

-- ---- a page that was opened

keys-stored : (page : DataContent) (bytes : List ℕ) (count : ℕ) (steps : List Step) → IsRead true page Keys → IsOpened page bytes count steps → page_keys page ≡ unless_none count (dictionary_keys bytes count)
unfolding page_keys
keys-stored page bytes count steps read own = rw (read.named, own.split) (ap (λ n. unless_none n (dictionary_keys bytes n)) (sym own.many))

page-judged : (most entries : ℕ) (page : DataContent) (bytes : List ℕ) (count : ℕ) (steps : List Step) → IsRead true page Keys → IsOpened page bytes count steps
    → page_causes (Some most) true (Some entries) page ≡ option_map_or (key_causes (Some most) (Some entries)) (unless_none count (dictionary_keys bytes count)) (ExternalFormat ∷ [])
page-judged most entries page bytes count steps read own =
    causes-typed most (Some entries) page read.named own.readable
    ∙ ap (λ o. option_map_or (key_causes (Some most) (Some entries)) o (ExternalFormat ∷ [])) (keys-stored page bytes count steps read own)

pub some-stored : (n : ℕ) (found : Option (List ℕ)) → 0 < n → unless_none n found ≡ found
some-stored zero found some = absurd (omega (arith, some))
some-stored (suc n) found some = refl

-- ---- what is wrong with a page that is not compared with entries

unreadable : (most : Option ℕ) (entries : Option ℕ) (page : DataContent) → IsRead true page Keys → has_readable_levels page.type.repetition page.header ≡ false → page_causes most true entries page ≡ NotYetImplemented ∷ []
unfolding page_causes
unreadable None entries page read readable = rw (read.named, read.goes, readable) refl
unreadable (Some most) entries page read readable = rw (read.named, readable) refl

pub alone-typed : (most entries : ℕ) (page : DataContent) (o : Option Cause) → IsRead true page Keys → IsOneOf (page_causes None true None page) o → IsOneOf (page_causes (Some most) true (Some entries) page) o
alone-typed most entries page o read wrong = go (has_readable_levels page.type.repetition page.header) refl (page_keys page) refl where
  go : (readable : Bool) → has_readable_levels page.type.repetition page.header ≡ readable → (found : Option (List ℕ)) → page_keys page ≡ found → IsOneOf (page_causes (Some most) true (Some entries) page) o
  go false readable found is = let Q : List Cause → Type 0 = λ causes. IsOneOf causes o in subst Q (sym (unreadable (Some most) (Some entries) page read readable)) (subst Q (unreadable None None page read readable) wrong)
  go true readable None is =
      let Q : List Cause → Type 0 = λ causes. IsOneOf causes o in
      let alone = causes-alone None page read.named read.goes readable ∙ ap (λ o. option_map_or (key_causes None None) o (ExternalFormat ∷ [])) is in
      let typed = causes-typed most (Some entries) page read.named readable ∙ ap (λ o. option_map_or (key_causes (Some most) (Some entries)) o (ExternalFormat ∷ [])) is in
      subst Q (sym typed) (subst Q alone wrong)
  go true readable (Some keys) is =
      let Q : List Cause → Type 0 = λ causes. IsOneOf causes o in
      let alone = causes-alone None page read.named read.goes readable ∙ ap (λ o. option_map_or (key_causes None None) o (ExternalFormat ∷ [])) is in
      absurd (nothing_wrong o (subst Q alone wrong))

-- ---- the same page as one of another stored type

pub are-keys : (o : Option Encoding) → is_keys o ≡ true → o ≡ Some Keys
are-keys None e = absurd cc
are-keys (Some Plain) e = absurd cc
are-keys (Some Keys) e = refl
are-keys (Some DeltaPacked) e = absurd cc
are-keys (Some DeltaLengths) e = absurd cc

given-as : (most entries : ℕ) (physical : PhysicalType) (page : DataContent) → encoding_of (header_encoding page.header) ≡ Some Keys → spelling_causes (Some most) (Some entries) (stored_as physical page) Keys ≡ spelling_causes (Some most) (Some entries) page Keys
unfolding page_keys places_and_values
given-as most entries physical page named = rw named refl

readable-as : (most entries : ℕ) (physical : PhysicalType) (page : DataContent) (readable : Bool) → encoding_of (header_encoding page.header) ≡ Some Keys
    → option_map_or (spelling_causes (Some most) (Some entries) (stored_as physical page)) (given readable Keys) (NotYetImplemented ∷ []) ≡ option_map_or (spelling_causes (Some most) (Some entries) page) (given readable Keys) (NotYetImplemented ∷ [])
readable-as most entries physical page false named = refl
readable-as most entries physical page true named = given-as most entries physical page named

pub causes-as : (most entries : ℕ) (physical : PhysicalType) (page : DataContent) → encoding_of (header_encoding page.header) ≡ Some Keys
    → page_causes (Some most) true (Some entries) (stored_as physical page) ≡ page_causes (Some most) true (Some entries) page
unfolding page_causes
causes-as most entries physical page named = rw named (readable-as most entries physical page (has_readable_levels page.type.repetition page.header) named)

keys-as : (physical : PhysicalType) (page : DataContent) → encoding_of (header_encoding page.header) ≡ Some Keys → placed_keys (stored_as physical page) ≡ placed_keys page
unfolding placed_keys page_keys places_and_values
keys-as physical page named = rw named refl

selected-as : (most : ℕ) (entries : List Cell) (physical : PhysicalType) (page : DataContent) → encoding_of (header_encoding page.header) ≡ Some Keys
    → selected_keys most (Some entries) (stored_as physical page) ≡ selected_keys most (Some entries) page
unfolding selected_by
selected-as most entries physical page named = ap₂ (λ causes list. page_outcomes causes page.selected (map key_place (unwrap_or list []))) (causes-as most (length entries) physical page named) (keys-as physical page named)

module _ (is_over : List ℕ → KeyPlace → Type 0) (left : List ℕ → KeyPlace → List Outcome) (physical : PhysicalType) (page : DataContent) (state : FlatState KeyPlace) where
  pub state-of : IsFlatState is_over left (stored_as physical page) state → IsFlatState is_over left page state
  state-of is = record {
    page_is = record { levels = is.page_is.levels; intervals = is.page_is.intervals; place = is.page_is.place; row = is.page_is.row; fits = is.page_is.fits; rows = is.page_is.rows };
    over = is.over;
    enough = is.enough;
  }

-- ---- a state is built

module _ (most : ℕ) (entries : Array) (page : DataContent) (state : FlatState KeyPlace) (named : encoding_of (header_encoding page.header) ≡ Some Keys)
    (fine : page_causes (Some most) true (Some (length (cells entries))) (stored_as ByteArray page) ≡ []) (own : IsKeyState (stored_as ByteArray page) state) where
  pub built-state : IsFlatState IsAmongKeys (keys_given most (Some entries)) page state
  built-state = state-of IsAmongKeys (keys_given most (Some entries)) ByteArray page state (own.is_state (numbers_below (min (length (cells entries)) most)))

  fine-here : page_causes None true (Some (length (numbers_below (min (length (cells entries)) most)))) (stored_as ByteArray page) ≡ []
  fine-here =
      ap (λ n. page_causes None true (Some n) (stored_as ByteArray page)) (length-numbers (min (length (cells entries)) most))
      ∙ fine-numbers most (length (cells entries)) (stored_as ByteArray page) refl (key-page most (length (cells entries)) (stored_as ByteArray page) fine)

  encoding-here : page_encoding (stored_as ByteArray page) ≡ Some Keys
  encoding-here = let is = key-page most (length (cells entries)) (stored_as ByteArray page) fine in rw (named, is.readable) refl

  pub built-rows : state_outcomes (keys_given most (Some entries)) page state ≡ selected_keys most (Some (cells entries)) page
  built-rows =
      own.rows Keep (numbers_below (min (length (cells entries)) most)) fine-here
      ∙ numbers-selected Keep most (cells entries) (stored_as ByteArray page) encoding-here fine-here fine
      ∙ selected-as most (cells entries) ByteArray page named

-- ---- what the building of a state answers

not-carried : (most : ℕ) (entries : Option (List Cell)) (page : DataContent) → page_causes (Some most) (is_some entries) (option_map length entries) page ≡ NotYetImplemented ∷ [] → IsOneOf (causes_in (take 1 (selected_keys most entries page))) (Some NotYetImplemented)
not-carried most entries page e = let P : List Cause → Type 0 = λ causes. IsOneOf causes (Some NotYetImplemented) in told-first most entries page (Some NotYetImplemented) (subst P (sym e) (Contains-push [] NotYetImplemented))

module _ (most : ℕ) (dict : Option Array) (page : DataContent) where
  pub none-carried : dict ≡ None → IsOneOf (causes_in (take 1 (selected_keys most (option_map cells dict) page))) (Some NotYetImplemented)
  none-carried gone =
      let P : Option Array → Type 0 = λ d. IsOneOf (causes_in (take 1 (selected_keys most (option_map cells d) page))) (Some NotYetImplemented) in
      subst P (sym gone) (not-carried most None page (no-dictionary most None page))

  module _ (entries : Array) (there : dict ≡ Some entries) where
    pub other-carried : false ≡ is_keys (encoding_of (header_encoding page.header)) → IsOneOf (causes_in (take 1 (selected_keys most (option_map cells dict) page))) (Some NotYetImplemented)
    other-carried other =
        let P : Option Array → Type 0 = λ d. IsOneOf (causes_in (take 1 (selected_keys most (option_map cells d) page))) (Some NotYetImplemented) in
        subst P (sym there) (not-carried most (Some (cells entries)) page (not-keys most (Some (length (cells entries))) page (sym other)))

    module _ (here : DataContent) (count : ℕ) (same : here ≡ stored_as ByteArray page) (counted : count ≡ length (cells entries)) (keyed : true ≡ is_keys (encoding_of (header_encoding page.header))) (result : Result (FlatState KeyPlace) Error) where
      named : encoding_of (header_encoding page.header) ≡ Some Keys
      named = are-keys (encoding_of (header_encoding page.header)) (sym keyed)

      causes-here : page_causes (Some most) true (Some (length (cells entries))) (stored_as ByteArray page) ≡ page_causes (Some most) true (Some count) here
      causes-here = ap₂ (λ n p. page_causes (Some most) true (Some n) p) (sym counted) (sym same)

      pub opened-state : IfOk result (IsKeyState here) → OnOk result (page_causes (Some most) true (Some count) here ≡ []) → IfOk result (λ state. IsFlatState IsAmongKeys (keys_given most dict) page state)
      opened-state own fine = go result own fine where
        go : (result : Result (FlatState KeyPlace) Error) → IfOk result (IsKeyState here) → OnOk result (page_causes (Some most) true (Some count) here ≡ []) → IfOk result (λ state. IsFlatState IsAmongKeys (keys_given most dict) page state)
        go (Err error) own fine = tt
        go (Ok state) own fine =
            let P : Option Array → Type 0 = λ d. IsFlatState IsAmongKeys (keys_given most d) page state in
            let Q : DataContent → Type 0 = λ p. IsKeyState p state in
            subst P (sym there) (built-state most entries page state named (causes-here ∙ fine) (subst Q same own))

      pub opened-rows : IfOk result (IsKeyState here) → OnOk result (page_causes (Some most) true (Some count) here ≡ []) → IfOk result (λ state. state_outcomes (keys_given most dict) page state ≡ selected_keys most (option_map cells dict) page)
      opened-rows own fine = go result own fine where
        go : (result : Result (FlatState KeyPlace) Error) → IfOk result (IsKeyState here) → OnOk result (page_causes (Some most) true (Some count) here ≡ []) → IfOk result (λ state. state_outcomes (keys_given most dict) page state ≡ selected_keys most (option_map cells dict) page)
        go (Err error) own fine = tt
        go (Ok state) own fine =
            let P : Option Array → Type 0 = λ d. state_outcomes (keys_given most d) page state ≡ selected_keys most (option_map cells d) page in
            let Q : DataContent → Type 0 = λ p. IsKeyState p state in
            subst P (sym there) (built-rows most entries page state named (causes-here ∙ fine) (subst Q same own))

      pub opened-cause : TellsOf result (page_causes (Some most) true (Some count) here) → TellsOf result (causes_in (take 1 (selected_keys most (option_map cells dict) page)))
      opened-cause told = go result told where
        go : (result : Result (FlatState KeyPlace) Error) → TellsOf result (page_causes (Some most) true (Some count) here) → TellsOf result (causes_in (take 1 (selected_keys most (option_map cells dict) page)))
        go (Ok state) told = tt
        go (Err error) told =
            let P : Option Array → Type 0 = λ d. IsOneOf (causes_in (take 1 (selected_keys most (option_map cells d) page))) (cause_of error) in
            let Q : List Cause → Type 0 = λ causes. IsOneOf causes (cause_of error) in
            subst P (sym there) (told-first most (Some (cells entries)) page (cause_of error) (subst Q (sym causes-here ∙ causes-as most (length (cells entries)) ByteArray page named) told))

-- what is wrong with a page whose levels are read, by its keys
pub page-opened : (most entries : ℕ) (page : DataContent) (body : Body) (count : ℕ) (steps : List Step) → read_encoding true page ≡ Some Keys → levels_causes page ≡ [] → body_parts page.type.repetition page.header page.body ≡ Some body → steps ≡ plan page.selected (unwrap_or (page_places page) []) → count ≡ stored_values steps
    → page_causes (Some most) true (Some entries) page ≡ option_map_or (key_causes (Some most) (Some entries)) (unless_none count (dictionary_keys body.values count)) (ExternalFormat ∷ [])
page-opened most entries page body count steps read levels parts steps_are many = page-judged most entries page body.values count steps (is_read true page Keys read) (opened page body count steps levels parts steps_are many)

-- What the places of pages of keys give.
use Rattle.std.proofs.Common.{◌≡◌, ℕ, zero, suc, ◌+◌, ◌<◌, Bool, true, false, List, [], ◌∷◌, length, map, refl, sym, ap, ap₂, ◌∙◌, subst, arith}
use Rattle.std.specs.Prelude.{All, is_some, if◌then◌else◌, min, slice_get, Option, Some, None, IsSome, option_map, unwrap_or}
use Rattle.std.specs.Option.{option_map_or}
use Rattle.std.proofs.lemmas.List.Elements.{All-cons, All-nil, All-tail}
use Rattle.std.proofs.lemmas.Option.{slice_get-get_or}
use Rattle.columns_core.specs.Causes.{Cause, OutOfSpec}
use Rattle.columns_core.specs.Column.{cell_of}
use Rattle.columns_core.specs.declared.cell.Cell.{Cell, Null}
use Rattle.parquet_base.specs.Intervals.{covers}
use Rattle.parquet_base.specs.Reading.{◌>>=◌}
use Rattle.parquet_base.specs.declared.interval.Interval.{Interval}
use Rattle.parquet_encoding.proofs.StepLemmas.{bind_some, some_is}
use Rattle.parquet_page.specs.Content.{DataContent}
use Rattle.parquet_page.specs.Levels.{placed, present_count}
use Rattle.parquet_page.specs.Opened.{page_causes}
use Rattle.parquet_page.specs.Selected.{covered_from, selected_of}
use Rattle.parquet_page.specs.Spelling.{header_encoding, page_encoding, page_keys, placed_keys, places_and_values}
use Rattle.parquet_page.specs.Values.{Keys, dictionary_keys, encoding_of, has_key_past, unless_none}
use Rattle.page_decoding.specs.Outcome.{Outcome, Given, Refused, cells_in, page_outcomes}
use Rattle.flat_values.specs.Conversion.{Conversion}
use Rattle.flat_values.specs.Outcomes.{entry_outcome, place_outcomes, placed_outcome, selected_outcomes, value_outcomes}
use Rattle.flat_values.proofs.FlatLemmas.{selected-map}
use Rattle.dictionary_values.specs.Keys.{NamesEntry, placed_entry, key_place, named_row, selected_by, selected_entries, selected_keys}
use Rattle.dictionary_values.specs.KeysGiven.{numbers_below}
use Rattle.dictionary_values.proofs.CauseLemmas.{IsKeyPage, key-page, no-dictionary}
use Rattle.dictionary_values.proofs.KeyLemmas.{below-both, below-given, first-below, others-below}

-- ---- places whose keys are below a limit

module _ (most : ℕ) (f g : Option ℕ → Outcome) (none : f None ≡ g None) (some : (key : ℕ) → key < most → f (Some key) ≡ g (Some key)) where
  -- what gives the same for each of them gives the same for all
  pub same-places : (places : List Bool) (keys : List ℕ) (list : List (Option ℕ)) → placed places keys ≡ Some list → has_key_past most keys ≡ false → map f list ≡ map g list
  same-places [] [] list e below = let P : List (Option ℕ) → Type 0 = λ all. map f all ≡ map g all in subst P (some_is [] list e) refl
  same-places [] (key ∷ keys) list e below = absurd cc
  same-places (false ∷ places) keys list e below =
      let P : List (Option ℕ) → Type 0 = λ all. map f all ≡ map g all in
      let others = bind_some (placed places keys) (λ others. Some (None ∷ others)) list e in
      subst P (some_is (None ∷ others.0) list others.2) (ap₂ (λ row rows. row ∷ rows) none (same-places places keys others.0 others.1 below))
  same-places (true ∷ places) [] list e below = absurd cc
  same-places (true ∷ places) (key ∷ keys) list e below =
      let P : List (Option ℕ) → Type 0 = λ all. map f all ≡ map g all in
      let others = bind_some (placed places keys) (λ others. Some (Some key ∷ others)) list e in
      subst P (some_is (Some key ∷ others.0) list others.2) (ap₂ (λ row rows. row ∷ rows) (some key (first-below most key keys below)) (same-places places keys others.0 others.1 (others-below most key keys below)))

module _ (most : ℕ) (P : Outcome → Type 0) (f : Option ℕ → Outcome) (none : P (f None)) (some : (key : ℕ) → key < most → P (f (Some key))) where
  pub all-places : (places : List Bool) (keys : List ℕ) (list : List (Option ℕ)) → placed places keys ≡ Some list → has_key_past most keys ≡ false → All P (map f list)
  all-places [] [] list e below = let Q : List (Option ℕ) → Type 0 = λ all. All P (map f all) in subst Q (some_is [] list e) (All-nil P)
  all-places [] (key ∷ keys) list e below = absurd cc
  all-places (false ∷ places) keys list e below =
      let Q : List (Option ℕ) → Type 0 = λ all. All P (map f all) in
      let others = bind_some (placed places keys) (λ others. Some (None ∷ others)) list e in
      subst Q (some_is (None ∷ others.0) list others.2) (All-cons P (f None) (map f others.0) none (all-places places keys others.0 others.1 below))
  all-places (true ∷ places) [] list e below = absurd cc
  all-places (true ∷ places) (key ∷ keys) list e below =
      let Q : List (Option ℕ) → Type 0 = λ all. All P (map f all) in
      let others = bind_some (placed places keys) (λ others. Some (Some key ∷ others)) list e in
      subst Q (some_is (Some key ∷ others.0) list others.2) (All-cons P (f (Some key)) (map f others.0) (some key (first-below most key keys below)) (all-places places keys others.0 others.1 (others-below most key keys below)))

-- the places of a page are those of its keys
pub record ArePlaced (keys : List ℕ) (list : List (Option ℕ)) : Type 0 where
  pub places : List Bool
  pub placed_is : placed places keys ≡ Some list

are-placed : (page : DataContent) (keys : List ℕ) (list : List (Option ℕ)) → page_keys page ≡ Some keys → placed_keys page ≡ Some list → ArePlaced keys list
unfolding placed_keys
are-placed page keys list is e =
    let parts = bind_some (places_and_values page) (λ parts. page_keys page >>= λ keys. placed parts.0 keys) list e in
    let own = bind_some (page_keys page) (λ keys. placed parts.0.0 keys) list parts.2 in
    record { places = parts.0.0; placed_is = ap (placed parts.0.0) (some_is keys own.0 (sym is ∙ own.1)) ∙ own.2 }

-- ---- keys and the entries that they name

-- the entry of a key that is below their number
there : (entries : List Cell) (key : ℕ) → key < length entries → (cell : Cell) × (slice_get entries key ≡ Some cell)
there entries key below = (_, slice_get-get_or entries key Null below)

named-place : (entries : List Cell) (key : ℕ) → key < length entries → named_row entries (key_place (Some key)) ≡ placed_entry (Some entries) (Some key)
named-place entries key below =
    let own = there entries key below in
    ap (λ o. Given (cell_of (λ cell. cell) o)) own.1 ∙ sym (ap (λ o. option_map_or Given o (Refused (OutOfSpec ∷ []))) own.1)

names-place : (entries : List Cell) (key : ℕ) → key < length entries → NamesEntry entries (key_place (Some key))
names-place entries key below = let own = there entries key below in subst IsSome (sym own.1) refl

-- what the places of a page of keys give, by what each gives
module _ (most : ℕ) (entries : List Cell) (page : DataContent) (is : IsKeyPage most (length entries) page) where
  abbrev places : List (Option ℕ)
  places = unwrap_or (placed_keys page) []

  named-all : map (named_row entries) (map key_place places) ≡ map (placed_entry (Some entries)) places
  named-all = go (placed_keys page) refl where
    twice : (list : List (Option ℕ)) → map (named_row entries) (map key_place list) ≡ map (λ key. named_row entries (key_place key)) list
    twice [] = refl
    twice (key ∷ list) = ap (λ rows. named_row entries (key_place key) ∷ rows) (twice list)

    go : (o : Option (List (Option ℕ))) → placed_keys page ≡ o → map (named_row entries) (map key_place (unwrap_or o [])) ≡ map (placed_entry (Some entries)) (unwrap_or o [])
    go None e = refl
    go (Some list) e =
        let own = are-placed page is.keys list is.spelled e in
        twice list ∙ same-places (length entries) (λ key. named_row entries (key_place key)) (placed_entry (Some entries)) refl (named-place entries) own.places is.keys list own.placed_is is.below_entries

  names-all : All (NamesEntry entries) (map key_place places)
  names-all = go (placed_keys page) refl where
    go : (o : Option (List (Option ℕ))) → placed_keys page ≡ o → All (NamesEntry entries) (map key_place (unwrap_or o []))
    go None e = All-nil (NamesEntry entries)
    go (Some list) e =
        let own = are-placed page is.keys list is.spelled e in
        all-places (length entries) (NamesEntry entries) key_place tt (names-place entries) own.places is.keys list own.placed_is is.below_entries

-- ---- selected places

All-covered : (P : Outcome → Type 0) (rows : List Interval) (row : ℕ) (xs : List Outcome) → All P xs → All P (covered_from rows row xs)
All-covered P rows row [] all = All-nil P
All-covered P rows row (x ∷ xs) all = go (covers rows row) (All-covered P rows (row + 1) xs (All-tail P x xs all)) where
  go : (is : Bool) → All P (covered_from rows (row + 1) xs) → All P (if is then x ∷ covered_from rows (row + 1) xs else covered_from rows (row + 1) xs)
  go true others = All-cons P x (covered_from rows (row + 1) xs) (all 0 x (omega arith)) others
  go false others = others

All-selected : (P : Outcome → Type 0) (selected : Option (List Interval)) (xs : List Outcome) → All P xs → All P (selected_of selected xs)
All-selected P None xs all = all
All-selected P (Some rows) xs all = All-covered P rows 0 xs all

-- With entries in the place of keys, a page of keys gives what its entries are.
pub selected-named : (most : ℕ) (entries : Option (List Cell)) (page : DataContent) → map (named_row (unwrap_or entries [])) (selected_keys most entries page) ≡ selected_entries most entries page
unfolding selected_by
selected-named most entries page = go entries (page_causes (Some most) (is_some entries) (option_map length entries) page) refl where
  go : (entries : Option (List Cell)) (causes : List Cause) → page_causes (Some most) (is_some entries) (option_map length entries) page ≡ causes
      → map (named_row (unwrap_or entries [])) (page_outcomes causes page.selected (map key_place (unwrap_or (placed_keys page) []))) ≡ page_outcomes causes page.selected (map (placed_entry entries) (unwrap_or (placed_keys page) []))
  go entries (cause ∷ causes) e = refl
  go None [] e = absurd (clash (sym e ∙ no-dictionary most None page)) where
    clash : {causes : List Cause} {cause : Cause} → [] ≡ cause ∷ causes → ⊥
    clash wrong = cc
  go (Some found) [] e = sym (selected-map (named_row found) page.selected (map key_place (unwrap_or (placed_keys page) []))) ∙ ap (selected_of page.selected) (named-all most found page (key-page most (length found) page e))

-- each key of a page names an entry
pub selected-name : (most : ℕ) (entries : Option (List Cell)) (page : DataContent) → All (NamesEntry (unwrap_or entries [])) (selected_keys most entries page)
unfolding selected_by
selected-name most entries page = go entries (page_causes (Some most) (is_some entries) (option_map length entries) page) refl where
  go : (entries : Option (List Cell)) (causes : List Cause) → page_causes (Some most) (is_some entries) (option_map length entries) page ≡ causes
      → All (NamesEntry (unwrap_or entries [])) (page_outcomes causes page.selected (map key_place (unwrap_or (placed_keys page) [])))
  go entries (cause ∷ causes) e = All-cons (NamesEntry (unwrap_or entries [])) (Refused (cause ∷ causes)) [] tt (All-nil (NamesEntry (unwrap_or entries [])))
  go None [] e = let clash : [] ≡ _ ∷ [] = sym e ∙ no-dictionary most None page in absurd cc
  go (Some found) [] e = All-selected (NamesEntry found) page.selected (map key_place (unwrap_or (placed_keys page) [])) (names-all most found page (key-page most (length found) page e))

-- without a dictionary a page gives none
pub selected-none : (most : ℕ) (page : DataContent) → cells_in (selected_keys most None page) ≡ []
unfolding selected_by
selected-none most page = ap (λ causes. cells_in (page_outcomes causes page.selected (map key_place (unwrap_or (placed_keys page) [])))) (no-dictionary most None page)

-- ---- the same page as one of another decoder

placed-map : {A B : Type 0} (f : A → B) (places : List Bool) (values : List A) → placed places (map f values) ≡ option_map (map (option_map f)) (placed places values)
placed-map f [] [] = refl
placed-map f [] (value ∷ values) = refl
placed-map f (false ∷ places) values = rw (placed-map f places values) (go (placed places values)) where
  go : (o : Option (List (Option _))) → (option_map (map (option_map f)) o >>= λ others. Some (None ∷ others)) ≡ option_map (map (option_map f)) (o >>= λ others. Some (None ∷ others))
  go None = refl
  go (Some others) = refl
placed-map f (true ∷ places) [] = refl
placed-map f (true ∷ places) (value ∷ values) = rw (placed-map f places values) (go (placed places values)) where
  go : (o : Option (List (Option _))) → (option_map (map (option_map f)) o >>= λ others. Some (Some (f value) ∷ others)) ≡ option_map (map (option_map f)) (o >>= λ others. Some (Some value ∷ others))
  go None = refl
  go (Some others) = refl

entry-places : (entries : Option (List Cell)) (list : List (Option ℕ)) → map placed_outcome (map (option_map (entry_outcome entries)) list) ≡ map (placed_entry entries) list
entry-places entries [] = refl
entry-places entries (None ∷ list) = ap (λ rows. Given Null ∷ rows) (entry-places entries list)
entry-places entries (Some key ∷ list) = ap (λ rows. entry_outcome entries key ∷ rows) (entry-places entries list)

-- what the places of a page of keys give by any conversion
pub places-of-keys : (rule : Conversion) (entries : Option (List Cell)) (page : DataContent) → encoding_of (header_encoding page.header) ≡ Some Keys → page_encoding page ≡ Some Keys
    → place_outcomes rule entries page ≡ option_map (map (placed_entry entries)) (placed_keys page)
unfolding place_outcomes placed_keys page_keys value_outcomes
places-of-keys rule entries page named read = rw (read, named) (go (places_and_values page)) where
  values : (places : List Bool) (n : ℕ) (found : Option (List ℕ))
      → (unless_none n (option_map (map (entry_outcome entries)) found) >>= λ values. placed places values >>= λ list. Some (map placed_outcome list))
      ≡ option_map (map (placed_entry entries)) (unless_none n found >>= λ keys. placed places keys)
  values places n found = at n found where
    last : (keys : List ℕ) → (placed places (map (entry_outcome entries) keys) >>= λ list. Some (map placed_outcome list)) ≡ option_map (map (placed_entry entries)) (placed places keys)
    last keys = rw (placed-map (entry_outcome entries) places keys) (end (placed places keys)) where
      end : (o : Option (List (Option ℕ))) → (option_map (map (option_map (entry_outcome entries))) o >>= λ list. Some (map placed_outcome list)) ≡ option_map (map (placed_entry entries)) o
      end None = refl
      end (Some list) = ap (λ rows. Some rows) (entry-places entries list)

    at : (n : ℕ) (found : Option (List ℕ))
        → (unless_none n (option_map (map (entry_outcome entries)) found) >>= λ values. placed places values >>= λ list. Some (map placed_outcome list))
        ≡ option_map (map (placed_entry entries)) (unless_none n found >>= λ keys. placed places keys)
    at zero found = last []
    at (suc n) None = refl
    at (suc n) (Some keys) = last keys

  go : (o : Option (List Bool × List ℕ))
      → (o >>= λ parts. unless_none (present_count parts.0) (option_map (map (entry_outcome entries)) (dictionary_keys parts.1 (present_count parts.0))) >>= λ values. placed parts.0 values >>= λ list. Some (map placed_outcome list))
      ≡ option_map (map (placed_entry entries)) (o >>= λ parts. (o >>= λ parts. unless_none (present_count parts.0) (dictionary_keys parts.1 (present_count parts.0))) >>= λ keys. placed parts.0 keys)
  go None = refl
  go (Some parts) = values parts.0 (present_count parts.0) (dictionary_keys parts.1 (present_count parts.0))

-- Over the numbers below its limits a page of keys gives its keys.
pub numbers-selected : (rule : Conversion) (most : ℕ) (entries : List Cell) (page : DataContent) → page_encoding page ≡ Some Keys → page_causes None true (Some (length (numbers_below (min (length entries) most)))) page ≡ []
    → page_causes (Some most) true (Some (length entries)) page ≡ [] → selected_outcomes rule (Some (numbers_below (min (length entries) most))) page ≡ selected_keys most (Some entries) page
unfolding selected_outcomes selected_by
numbers-selected rule most entries page read fine none =
    let limit = min (length entries) most in
    let numbers = numbers_below limit in
    let is = key-page most (length entries) page none in
    ap (λ causes. page_outcomes causes page.selected (unwrap_or (place_outcomes rule (Some numbers) page) [])) fine
    ∙ ap (λ o. selected_of page.selected (unwrap_or o [])) (places-of-keys rule (Some numbers) page is.named read)
    ∙ ap (selected_of page.selected) (go (placed_keys page) refl)
    ∙ sym (ap (λ causes. page_outcomes causes page.selected (map key_place (unwrap_or (placed_keys page) []))) none) where
      go : (o : Option (List (Option ℕ))) → placed_keys page ≡ o → unwrap_or (option_map (map (placed_entry (Some (numbers_below (min (length entries) most))))) o) [] ≡ map key_place (unwrap_or o [])
      go None e = refl
      go (Some list) e =
          let is = key-page most (length entries) page none in
          let limit = min (length entries) most in
          let own = are-placed page is.keys list is.spelled e in
          same-places limit (placed_entry (Some (numbers_below limit))) key_place refl (below-given limit) own.places is.keys list own.placed_is (below-both (length entries) most is.keys is.below_entries is.below_most)

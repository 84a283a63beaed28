-- Rows of keys, and those of the entries that they name.
use Rattle.std.proofs.Common.{◌≡◌, ℕ, ◌-◌, ◌<◌, suc, zero, Bool, true, false, List, [], ◌∷◌, ◌++◌, length, take, map, Option, Some, None, refl, sym, ap, ap₂, ◌∙◌, subst, inl, inr, arith, All}
use Rattle.std.specs.Prelude.{◌⊎◌, if◌then◌else◌, Result, Ok, Err, unwrap_or}
use Rattle.std.specs.List.{list_all}
use Rattle.std.specs.Result.{result_ok}
use Rattle.std.proofs.lemmas.List.{map-append, length-map, take-map, drop-map}
use Rattle.std.proofs.lemmas.List.Elements.{All-append, All-cons, All-nil, All-take}
use Rattle.columns_core.specs.Causes.{Cause, IsOneOf, cause_of, is_empty}
use Rattle.columns_core.specs.declared.cell.Cell.{Cell}
use Rattle.columns_core.specs.declared.error.Error.{Error}
use Rattle.parquet_page.specs.Content.{Content, DataContent, DictContent, DataOf, DictOf, is_data}
use Rattle.parquet_page.specs.Lending.{has_data_behind}
use Rattle.page_decoding.specs.Bytes.{IsCausedByChunks}
use Rattle.page_decoding.specs.Column.{followed_by, rows}
use Rattle.page_decoding.specs.NextChunk.{IsFirstChunk}
use Rattle.page_decoding.specs.Outcome.{Outcome, Given, Refused, IsCausedBy, causes_in, cells_in, refusal_of, refused}
use Rattle.page_decoding.specs.Queue.{first_chunk, later_chunks}
use Rattle.page_decoding.specs.Standing.{AreNeeded, IsShort, Standing, after_page, after_pages, still_wanted}
use Rattle.dictionary_values.specs.DictLeft.{IsKeyed, first_dictionary, named_entries}
use Rattle.dictionary_values.specs.Keys.{NamesEntry, named_cell, named_row, named_standing}

-- ---- rows

causes_in-named : (entries : List Cell) (xs : List Outcome) → causes_in (map (named_row entries) xs) ≡ causes_in xs
causes_in-named entries [] = refl
causes_in-named entries (Given cell ∷ xs) = causes_in-named entries xs
causes_in-named entries (Refused causes ∷ xs) = ap (λ rest. causes ++ rest) (causes_in-named entries xs)

followed-by : (f : Outcome → Outcome) (goes_on : Bool) (first later : List Outcome) → (if goes_on then map f first ++ map f later else map f first) ≡ map f (if goes_on then first ++ later else first)
followed-by f true first later = sym (map-append f first later)
followed-by f false first later = refl

followed-named : (entries : List Cell) (first later : List Outcome) → followed_by (map (named_row entries) first) (map (named_row entries) later) ≡ map (named_row entries) (followed_by first later)
followed-named entries first later =
    ap (λ causes. if is_empty causes then map (named_row entries) first ++ map (named_row entries) later else map (named_row entries) first) (causes_in-named entries first)
    ∙ followed-by (named_row entries) (is_empty (causes_in first)) first later

refused-named : (entries : List Cell) (causes : List Cause) → refused causes ≡ map (named_row entries) (refused causes)
refused-named entries [] = refl
refused-named entries (cause ∷ causes) = refl

refusal-named : (entries : List Cell) (found : Result (List Cell) (List Cause)) → refusal_of found ≡ map (named_row entries) (refusal_of found)
refusal-named entries (Ok cells) = refl
refusal-named entries (Err causes) = refused-named entries causes

refused-names : (names : List Cell) (causes : List Cause) → All (NamesEntry names) (refused causes)
refused-names names [] = All-nil (NamesEntry names)
refused-names names (cause ∷ causes) = All-cons (NamesEntry names) (Refused (cause ∷ causes)) [] tt (All-nil (NamesEntry names))

refusal-names : (names : List Cell) (found : Result (List Cell) (List Cause)) → All (NamesEntry names) (refusal_of found)
refusal-names names (Ok cells) = All-nil (NamesEntry names)
refusal-names names (Err causes) = refused-names names causes

cells_in-take : (n : ℕ) (xs : List Outcome) → cells_in xs ≡ [] → cells_in (take n xs) ≡ []
cells_in-take zero xs none = refl
cells_in-take (suc n) [] none = refl
cells_in-take (suc n) (Given cell ∷ xs) none = cc
cells_in-take (suc n) (Refused causes ∷ xs) none = cells_in-take n xs none

cells_in-append : (xs ys : List Outcome) → cells_in xs ≡ [] → cells_in ys ≡ [] → cells_in (xs ++ ys) ≡ []
cells_in-append [] ys none others = others
cells_in-append (Given cell ∷ xs) ys none others = cc
cells_in-append (Refused causes ∷ xs) ys none others = cells_in-append xs ys none others

cells_in-refused : (causes : List Cause) → cells_in (refused causes) ≡ []
cells_in-refused [] = refl
cells_in-refused (cause ∷ causes) = refl

cells_in-refusal : (found : Result (List Cell) (List Cause)) → cells_in (refusal_of found) ≡ []
cells_in-refusal (Ok cells) = refl
cells_in-refusal (Err causes) = cells_in-refused causes

pub cells_in-given : (cells : List Cell) → cells_in (map Given cells) ≡ cells
cells_in-given [] = refl
cells_in-given (cell ∷ cells) = ap (λ rest. cell ∷ rest) (cells_in-given cells)

pub given-named : (entries : List Cell) (cells : List Cell) → map Given (map (named_cell entries) cells) ≡ map (named_row entries) (map Given cells)
given-named entries [] = refl
given-named entries (cell ∷ cells) = ap (λ rest. Given (named_cell entries cell) ∷ rest) (given-named entries cells)

chunk-map : (f : Outcome → Outcome) (size : Option ℕ) (xs : List Outcome) → map f (first_chunk size xs) ≡ first_chunk size (map f xs)
chunk-map f None xs = refl
chunk-map f (Some size) xs = sym (take-map f size xs)

later-map : (f : Outcome → Outcome) (size : Option ℕ) (xs : List Outcome) → map f (later_chunks size xs) ≡ later_chunks size (map f xs)
later-map f None xs = refl
later-map f (Some size) xs = sym (drop-map f size xs)

-- The array of the first chunk of keys is the first chunk of cells.
pub first-named : {X Y : Type 0} (shown : X → List Cell) (cells : Y → List Cell) (entries : List Cell) (size : Option ℕ) (old new wanted left : List Outcome) (keys : X) (array : Y)
    → cells array ≡ map (named_cell entries) (shown keys) → wanted ≡ map (named_row entries) old → left ≡ map (named_row entries) new → IsFirstChunk shown size old new keys → IsFirstChunk cells size wanted left array
first-named shown cells entries size old new wanted left keys array is a b first =
    let same : length (map (named_cell entries) (shown keys)) ≡ length (shown keys) = simp length-map in
    record {
      some = omega (arith, first.some, same, ap length is);
      cells = ap (map Given) is ∙ given-named entries (shown keys) ∙ ap (map (named_row entries)) first.cells ∙ chunk-map (named_row entries) size old ∙ ap (first_chunk size) (sym a);
      others = b ∙ ap (map (named_row entries)) first.others ∙ later-map (named_row entries) size old ∙ ap (later_chunks size) (sym a);
    }

-- ---- errors

caused-named : (names : List Cell) (xs : List Outcome) (error : Error) → IsCausedBy xs error → IsCausedBy (map (named_row names) xs) error
caused-named names xs error (inl memory) = inl memory
caused-named names xs error (inr wrong) = let P : List Cause → Type 0 = λ causes. IsOneOf causes (cause_of error) in inr (subst P (sym (causes_in-named names xs)) wrong)

pub chunks-named : (names : List Cell) (size : Option ℕ) (xs ys : List Outcome) (error : Error) → ys ≡ map (named_row names) xs → IsCausedByChunks None size xs error → IsCausedByChunks None size ys error
chunks-named names size xs ys error is (inl told) = let P : List Outcome → Type 0 = λ all. IsCausedBy all error in inl (subst P (sym is) (caused-named names xs error told))
chunks-named names size xs ys error is (inr (told, (k, past))) = cc

-- ---- pages

data-behind : (pages : List Content) → list_all is_data pages ≡ true → has_data_behind pages ≡ true
data-behind [] alone = refl
data-behind (DataOf page ∷ pages) alone = alone
data-behind (DictOf page ∷ pages) alone = cc

data-front : (pages others : List Content) → list_all is_data (pages ++ others) ≡ true → list_all is_data pages ≡ true
data-front [] others alone = refl
data-front (DataOf page ∷ pages) others alone = data-front pages others alone
data-front (DictOf page ∷ pages) others alone = cc

ordered-front : (pages others : List Content) → has_data_behind (pages ++ others) ≡ true → has_data_behind pages ≡ true
ordered-front [] others alone = refl
ordered-front (page ∷ pages) others alone = data-front pages others alone

still-front : (waiting : List Outcome) (pages others : List Content) → (waiting ≡ []) ⊎ (list_all is_data (pages ++ others) ≡ true) → (waiting ≡ []) ⊎ (list_all is_data pages ≡ true)
still-front waiting pages others (inl none) = inl none
still-front waiting pages others (inr alone) = inr (data-front pages others alone)

-- the first of these pages alone
pub keyed-front : (s : Standing) (pages others : List Content) → IsKeyed s (pages ++ others) → IsKeyed s pages
keyed-front s pages others is = record { named = is.named; lent = is.lent; still = still-front s.waiting pages others is.still; ordered = ordered-front pages others is.ordered }

-- where a row waits, only data pages are to come
pub data-alone : (s : Standing) (pages : List Content) → 0 < length s.waiting → IsKeyed s pages → list_all is_data pages ≡ true
data-alone s pages some is = elim is.still [ inl none ↦ absurd (omega (arith, some, ap length none)) | inr alone ↦ alone ]

module _ (entries : DictContent → Result (List Cell) (List Cause)) (outcomes own : Option (List Cell) → DataContent → List Outcome)
    (named_is : (dictionary : Option (List Cell)) (page : DataContent) → map (named_row (unwrap_or dictionary [])) (outcomes dictionary page) ≡ own dictionary page)
    (names : (dictionary : Option (List Cell)) (page : DataContent) → All (NamesEntry (unwrap_or dictionary [])) (outcomes dictionary page))
    (none_given : (page : DataContent) → cells_in (outcomes None page) ≡ []) where
  -- the entries that the keys of a column name
  abbrev pub names_of : Standing → List Content → List Cell
  names_of s pages = named_entries entries s.dictionary pages

  first-data : (dictionary : Option (List Cell)) (pages : List Content) → list_all is_data pages ≡ true → first_dictionary entries dictionary pages ≡ dictionary
  first-data dictionary [] alone = refl
  first-data dictionary (DataOf page ∷ pages) alone = refl
  first-data dictionary (DictOf page ∷ pages) alone = cc

  pub names-data : (s : Standing) (pages : List Content) → list_all is_data pages ≡ true → names_of s pages ≡ unwrap_or s.dictionary []
  names-data s pages alone = ap (λ d. unwrap_or d []) (first-data s.dictionary pages alone)

  rows-data : (dictionary : Option (List Cell)) (pages : List Content) (causes : List Cause) → list_all is_data pages ≡ true
      → rows entries own dictionary pages causes ≡ map (named_row (unwrap_or dictionary [])) (rows entries outcomes dictionary pages causes)
  rows-data dictionary [] causes alone = refused-named (unwrap_or dictionary []) causes
  rows-data dictionary (DataOf page ∷ pages) causes alone =
      ap₂ followed_by (sym (named_is dictionary page)) (rows-data dictionary pages causes alone)
      ∙ followed-named (unwrap_or dictionary []) (outcomes dictionary page) (rows entries outcomes dictionary pages causes)
  rows-data dictionary (DictOf page ∷ pages) causes alone = cc

  rows-named : (dictionary : Option (List Cell)) (pages : List Content) (causes : List Cause) → has_data_behind pages ≡ true
      → rows entries own dictionary pages causes ≡ map (named_row (unwrap_or (first_dictionary entries dictionary pages) [])) (rows entries outcomes dictionary pages causes)
  rows-named dictionary [] causes alone = refused-named (unwrap_or dictionary []) causes
  rows-named dictionary (DataOf page ∷ pages) causes alone = rows-data dictionary (DataOf page ∷ pages) causes alone
  rows-named dictionary (DictOf page ∷ pages) causes alone =
      let found = result_ok (entries page) in
      let f = named_row (unwrap_or found []) in
      ap₂ followed_by (refusal-named (unwrap_or found []) (entries page)) (rows-data found pages causes alone)
      ∙ followed-named (unwrap_or found []) (refusal_of (entries page)) (rows entries outcomes found pages causes)

  waiting-named : (s : Standing) (pages : List Content) → (s.waiting ≡ []) ⊎ (list_all is_data pages ≡ true) → map (named_row (unwrap_or s.dictionary [])) s.waiting ≡ map (named_row (names_of s pages)) s.waiting
  waiting-named s pages (inl none) = ap (map (named_row (unwrap_or s.dictionary []))) none ∙ sym (ap (map (named_row (names_of s pages))) none)
  waiting-named s pages (inr alone) = ap (λ found. map (named_row found) s.waiting) (sym (names-data s pages alone))

  -- The cells that are wanted are the entries that the keys name.
  pub wanted-named : (s : Standing) (pages : List Content) (causes : List Cause) → IsKeyed s pages → still_wanted entries own (named_standing s) pages causes ≡ map (named_row (names_of s pages)) (still_wanted entries outcomes s pages causes)
  wanted-named s pages causes is =
      let f = named_row (names_of s pages) in
      let coming = rows entries outcomes s.dictionary pages causes in
      ap₂ (λ front behind. front ++ take s.remaining behind) (waiting-named s pages is.still) (rows-named s.dictionary pages causes is.ordered)
      ∙ ap (λ xs. map f s.waiting ++ xs) (take-map f s.remaining coming)
      ∙ sym (map-append f s.waiting (take s.remaining coming))

  -- ---- behind a page

  empty-before : (s : Standing) (page : DictContent) (pages : List Content) → (s.waiting ≡ []) ⊎ (list_all is_data (DictOf page ∷ pages) ≡ true) → s.waiting ≡ []
  empty-before s page pages (inl none) = none
  empty-before s page pages (inr alone) = cc

  keyed-page : (s : Standing) (page : Content) (pages : List Content) → IsKeyed s (page ∷ pages) → IsKeyed (after_page entries outcomes s page) pages
  keyed-page s (DataOf page) pages is =
      let found = unwrap_or s.dictionary [] in
      record {
        named = All-append (NamesEntry found) s.waiting (take s.remaining (outcomes s.dictionary page)) is.named (All-take (NamesEntry found) s.remaining (outcomes s.dictionary page) (names s.dictionary page));
        lent = λ gone. cells_in-append s.waiting (take s.remaining (outcomes s.dictionary page)) (is.lent gone) (cells_in-take s.remaining (outcomes s.dictionary page) (ap (λ d. cells_in (outcomes d page)) gone ∙ none_given page));
        still = inr is.ordered;
        ordered = data-behind pages is.ordered;
      }
  keyed-page s (DictOf page) pages is =
      let found = unwrap_or (result_ok (entries page)) [] in
      let own = refusal_of (entries page) in
      let empty = sym (empty-before s page pages is.still) in
      let P : List Outcome → Type 0 = λ xs. All (NamesEntry found) (xs ++ take s.remaining own) in
      let Q : List Outcome → Type 0 = λ xs. cells_in (xs ++ take s.remaining own) ≡ [] in
      record {
        named = subst P empty (All-take (NamesEntry found) s.remaining own (refusal-names found (entries page)));
        lent = λ gone. subst Q empty (cells_in-take s.remaining own (cells_in-refusal (entries page)));
        still = inr is.ordered;
        ordered = data-behind pages is.ordered;
      }

  pub keyed-pages : (s : Standing) (lent new : List Content) → IsKeyed s (lent ++ new) → IsKeyed (after_pages entries outcomes s lent) new
  keyed-pages s [] new is = is
  keyed-pages s (page ∷ lent) new is = keyed-pages (after_page entries outcomes s page) lent new (keyed-page s page (lent ++ new) is)

  names-page : (s : Standing) (page : Content) (pages : List Content) → IsKeyed s (page ∷ pages) → names_of (after_page entries outcomes s page) pages ≡ names_of s (page ∷ pages)
  names-page s (DataOf page) pages is = names-data (after_page entries outcomes s (DataOf page)) pages is.ordered
  names-page s (DictOf page) pages is = names-data (after_page entries outcomes s (DictOf page)) pages is.ordered

  -- The entries that keys name stay the same.
  pub names-pages : (s : Standing) (lent new : List Content) → IsKeyed s (lent ++ new) → names_of (after_pages entries outcomes s lent) new ≡ names_of s (lent ++ new)
  names-pages s [] new is = refl
  names-pages s (page ∷ lent) new is = names-pages (after_page entries outcomes s page) lent new (keyed-page s page (lent ++ new) is) ∙ names-page s page (lent ++ new) is

  -- With entries in the place of keys the reading comes as far.
  after-named : (s : Standing) (page : Content) (pages : List Content) → IsKeyed s (page ∷ pages) → after_page entries own (named_standing s) page ≡ named_standing (after_page entries outcomes s page)
  after-named s (DataOf page) pages is =
      let f = named_row (unwrap_or s.dictionary []) in
      let given = outcomes s.dictionary page in
      let waits : map f s.waiting ++ take s.remaining (own s.dictionary page) ≡ map f (s.waiting ++ take s.remaining given) =
      ap (λ xs. map f s.waiting ++ take s.remaining xs) (sym (named_is s.dictionary page)) ∙ ap (λ xs. map f s.waiting ++ xs) (take-map f s.remaining given) ∙ sym (map-append f s.waiting (take s.remaining given)) in
      let left = λ (xs : List Outcome). if is_empty (causes_in xs) then s.remaining - length xs else 0 in
      let long : length (map f given) ≡ length given = simp length-map in
      let remains : left (own s.dictionary page) ≡ left given =
      ap left (sym (named_is s.dictionary page)) ∙ ap₂ (λ causes n. if is_empty causes then s.remaining - n else 0) (causes_in-named (unwrap_or s.dictionary []) given) long in
      λ i. record { waiting = waits i; remaining = remains i; dictionary = s.dictionary }
  after-named s (DictOf page) pages is =
      let found = result_ok (entries page) in
      let f = named_row (unwrap_or found []) in
      let own = refusal_of (entries page) in
      let empty = empty-before s page pages is.still in
      let waits : map (named_row (unwrap_or s.dictionary [])) s.waiting ++ take s.remaining own ≡ map f (s.waiting ++ take s.remaining own) =
      ap (λ xs. map (named_row (unwrap_or s.dictionary [])) xs ++ take s.remaining own) empty ∙ ap (take s.remaining) (refusal-named (unwrap_or found []) (entries page)) ∙ take-map f s.remaining own
      ∙ sym (ap (λ xs. map f (xs ++ take s.remaining own)) empty) in
      let left = λ (xs : List Outcome). if is_empty (causes_in xs) then s.remaining - length xs else 0 in
      λ i. record { waiting = waits i; remaining = left own; dictionary = found }

  pub afters-named : (s : Standing) (lent new : List Content) → IsKeyed s (lent ++ new) → after_pages entries own (named_standing s) lent ≡ named_standing (after_pages entries outcomes s lent)
  afters-named s [] new is = refl
  afters-named s (page ∷ lent) new is =
      ap (λ now. after_pages entries own now lent) (after-named s page (lent ++ new) is) ∙ afters-named (after_page entries outcomes s page) lent new (keyed-page s page (lent ++ new) is)

  short-named : (f : Outcome → Outcome) (size : Option ℕ) (xs : List Outcome) → IsShort size (length xs) → IsShort size (length (map f xs))
  short-named f size xs short = let long : length (map f xs) ≡ length xs = simp length-map in let P : ℕ → Type 0 = IsShort size in subst P (sym long) short

  pub needed-named : (size : Option ℕ) (s : Standing) (lent new : List Content) → IsKeyed s (lent ++ new) → AreNeeded entries outcomes size s lent → AreNeeded entries own size (named_standing s) lent
  needed-named size s [] new is needed = tt
  needed-named size s (page ∷ lent) new is needed =
      let P : Standing → Type 0 = λ now. AreNeeded entries own size now lent in (
        (needed.0.0, short-named (named_row (unwrap_or s.dictionary [])) size s.waiting needed.0.1),
        subst P (sym (after-named s page (lent ++ new) is)) (needed-named size (after_page entries outcomes s page) lent new (keyed-page s page (lent ++ new) is) needed.1),
      )

-- What a call for the next chunk of a column of keys gives.
use Rattle.std.proofs.Common.{◌≡◌, ℕ, true, List, [], ◌∷◌, ◌++◌, length, map, Option, None, sym, ap, ◌∙◌, subst, inr, arith, All}
use Rattle.std.specs.Prelude.{◌⊎◌, IfOk, Result, Ok, Err, option_map, unwrap_or}
use Rattle.std.specs.List.{list_all}
use Rattle.std.proofs.lemmas.List.{length-append, length-map, map-append}
use Rattle.columns_core.specs.Causes.{Cause, IsWantOfMemory}
use Rattle.columns_core.specs.declared.cell.Cell.{Cell}
use Rattle.columns_core.specs.declared.error.Error.{Error}
use Rattle.parquet_page.specs.Content.{Content, DictContent, is_data}
use Rattle.page_decoding.specs.NextChunk.{GivesChunk, IfChunk, IfFault, IsFirstChunk, OnNoError, front_of}
use Rattle.page_decoding.specs.declared.queue.MaybeNext.TheVariants as next
use Rattle.page_decoding.specs.Outcome.{Outcome, Given}
use Rattle.page_decoding.specs.Queue.{joined}
use Rattle.page_decoding.specs.Standing.{Advances, FailsBy, IsNeeded, IsShort, Passes, Rests, Standing, after_pages, causes_behind, standing, still_wanted}
use Rattle.dictionary_values.specs.DictLeft.{IsKeyed}
use Rattle.dictionary_values.specs.Keys.{NamesEntry, named_cell, named_row, named_standing, selected_entries, selected_keys}
use Rattle.dictionary_values.proofs.ColumnLemmas.{all-back, all-front, in_front, none-front}
use Rattle.dictionary_values.proofs.NamedLemmas.{chunks-named, data-alone, first-named, keyed-front, keyed-pages, names-data, names-pages, names_of, wanted-named}
use Rattle.dictionary_values.proofs.PageLemmas.{selected-name, selected-named, selected-none}

module _ (entries : DictContent → Result (List Cell) (List Cause)) (most : ℕ) (old new : List Content) (causes causes_now : List Cause) (before : Standing) (keyed : IsKeyed before old) where
  abbrev names : Standing → List Content → List Cell
  names s pages = names_of entries (selected_keys most) (selected_entries most) (selected-named most) (selected-name most) (selected-none most) s pages

  abbrev wanted_keys : Standing → List Content → List Cause → List Outcome
  wanted_keys s pages causes = still_wanted entries (selected_keys most) s pages causes

  abbrev wanted_entries : Standing → List Content → List Cause → List Outcome
  wanted_entries s pages causes = still_wanted entries (selected_entries most) (named_standing s) pages causes

  wanted-is : (s : Standing) (pages : List Content) (causes : List Cause) → IsKeyed s pages → wanted_entries s pages causes ≡ map (named_row (names s pages)) (wanted_keys s pages causes)
  wanted-is s pages causes is = wanted-named entries (selected_keys most) (selected_entries most) (selected-named most) (selected-name most) (selected-none most) s pages causes is

  -- the page that was lent, if one was
  record IsAhead (after : Standing) : Type 0 where
    pub lent : List Content
    pub split : old ≡ lent ++ new
    pub stands : after ≡ after_pages entries (selected_keys most) before lent

  ahead : (after : Standing) → Advances entries (selected_keys most) old new before after → IsAhead after
  ahead after (Rests same stands) = record { lent = []; split = sym same; stands = stands }
  ahead after (Passes page first stands) = record { lent = page ∷ []; split = first; stands = stands }

  pub after-keyed : (after : Standing) → Advances entries (selected_keys most) old new before after → IsKeyed after new
  after-keyed after advances =
      let on = ahead after advances in
      let P : List Content → Type 0 = IsKeyed before in
      let Q : Standing → Type 0 = λ s. IsKeyed s new in
      subst Q (sym on.stands) (keyed-pages entries (selected_keys most) (selected_entries most) (selected-named most) (selected-name most) (selected-none most) before on.lent new (subst P on.split keyed))

  pub after-names : (after : Standing) → Advances entries (selected_keys most) old new before after → names after new ≡ names before old
  after-names after advances =
      let on = ahead after advances in
      let P : List Content → Type 0 = IsKeyed before in
      ap (λ s. names s new) on.stands
      ∙ names-pages entries (selected_keys most) (selected_entries most) (selected-named most) (selected-name most) (selected-none most) before on.lent new (subst P on.split keyed)
      ∙ ap (names before) (sym on.split)

  -- More pages are read first, and all rows are left.
  pub more-wanted : (after : Standing) → Advances entries (selected_keys most) old new before after → wanted_keys after new causes_now ≡ wanted_keys before old causes → wanted_entries after new causes_now ≡ wanted_entries before old causes
  more-wanted after advances same =
      wanted-is after new causes_now (after-keyed after advances)
      ∙ ap (λ found. map (named_row found) (wanted_keys after new causes_now)) (after-names after advances)
      ∙ ap (map (named_row (names before old))) same
      ∙ sym (wanted-is before old causes keyed)

  -- No row is wanted.
  pub none-wanted : (after : Standing) → Advances entries (selected_keys most) old new before after → (wanted_keys before old causes ≡ []) × (wanted_keys after new causes_now ≡ []) → (wanted_entries before old causes ≡ []) × (wanted_entries after new causes_now ≡ [])
  none-wanted after advances none = (
    wanted-is before old causes keyed ∙ ap (map (named_row (names before old))) none.0,
    wanted-is after new causes_now (after-keyed after advances) ∙ ap (map (named_row (names after new))) none.1,
  )

  named-needed : (size : Option ℕ) → IsNeeded size before → IsNeeded size (named_standing before)
  named-needed size need =
      let same : length (map (named_row (unwrap_or before.dictionary [])) before.waiting) ≡ length before.waiting = simp length-map in
      let P : ℕ → Type 0 = λ n. IsShort size n in
      (need.0, subst P (sym same) need.1)

  -- An error that tells of rows of keys tells of the rows of entries.
  pub fails-named : (size : Option ℕ) (error : Error) → FailsBy entries (selected_keys most) None size old new causes before error → FailsBy entries (selected_entries most) None size old new causes (named_standing before) error
  fails-named size error fails =
      let P : List Content → Type 0 = IsKeyed before in
      let front = keyed-front before fails.lent_pages new (subst P fails.split keyed) in
      record {
        awaited = (named-needed size fails.awaited.0, fails.awaited.1);
        lent_pages = fails.lent_pages;
        split = fails.split;
        tells = chunks-named (names before fails.lent_pages) size _ _ error (wanted-is before fails.lent_pages (causes_behind new causes) front) fails.tells;
      }

  -- ---- a chunk

  module _ {X Dict : Type 0} (shown : X → List Cell) (dict_shown : Dict → List Cell) (size : Option ℕ) (items : List X) (remaining : ℕ) (dict : Option Dict) (keys : X)
      (advances : Advances entries (selected_keys most) old new before (standing shown dict_shown (keys ∷ items) remaining dict))
      (first : IsFirstChunk shown size (wanted_keys before old causes) (wanted_keys (standing shown dict_shown items remaining dict) new causes_now) keys) where
    abbrev left : Standing
    left = standing shown dict_shown items remaining dict

    front-is : standing shown dict_shown (keys ∷ items) remaining dict ≡ in_front shown keys left
    front-is = let waits = map-append Given (shown keys) (joined (map shown items)) in λ i. record { waiting = waits i; remaining = remaining; dictionary = option_map dict_shown dict }

    front-keyed : IsKeyed (in_front shown keys left) new
    front-keyed = let P : Standing → Type 0 = λ s. IsKeyed s new in subst P front-is (after-keyed (standing shown dict_shown (keys ∷ items) remaining dict) advances)

    alone : list_all is_data new ≡ true
    alone =
        let same : length (map Given (shown keys)) ≡ length (shown keys) = simp length-map in
        data-alone (in_front shown keys left) new (omega (arith, first.some, same, length-append (map Given (shown keys)) left.waiting)) front-keyed

    -- each key of the chunk names an entry
    pub next-names : All (NamesEntry (unwrap_or (option_map dict_shown dict) [])) (map Given (shown keys))
    next-names = all-front (NamesEntry (unwrap_or (option_map dict_shown dict) [])) (map Given (shown keys)) left.waiting front-keyed.named

    -- a dictionary was lent
    pub next-there : option_map dict_shown dict ≡ None → ⊥
    next-there gone = omega (arith, none-front (shown keys) left.waiting (front-keyed.lent gone), first.some)

    pub next-keyed : IsKeyed left new
    next-keyed = record {
      named = all-back (NamesEntry (unwrap_or (option_map dict_shown dict) [])) (map Given (shown keys)) left.waiting front-keyed.named;
      lent = λ gone. absurd (next-there gone);
      still = inr alone;
      ordered = front-keyed.ordered;
    }

    pub names-now : names before old ≡ unwrap_or (option_map dict_shown dict) []
    names-now =
        sym (after-names (standing shown dict_shown (keys ∷ items) remaining dict) advances) ∙ ap (λ s. names s new) front-is
        ∙ names-data entries (selected_keys most) (selected_entries most) (selected-named most) (selected-name most) (selected-none most) (in_front shown keys left) new alone

    -- The dictionary stays what it is.
    pub next-names-stay : names left new ≡ names before old
    next-names-stay =
        names-data entries (selected_keys most) (selected_entries most) (selected-named most) (selected-name most) (selected-none most) left new alone
        ∙ sym names-now

    -- its array, or want of memory
    pub next-given : {Y : Type 0} (cells_of : Y → List Cell) (result : Result Y Error) → IfOk result (λ array. cells_of array ≡ map (named_cell (unwrap_or (option_map dict_shown dict) [])) (shown keys))
        → GivesChunk cells_of size (wanted_entries before old causes) (wanted_entries left new causes_now) (next.Some result)
    next-given cells_of (Err error) is = tt
    next-given cells_of (Ok array) is =
        let found = unwrap_or (option_map dict_shown dict) [] in
        first-named shown cells_of found size (wanted_keys before old causes) (wanted_keys left new causes_now) _ _ keys array is
        (wanted-is before old causes keyed ∙ ap (λ cells. map (named_row cells) (wanted_keys before old causes)) names-now)
        (wanted-is left new causes_now next-keyed ∙ ap (λ cells. map (named_row cells) (wanted_keys left new causes_now)) (names-data entries (selected_keys most) (selected_entries most) (selected-named most) (selected-name most) (selected-none most) left new alone))
        first

-- ---- answers

pub of-array : {Y : Type 0} (P : Y → Type 0) (result : Result Y Error) → IfOk result P → IfChunk (next.Some result) P
of-array P (Ok array) holds = holds
of-array P (Err error) holds = tt

pub on-array : {Y : Type 0} (P : Type 0) (result : Result Y Error) → P → OnNoError (next.Some result) P
on-array P (Ok array) holds = holds
on-array P (Err error) holds = tt

-- a chunk is one of keys
module _ {X Dict : Type 0} (shown : X → List Cell) (dict_shown : Dict → List Cell) (chunk : Result X Error) (keys : X) (is : chunk ≡ Ok keys) where
  pub one-advances : (entries : DictContent → Result (List Cell) (List Cause)) (most : ℕ) (old new : List Content) (before : Standing) (items : List X) (remaining : ℕ) (dict : Option Dict)
      → OnNoError (next.Some chunk) (Advances entries (selected_keys most) old new before (standing shown dict_shown (front_of (next.Some chunk) ++ items) remaining dict)) → Advances entries (selected_keys most) old new before (standing shown dict_shown (keys ∷ items) remaining dict)
  one-advances entries most old new before items remaining dict advances =
      let P : Result X Error → Type 0 = λ r. OnNoError (next.Some r) (Advances entries (selected_keys most) old new before (standing shown dict_shown (front_of (next.Some r) ++ items) remaining dict)) in
      subst P is advances

  pub one-first : (size : Option ℕ) (old new : List Outcome) → GivesChunk shown size old new (next.Some chunk) → IsFirstChunk shown size old new keys
  one-first size old new first = let P : Result X Error → Type 0 = λ r. GivesChunk shown size old new (next.Some r) in subst P is first

-- an error of the reading
pub one-fails : {Y : Type 0} (F : Error → Type 0) (B : Type 0) (chunk : Result Y Error) (error : Error) → chunk ≡ Err error → (F error → B) → IfFault (next.Some chunk) F → IsWantOfMemory error ⊎ B
one-fails {Y = Y} F B chunk error is turn fault = let P : Result Y Error → Type 0 = λ r. IfFault (next.Some r) F in inr (turn (subst P is fault))

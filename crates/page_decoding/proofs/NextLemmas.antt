-- One more page is lent and decoded.
use Rattle.std.proofs.Common.{◌≡◌, ℕ, ◌-◌, ◌<◌, ◌≤◌, suc, zero, Bool, true, false, List, [], ◌∷◌, ◌++◌, length, take, map, Option, Some, None, refl, sym, ap, ◌∙◌, subst, inl, inr, arith, append_assoc, append-nil}
use Rattle.std.specs.Prelude.{◌⊎◌, if◌then◌else◌, Result, Ok, Err}
use Rattle.std.proofs.lemmas.Bool.{cases_lt}
use Rattle.std.proofs.lemmas.List.{take_all}
use Rattle.columns_core.specs.Causes.{Cause, IsOneOf, cause_of, is_empty}
use Rattle.columns_core.specs.declared.cell.Cell.{Cell}
use Rattle.columns_core.specs.declared.error.Error.{Error}
use Rattle.parquet_page.specs.declared.page.Page.{Page}
use Rattle.parquet_page.specs.Content.{Content, DataContent, DictContent, content, is_shaped}
use Rattle.parquet_page.specs.Lending.{HasEnded, Lends, LendsShaped, Leaves, ticks}
use Rattle.page_decoding.specs.Outcome.{Outcome, Given, Refused, IsCausedBy, causes_in, refusal_of, refused}
use Rattle.page_decoding.specs.Column.{entries_behind, followed_by, page_rows, rows}
use Rattle.page_decoding.specs.NextChunk.{Ends, IsLent, Moves, Opens, Stays}
use Rattle.page_decoding.specs.Standing.{Advances, FailsBy, IsCausedByPages, IsNeeded, Passes, Rests, Standing, after_page, after_pages, causes_behind, still_wanted}
use Rattle.page_decoding.specs.Bytes.{IsCausedByChunks}
use Rattle.page_decoding.proofs.BytesLemmas.{chunks-left, chunks-right, take-append}
use Rattle.page_decoding.proofs.RowLemmas.{causes_in-append}

-- A page that was lent is the first that was still to come.
lent-first : {old new : List Content} {causes causes_now : List Cause} {rows rows_now given given_now lent lent_now : ℕ} (page : Page)
    → Leaves (Ok (Some page)) old new causes causes_now rows rows_now given given_now lent lent_now → Lends old causes (Ok (Some page)) → IsLent (content page) old new causes causes_now lent lent_now
lent-first {old = []} page leaves lends = absurd lends
lent-first {old = first ∷ rest} page leaves lends = record {
  first = ap (λ own. own ∷ rest) lends ∙ ap (λ pages. content page ∷ pages) (sym leaves.goes_on.0);
  same = leaves.goes_on.1;
  data_alone = leaves.goes_on.2;
  one_more = leaves.one_more;
}

pub is-lent : {old new : List Content} {causes causes_now : List Cause} {rows rows_now given given_now lent lent_now : ℕ} {result : Result (Option Page) Error} (page : Page)
    → result ≡ Ok (Some page) → Leaves result old new causes causes_now rows rows_now given given_now lent lent_now → Lends old causes result → IsLent (content page) old new causes causes_now lent lent_now
is-lent {old = old} {new = new} {causes = causes} {causes_now = causes_now} {rows = rows} {rows_now = rows_now} {given = given} {given_now = given_now} {lent = lent} {lent_now = lent_now} page is leaves lends =
    let P : Result (Option Page) Error → Type 0 = λ r. Leaves r old new causes causes_now rows rows_now given given_now lent lent_now in
    let Q : Result (Option Page) Error → Type 0 = λ r. Lends old causes r in
    lent-first page (subst P is leaves) (subst Q is lends)

pub opens : {old new : List Content} {causes causes_now : List Cause} {lent lent_now : ℕ} {page : Content} (needs : Type 0) (steps steps_now : ℕ) (result : Result (Option Page) Error) (found : Page)
    → needs → IsLent page old new causes causes_now lent lent_now → result ≡ Ok (Some found) → steps_now ≡ ticks steps result → Moves needs old new causes causes_now steps steps_now lent lent_now
opens {page = page} needs steps steps_now result found some own is ticked = Opens some page own (ticked ∙ ap (ticks steps) is)

-- Behind an error nothing comes.
pub is-over : {old new : List Content} {causes causes_now : List Cause} {rows rows_now given given_now lent lent_now : ℕ} {result : Result (Option Page) Error} (error : Error)
    → result ≡ Err error → Leaves result old new causes causes_now rows rows_now given given_now lent lent_now → new ≡ []
is-over {old = old} {new = new} {causes = causes} {causes_now = causes_now} {rows = rows} {rows_now = rows_now} {given = given} {given_now = given_now} {lent = lent} {lent_now = lent_now} error is leaves =
    let P : Result (Option Page) Error → Type 0 = λ r. Leaves r old new causes causes_now rows rows_now given given_now lent lent_now in
    let over = subst P is leaves in over.goes_on.none

-- An error tells of what is wrong behind the last page.
pub lends-error : (pages : List Content) (causes : List Cause) (error : Error) → Lends pages causes (Err error) → (pages ≡ []) × IsOneOf causes (cause_of error)
lends-error [] causes error lends = (refl, lends)
lends-error (first ∷ pages) causes error lends = absurd lends

-- a page is asked for, for another reason
pub moves-since : {old new : List Content} {causes causes_now : List Cause} {steps steps_now lent lent_now : ℕ} (needs why : Type 0) → why → Moves needs old new causes causes_now steps steps_now lent lent_now → Moves why old new causes causes_now steps steps_now lent lent_now
moves-since needs why reason (Stays same causes steps lent) = Stays same causes steps lent
moves-since needs why reason (Opens own page lent steps) = Opens reason page lent steps
moves-since needs why reason (Ends own none over steps lent) = Ends reason none over steps lent

-- ---- rows that are wanted

pub take-nil : (n : ℕ) → take {A = Outcome} n [] ≡ []
take-nil zero = refl
take-nil (suc n) = refl

-- where a row is wanted, a refusal stands among those that are wanted
refused_first : (remaining : ℕ) (causes : List Cause) (error : Error) → 0 < remaining → IsCausedBy (Refused causes ∷ []) error → IsCausedBy (take remaining (Refused causes ∷ [])) error
refused_first zero causes error some cause = absurd (omega arith)
refused_first (suc n) causes error some cause = let P : List Outcome → Type 0 = λ rows. IsCausedBy (Refused causes ∷ rows) error in subst P (sym (take-nil n)) cause

pub nothing_wrong : (o : Option Cause) → IsOneOf [] o → ⊥
nothing_wrong None h = h
nothing_wrong (Some cause) h = absurd (omega (arith, h.1))

-- where something is wrong behind the last page, where a row is wanted it is told of
wrong_end : (remaining : ℕ) (causes : List Cause) (error : Error) → 0 < remaining → IsOneOf causes (cause_of error) → IsCausedBy (take remaining (refused causes)) error
wrong_end remaining [] error some wrong = absurd (nothing_wrong (cause_of error) wrong)
wrong_end remaining (cause ∷ causes) error some wrong =
    let P : List Cause → Type 0 = λ found. IsOneOf found (cause_of error) in
    refused_first remaining (cause ∷ causes) error some (inr (subst P (sym (append-nil (cause ∷ causes))) wrong))

-- where a row is wanted, so are all causes of a dictionary page
pub wrong_entries : (remaining : ℕ) (entries : Result (List Cell) (List Cause)) (error : Error) → 0 < remaining → IsCausedBy (refusal_of entries) error → IsCausedBy (take remaining (refusal_of entries)) error
wrong_entries remaining (Ok cells) error some (inl memory) = inl memory
wrong_entries remaining (Ok cells) error some (inr wrong) = absurd (nothing_wrong (cause_of error) wrong)
wrong_entries remaining (Err []) error some (inl memory) = inl memory
wrong_entries remaining (Err []) error some (inr wrong) = absurd (nothing_wrong (cause_of error) wrong)
wrong_entries remaining (Err (cause ∷ causes)) error some told = refused_first remaining (cause ∷ causes) error some told

-- a page that was lent is well shaped
pub lent_shaped : {result : Result (Option Page) Error} (page : Page) → result ≡ Ok (Some page) → LendsShaped result → is_shaped (content page) ≡ true
lent_shaped page is shaped = let P : Result (Option Page) Error → Type 0 = λ r. LendsShaped r in subst P is shaped

-- ---- rows and those behind them

taken-by : (goes_on : Bool) (n : ℕ) (own later : List Outcome) → take n (if goes_on then own ++ later else own) ≡ take n own ++ take (if goes_on then n - length own else 0) later
taken-by true n own later = take-append n own later
taken-by false n own later = sym (append-nil (take n own))

take-followed : (n : ℕ) (own later : List Outcome) → take n (followed_by own later) ≡ take n own ++ take (if is_empty (causes_in own) then n - length own else 0) later
take-followed n own later = taken-by (is_empty (causes_in own)) n own later

pub causes_in-given : (cells : List Cell) → causes_in (map Given cells) ≡ []
causes_in-given [] = refl
causes_in-given (cell ∷ cells) = causes_in-given cells

-- With rows that were given nothing is wrong.
pub given-whole : (before after : List Cell) (own : List Outcome) → map Given after ≡ map Given before ++ own → causes_in own ≡ []
given-whole before after own e = sym (ap (λ causes. causes ++ causes_in own) (causes_in-given before)) ∙ sym (causes_in-append (map Given before) own) ∙ sym (ap causes_in e) ∙ causes_in-given after

fewer-by : (goes_on : Bool) (n many : ℕ) → (n ≤ many) ⊎ (goes_on ≡ true) → n - many ≡ (if goes_on then n - many else 0)
fewer-by true n many why = refl
fewer-by false n many (inl most) = omega (arith, most)
fewer-by false n many (inr on) = cc

-- Where nothing is wrong with the rows that were taken, but with others of the page, no more rows are wanted.
pub fewer-wanted : (n : ℕ) (own : List Outcome) → causes_in (take n own) ≡ [] → n - length own ≡ (if is_empty (causes_in own) then n - length own else 0)
fewer-wanted n own right = fewer-by (is_empty (causes_in own)) n (length own) (elim (cases_lt n (length own)) [ inl less ↦ inl (omega (arith, less)) | inr more ↦ inr (ap (λ rows. is_empty (causes_in rows)) (sym (take_all n own more)) ∙ ap is_empty right) ])

-- ---- rows that are still wanted

module _ (entries : DictContent → Result (List Cell) (List Cause)) (outcomes : Option (List Cell) → DataContent → List Outcome) where
  -- Behind a page the same rows are still wanted.
  pub still-after : (s : Standing) (page : Content) (pages : List Content) (causes : List Cause) → still_wanted entries outcomes (after_page entries outcomes s page) pages causes ≡ still_wanted entries outcomes s (page ∷ pages) causes
  still-after s page pages causes =
      let own = page_rows entries outcomes s.dictionary page in
      let later = rows entries outcomes (entries_behind entries outcomes s.dictionary page) pages causes in
      append_assoc s.waiting (take s.remaining own) (take (if is_empty (causes_in own) then s.remaining - length own else 0) later) ∙ ap (λ xs. s.waiting ++ xs) (sym (take-followed s.remaining own later))

  pub still-pages : (s : Standing) (first pages : List Content) (causes : List Cause) → still_wanted entries outcomes (after_pages entries outcomes s first) pages causes ≡ still_wanted entries outcomes s (first ++ pages) causes
  still-pages s [] pages causes = refl
  still-pages s (page ∷ first) pages causes = still-pages (after_page entries outcomes s page) first pages causes ∙ still-after s page (first ++ pages) causes

  pub still-advances : (old new : List Content) (causes causes_now : List Cause) (before after : Standing) → causes_now ≡ causes → Advances entries outcomes old new before after → still_wanted entries outcomes after new causes_now ≡ still_wanted entries outcomes before old causes
  still-advances old new causes causes_now before after same (Rests still stands) =
      ap (λ s. still_wanted entries outcomes s new causes_now) stands ∙ ap (λ pages. still_wanted entries outcomes before pages causes_now) still ∙ ap (λ wrong. still_wanted entries outcomes before old wrong) same
  still-advances old new causes causes_now before after same (Passes page first stands) =
      ap (λ s. still_wanted entries outcomes s new causes_now) stands ∙ still-after before page new causes_now ∙ ap (λ pages. still_wanted entries outcomes before pages causes_now) (sym first) ∙ ap (λ wrong. still_wanted entries outcomes before old wrong) same

  -- ---- an error

  none_after : (page : Content) (new : List Content) (causes : List Cause) → HasEnded (page ∷ new) causes → ⊥
  none_after page new causes over = let e : page ∷ new ≡ [] = over.none in cc

  -- an error tells of the page that was lent
  pub fails-page : (most size : Option ℕ) (page : Content) (old new : List Content) (causes : List Cause) (s : Standing) (error : Error) → IsNeeded size s → old ≡ page ∷ new
      → IsCausedByChunks most size (s.waiting ++ take s.remaining (page_rows entries outcomes s.dictionary page)) error → FailsBy entries outcomes most size old new causes s error
  fails-page most size page old new causes s error need first told =
      let own = page_rows entries outcomes s.dictionary page in
      let later = rows entries outcomes (entries_behind entries outcomes s.dictionary page) [] (causes_behind new causes) in
      let rest = take (if is_empty (causes_in own) then s.remaining - length own else 0) later in
      let P : List Outcome → Type 0 = λ xs. IsCausedByChunks most size xs error in
      let N : List Content → Type 0 = λ pages. HasEnded pages causes in
      let whole : (s.waiting ++ take s.remaining own) ++ rest ≡ s.waiting ++ take s.remaining (followed_by own later) = append_assoc s.waiting (take s.remaining own) rest ∙ ap (λ xs. s.waiting ++ xs) (sym (take-followed s.remaining own later)) in
      record {
        awaited = (need, λ over. none_after page new causes (subst N first over));
        lent_pages = page ∷ [];
        split = first;
        tells = subst P whole (chunks-left most size (s.waiting ++ take s.remaining own) rest error told);
      }

  none_wrong : (pages : List Content) (causes : List Cause) (error : Error) → IsOneOf causes (cause_of error) → HasEnded pages causes → ⊥
  none_wrong pages causes error wrong over = let P : List Cause → Type 0 = λ found. IsOneOf found (cause_of error) in nothing_wrong (cause_of error) (subst P over.ends wrong)

  -- an error tells of what is wrong behind the last page
  pub fails-end : (most size : Option ℕ) (old new : List Content) (causes : List Cause) (s : Standing) (error : Error) → IsNeeded size s → old ≡ [] → new ≡ [] → IsOneOf causes (cause_of error) → FailsBy entries outcomes most size old new causes s error
  fails-end most size old new causes s error need none over wrong =
      let P : List Content → Type 0 = λ left. IsCausedByPages entries outcomes most size s [] left causes error in
      let told : IsCausedByPages entries outcomes most size s [] [] causes error = chunks-right most size s.waiting (take s.remaining (refused causes)) error (wrong_end s.remaining causes error need.0 wrong) in
      record {
        awaited = (need, none_wrong old causes error wrong);
        lent_pages = [];
        split = none ∙ sym over;
        tells = subst P (sym over) told;
      }

  -- More rows come behind those of the pages that were lent.
  record Extends (first all : List Outcome) : Type 0 where
    others : List Outcome
    split : all ≡ first ++ others

  extends-by : (goes_on : Bool) (own first all : List Outcome) → Extends first all → Extends (if goes_on then own ++ first else own) (if goes_on then own ++ all else own)
  extends-by true own first all more = record { others = more.others; split = ap (λ xs. own ++ xs) more.split ∙ sym (append_assoc own first more.others) }
  extends-by false own first all more = record { others = []; split = sym (append-nil own) }

  rows-extend : (dictionary : Option (List Cell)) (lent_pages left : List Content) (causes : List Cause) → Extends (rows entries outcomes dictionary lent_pages (causes_behind left causes)) (rows entries outcomes dictionary (lent_pages ++ left) causes)
  rows-extend dictionary [] [] causes = record { others = []; split = sym (append-nil (refused causes)) }
  rows-extend dictionary [] (page ∷ left) causes = record { others = rows entries outcomes dictionary (page ∷ left) causes; split = refl }
  rows-extend dictionary (page ∷ lent_pages) left causes =
      let own = page_rows entries outcomes dictionary page in
      let behind = entries_behind entries outcomes dictionary page in
      extends-by (is_empty (causes_in own)) own (rows entries outcomes behind lent_pages (causes_behind left causes)) (rows entries outcomes behind (lent_pages ++ left) causes) (rows-extend behind lent_pages left causes)

  caused-more : (most size : Option ℕ) (n : ℕ) (first all : List Outcome) (waiting : List Outcome) (error : Error) → Extends first all → IsCausedByChunks most size (waiting ++ take n first) error → IsCausedByChunks most size (waiting ++ take n all) error
  caused-more most size n first all waiting error more told =
      let P : List Outcome → Type 0 = λ xs. IsCausedByChunks most size xs error in
      let e : waiting ++ take n all ≡ (waiting ++ take n first) ++ take (n - length first) more.others =
      ap (λ xs. waiting ++ xs) (ap (take n) more.split ∙ take-append n first more.others) ∙ sym (append_assoc waiting (take n first) (take (n - length first) more.others)) in
      subst P (sym e) (chunks-left most size (waiting ++ take n first) (take (n - length first) more.others) error told)

  -- What an error tells of is wrong with the rows that are wanted.
  pub fails-caused : (most size : Option ℕ) (old new : List Content) (causes : List Cause) (s : Standing) (error : Error) → FailsBy entries outcomes most size old new causes s error → IsCausedByChunks most size (still_wanted entries outcomes s old causes) error
  fails-caused most size old new causes s error fails =
      let P : List Content → Type 0 = λ pages. IsCausedByChunks most size (still_wanted entries outcomes s pages causes) error in
      subst P (sym fails.split) (caused-more most size s.remaining (rows entries outcomes s.dictionary fails.lent_pages (causes_behind new causes)) (rows entries outcomes s.dictionary (fails.lent_pages ++ new) causes) s.waiting error (rows-extend s.dictionary fails.lent_pages new causes) fails.tells)

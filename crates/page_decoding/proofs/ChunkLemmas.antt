-- Chunks that are read one after another.
use Rattle.std.proofs.Common.{◌≡◌, ℕ, ◌+◌, ◌<◌, suc, zero, true, List, [], ◌∷◌, ◌++◌, length, map, Option, Some, None, refl, sym, ap, ◌∙◌, subst, inl, inr, arith, append_assoc, append-nil}
use Rattle.std.specs.List.{list_all}
use Rattle.std.specs.Prelude.{◌⊎◌, if◌then◌else◌, is_ok, All, IfSome, Result, Ok, Err}
use Rattle.std.proofs.lemmas.List.{length-append, length-map, map-append}
use Rattle.columns_core.specs.Causes.{Cause}
use Rattle.columns_core.specs.declared.cell.Cell.{Cell}
use Rattle.columns_core.specs.declared.error.Error.{Error}
use Rattle.parquet_meta.specs.Source.{raised}
use Rattle.parquet_page.specs.Content.{Content, DataContent, DictContent, is_data}
use Rattle.page_decoding.specs.Bytes.{IsCausedByChunks}
use Rattle.page_decoding.specs.Outcome.{Outcome, Given}
use Rattle.page_decoding.specs.Queue.{IsChunkSize, IsCut, first_chunk, joined}
use Rattle.page_decoding.specs.NextChunk.{BeginsFull, Ends, GivesChunk, IfChunk, IfFault, IsFirstChunk, Moves, OnNoError, Opens, Stays, front_of}
use Rattle.page_decoding.specs.declared.queue.MaybeNext.TheVariants as next
use Rattle.page_decoding.specs.Standing.{Advances, AreNeeded, Awaits, FailsBy, IsCausedByPages, IsFinished, IsNeeded, IsShort, NoneComes, Passes, Rests, Standing, after_page, after_pages, causes_behind, standing, still_wanted}
use Rattle.page_decoding.specs.Chunks.{GivesFirstChunk, IfFailed, IfGiven, Reaches, ReadsChunks, lent_more}
use Rattle.page_decoding.proofs.NextLemmas.{fails-caused, still-pages}

-- ---- one more page

module _ (entries : DictContent → Result (List Cell) (List Cause)) (outcomes : Option (List Cell) → DataContent → List Outcome) where
  after-more : (s : Standing) (lent_pages : List Content) (page : Content) → after_pages entries outcomes s (lent_pages ++ page ∷ []) ≡ after_page entries outcomes (after_pages entries outcomes s lent_pages) page
  after-more s [] page = refl
  after-more s (first ∷ lent_pages) page = after-more (after_page entries outcomes s first) lent_pages page

  needed-more : (size : Option ℕ) (s : Standing) (lent_pages : List Content) (page : Content) → AreNeeded entries outcomes size s lent_pages → IsNeeded size (after_pages entries outcomes s lent_pages) → AreNeeded entries outcomes size s (lent_pages ++ page ∷ [])
  needed-more size s [] page needed need = (need, tt)
  needed-more size s (first ∷ lent_pages) page needed need = (needed.0, needed-more size (after_page entries outcomes s first) lent_pages page needed.1 need)

counted-more : (lent : ℕ) (lent_pages : List Content) (page : Content) → lent_more lent (length (lent_pages ++ page ∷ [])) ≡ raised (lent_more lent (length lent_pages)) 1
counted-more lent [] page = refl
counted-more lent (first ∷ lent_pages) page = let long = length-append lent_pages (page ∷ []) in omega (arith, long)

not_behind : (page : Content) (pages : List Content) → pages ≡ page ∷ pages → ⊥
not_behind page pages e = omega (arith, ap length e)

-- ---- a page is needed

short-from : {A : Type 0} (size : Option ℕ) (items : List (List A)) → IsChunkSize size → IsCut size items → (BeginsFull size items → ⊥) → IsShort size (length (joined items))
short-from None items some cut none = tt
short-from (Some size) [] some cut none = some
short-from {A = A} (Some size) (item ∷ []) some cut whole =
    let other : length item ≡ size → ⊥ = whole in
    let fits = cut.1 in
    omega (arith, other, fits, ap length (append-nil item))
short-from (Some size) (item ∷ next ∷ items) some cut whole = absurd (whole cut.1)

pub needed-from : {Item Dict : Type 0} (shown : Item → List Cell) (dict_shown : Dict → List Cell) (size : Option ℕ) (items : List Item) (remaining : ℕ) (dict : Option Dict) → IsChunkSize size → IsCut size (map shown items) → 0 < remaining → (BeginsFull size (map shown items) → ⊥)
    → IsNeeded size (standing shown dict_shown items remaining dict)
needed-from shown dict_shown size items remaining dict some cut wanted whole =
    let same : length (map Given (joined (map shown items))) ≡ length (joined (map shown items)) = simp length-map in
    let P : ℕ → Type 0 = λ n. IsShort size n in
    (wanted, subst P (sym same) (short-from size (map shown items) some cut whole))

-- ---- the pages that were lent so far

-- the pages that were lent are those before the ones that are left
lent-none : (lent_pages left : List Content) → left ≡ lent_pages ++ left → lent_pages ≡ []
lent-none [] left e = refl
lent-none (page ∷ lent_pages) left e = absurd (omega (arith, ap length e, length-append lent_pages left))

lent-one : (page : Content) (lent_pages left : List Content) → page ∷ left ≡ lent_pages ++ left → lent_pages ≡ page ∷ []
lent-one page [] left e = absurd (omega (arith, ap length e))
lent-one page (first ∷ []) left e = cc
lent-one page (first ∷ second ∷ lent_pages) left e = absurd (omega (arith, ap length e, length-append lent_pages left))

module _ {X : Type 0} (shown : X → List Cell) (entries : DictContent → Result (List Cell) (List Cause)) (outcomes : Option (List Cell) → DataContent → List Outcome) (most size : Option ℕ) where
  -- one more page is lent
  one-more : {result : Option (Result X Error)} {old mid new : List Content} {causes : List Cause} {before now after : Standing} {steps steps_now steps_then lent lent_now lent_then : ℕ} (page : Content)
      → (reads : ReadsChunks shown entries outcomes most size None old mid causes before now steps steps_now lent lent_now) → mid ≡ page ∷ new → list_all is_data new ≡ true → IsNeeded size now → steps_then ≡ steps_now + 1 → lent_then ≡ raised lent_now 1
      → Reaches shown result (after_page entries outcomes now page) after → IfFailed result (IsCausedByPages entries outcomes most size before (reads.lent_pages ++ page ∷ []) new causes) → ReadsChunks shown entries outcomes most size result old new causes before after steps steps_then lent lent_then
  one-more {result = result} {old = old} {mid = mid} {new = new} {before = before} {now = now} {after = after} {lent = lent} page reads first alone need ticked counted reaches tells =
      let N : Standing → Type 0 = λ s. IsNeeded size s in
      let R : Standing → Type 0 = λ s. Reaches shown result s after in
      record {
        lent_pages = reads.lent_pages ++ page ∷ [];
        split = reads.split ∙ ap (λ pages. reads.lent_pages ++ pages) first ∙ sym (append_assoc reads.lent_pages (page ∷ []) new);
        data_alone = inr alone;
        needed = needed-more entries outcomes size before reads.lent_pages page reads.needed (subst N (sym reads.reached) need);
        reached = subst R (sym (after-more entries outcomes before reads.lent_pages page ∙ ap (λ s. after_page entries outcomes s page) reads.reached)) reaches;
        tells = tells;
        ticked = omega (arith, ticked, reads.ticked, length-append reads.lent_pages (page ∷ []));
        counted = counted ∙ ap (λ n. raised n 1) reads.counted ∙ sym (counted-more lent reads.lent_pages page);
      }

  -- no more page is lent
  no-more : {result : Option (Result X Error)} {old mid new : List Content} {causes : List Cause} {before now after : Standing} {steps steps_now steps_then lent lent_now lent_then : ℕ}
      → (reads : ReadsChunks shown entries outcomes most size None old mid causes before now steps steps_now lent lent_now) → new ≡ mid → steps_then ≡ steps_now → lent_then ≡ lent_now
      → Reaches shown result now after → IfFailed result (IsCausedByPages entries outcomes most size before reads.lent_pages new causes) → ReadsChunks shown entries outcomes most size result old new causes before after steps steps_then lent lent_then
  no-more {result = result} {after = after} reads same ticked counted reaches tells =
      let R : Standing → Type 0 = λ s. Reaches shown result s after in
      let A : List Content → Type 0 = λ pages. (reads.lent_pages ≡ []) ⊎ (list_all is_data pages ≡ true) in
      record {
        lent_pages = reads.lent_pages;
        split = reads.split ∙ ap (λ pages. reads.lent_pages ++ pages) (sym same);
        data_alone = subst A (sym same) reads.data_alone;
        needed = reads.needed;
        reached = subst R (sym reads.reached) reaches;
        tells = tells;
        ticked = ticked ∙ reads.ticked;
        counted = counted ∙ reads.counted;
      }

  pub reads-on : {result : Option (Result X Error)} {old mid new : List Content} {causes wrong wrong_now : List Cause} {before now reached after : Standing} {steps steps_now steps_then lent lent_now lent_then : ℕ} (needs : Type 0)
      → ReadsChunks shown entries outcomes most size None old mid causes before now steps steps_now lent lent_now → Moves needs mid new wrong wrong_now steps_now steps_then lent_now lent_then → Advances entries outcomes mid new now reached
      → (needs → IsNeeded size now) → Reaches shown result reached after → ((lent_pages : List Content) → IfFailed result (IsCausedByPages entries outcomes most size before lent_pages new causes)) → ReadsChunks shown entries outcomes most size result old new causes before after steps steps_then lent lent_then
  reads-on {result = result} {after = after} needs reads (Stays same causes ticked counted) (Rests still stands) need reaches tells =
      let R : Standing → Type 0 = λ s. Reaches shown result s after in no-more reads same ticked counted (subst R stands reaches) (tells reads.lent_pages)
  reads-on {new = new} needs reads (Stays same causes ticked counted) (Passes page first stands) need reaches tells = absurd (not_behind page new (same ∙ first))
  reads-on {new = new} needs reads (Opens own page lends ticked) (Rests still stands) need reaches tells = absurd (not_behind page new (still ∙ lends.first))
  reads-on {result = result} {after = after} needs reads (Opens own page lends ticked) (Passes found first stands) need reaches tells =
      let R : Standing → Type 0 = λ s. Reaches shown result s after in one-more found reads first lends.data_alone (need own) ticked lends.one_more (subst R stands reaches) (tells (reads.lent_pages ++ found ∷ []))
  reads-on {result = result} {after = after} needs reads (Ends own none over ticked counted) (Rests still stands) need reaches tells =
      let R : Standing → Type 0 = λ s. Reaches shown result s after in no-more reads still ticked counted (subst R stands reaches) (tells reads.lent_pages)
  reads-on needs reads (Ends own none over ticked counted) (Passes page first stands) need reaches tells = cc

  -- an error tells of the pages that were lent before it, too
  tells-all : {old mid : List Content} {causes : List Cause} {before now : Standing} {steps steps_now lent lent_now : ℕ} (new : List Content) (error : Error) (lent_pages : List Content) (reads : ReadsChunks shown entries outcomes most size None old mid causes before now steps steps_now lent lent_now)
      → IsCausedByPages entries outcomes most size now lent_pages new causes error → IsCausedByPages entries outcomes most size before (reads.lent_pages ++ lent_pages) new causes error
  tells-all {causes = causes} {before = before} new error lent_pages reads told =
      let P : List Outcome → Type 0 = λ rows. IsCausedByChunks most size rows error in
      subst P (sym (ap (λ s. still_wanted entries outcomes s lent_pages (causes_behind new causes)) reads.reached) ∙ still-pages entries outcomes before reads.lent_pages lent_pages (causes_behind new causes)) told

  reads-failed : {old mid new : List Content} {causes wrong wrong_now : List Cause} {before now after : Standing} {steps steps_now steps_then lent lent_now lent_then : ℕ} (needs : Type 0) (error : Error)
      → ReadsChunks shown entries outcomes most size None old mid causes before now steps steps_now lent lent_now → Moves needs mid new wrong wrong_now steps_now steps_then lent_now lent_then
      → (needs → IsNeeded size now) → FailsBy entries outcomes most size mid new causes now error → IsFinished after → ReadsChunks shown entries outcomes most size (Some (Err error)) old new causes before after steps steps_then lent lent_then
  reads-failed {new = new} {causes = causes} {before = before} {now = now} needs error reads (Stays same wrong ticked counted) need fails finished =
      let T : List Content → Type 0 = λ pages. IsCausedByPages entries outcomes most size now pages new causes error in
      let none = lent-none fails.lent_pages new (same ∙ fails.split) in
      let all = tells-all new error [] reads (subst T none fails.tells) in
      let A : List Content → Type 0 = λ pages. IsCausedByPages entries outcomes most size before pages new causes error in
      no-more reads same ticked counted finished (subst A (append-nil reads.lent_pages) all)
  reads-failed {new = new} {causes = causes} {before = before} {now = now} needs error reads (Opens own page lends ticked) need fails finished =
      let T : List Content → Type 0 = λ pages. IsCausedByPages entries outcomes most size now pages new causes error in
      let one = lent-one page fails.lent_pages new (sym lends.first ∙ fails.split) in
      one-more page reads lends.first lends.data_alone (need own) ticked lends.one_more finished (tells-all new error (page ∷ []) reads (subst T one fails.tells))
  reads-failed {new = new} {causes = causes} {before = before} {now = now} needs error reads (Ends own none over ticked counted) need fails finished =
      let T : List Content → Type 0 = λ pages. IsCausedByPages entries outcomes most size now pages new causes error in
      let same = over.none ∙ sym none in
      let ended = lent-none fails.lent_pages new (same ∙ fails.split) in
      let all = tells-all new error [] reads (subst T ended fails.tells) in
      let A : List Content → Type 0 = λ pages. IsCausedByPages entries outcomes most size before pages new causes error in
      no-more reads same ticked counted finished (subst A (append-nil reads.lent_pages) all)

  -- where no rows came at first, none come now
  none-still : (lent_pages old mid : List Content) (causes : List Cause) (before now : Standing) → old ≡ lent_pages ++ mid → AreNeeded entries outcomes size before lent_pages → after_pages entries outcomes before lent_pages ≡ now → NoneComes before.remaining old causes → NoneComes now.remaining mid causes
  none-still [] old mid causes before now split needed reached none =
      let P : Standing → Type 0 = λ s. NoneComes s.remaining mid causes in
      let Q : List Content → Type 0 = λ pages. NoneComes before.remaining pages causes in
      subst P reached (subst Q split none)
  none-still (page ∷ lent_pages) old mid causes before now split needed reached (inl none) = absurd (omega (arith, none, needed.0.0))
  none-still (page ∷ lent_pages) old mid causes before now split needed reached (inr over) = let e : [] ≡ page ∷ (lent_pages ++ mid) = sym over.none ∙ split in cc

  none-awaited : (s : Standing) (pages : List Content) (causes : List Cause) → Awaits size s pages causes → NoneComes s.remaining pages causes → ⊥
  none-awaited s pages causes awaits (inl none) = omega (arith, none, awaits.0.0)
  none-awaited s pages causes awaits (inr over) = awaits.1 over

  -- where an error may come now, one could come at first
  pub awaited-first : (lent_pages old mid : List Content) (causes : List Cause) (before now : Standing) → old ≡ lent_pages ++ mid → AreNeeded entries outcomes size before lent_pages → after_pages entries outcomes before lent_pages ≡ now → Awaits size now mid causes → Awaits size before old causes
  awaited-first [] old mid causes before now split needed reached awaits =
      let P : Standing → Type 0 = λ s. Awaits size s mid causes in
      let Q : List Content → Type 0 = λ pages. Awaits size before pages causes in
      subst Q (sym split) (subst P (sym reached) awaits)
  awaited-first (page ∷ lent_pages) old mid causes before now split needed reached awaits = (needed.0, λ over. let e : [] ≡ page ∷ (lent_pages ++ mid) = sym over.none ∙ split in cc)

  pub reads-no_error : {old mid new : List Content} {causes : List Cause} {before now : Standing} {steps steps_now lent lent_now : ℕ} (error : Error) → ReadsChunks shown entries outcomes most size None old mid causes before now steps steps_now lent lent_now
      → FailsBy entries outcomes most size mid new causes now error → NoneComes before.remaining old causes → ⊥
  reads-no_error {old = old} {mid = mid} {causes = causes} {before = before} {now = now} error reads fails none = none-awaited now mid causes fails.awaited (none-still reads.lent_pages old mid causes before now reads.split reads.needed reads.reached none)

-- the first item of a queue was given
reaches-given : {Item Dict : Type 0} (shown : Item → List Cell) (dict_shown : Dict → List Cell) (item : Item) (items : List Item) (remaining : ℕ) (dict : Option Dict)
    → Reaches shown (Some (Ok item)) (standing shown dict_shown (item ∷ items) remaining dict) (standing shown dict_shown items remaining dict)
reaches-given shown dict_shown item items remaining dict =
    let e : map Given (shown item ++ joined (map shown items)) ≡ map Given (shown item) ++ map Given (joined (map shown items)) = map-append Given (shown item) (joined (map shown items)) in
    cc

-- the causes behind the last page stay the same where one more page is lent
pub moves-same : {needs : Type 0} {old new : List Content} {causes causes_now : List Cause} {steps steps_now lent lent_now : ℕ} → Moves needs old new causes causes_now steps steps_now lent lent_now → length new < length old → causes_now ≡ causes
moves-same (Stays same causes ticked counted) fewer = causes
moves-same (Opens own page lends ticked) fewer = lends.same
moves-same (Ends own none over ticked counted) fewer = absurd (omega (arith, fewer, ap length none))

-- ---- a chunk or an error is handed on

first-nil : {A : Type 0} (size : Option ℕ) → first_chunk {A = A} size [] ≡ []
first-nil None = refl
first-nil (Some zero) = refl
first-nil (Some (suc size)) = refl

no-chunk : {X : Type 0} (shown : X → List Cell) (size : Option ℕ) (old new : List Outcome) (item : X) → old ≡ [] → IsFirstChunk shown size old new item → ⊥
no-chunk shown size old new item none first =
    let e : map Given (shown item) ≡ [] = first.cells ∙ ap (first_chunk size) none ∙ first-nil size in
    let same : length (map Given (shown item)) ≡ length (shown item) = simp length-map in
    omega (arith, first.some, same, ap length e)

module _ {X Dict : Type 0} (shown : X → List Cell) (dict_shown : Dict → List Cell) (entries : DictContent → Result (List Cell) (List Cause)) (outcomes : Option (List Cell) → DataContent → List Outcome) (most size : Option ℕ) where
  pub gives-next : (chunk : Result X Error) (items items' : List X) (remaining remaining' : ℕ) (dict dict' : Option Dict) (before : Standing) (mid pages : List Content) (wrong causes : List Cause) (old : List Outcome)
      → items' ≡ (if is_ok chunk then items else []) → remaining' ≡ (if is_ok chunk then remaining else 0) → dict' ≡ (if is_ok chunk then dict else None) → still_wanted entries outcomes before mid wrong ≡ old
      → GivesChunk shown size (still_wanted entries outcomes before mid wrong) (still_wanted entries outcomes (standing shown dict_shown items remaining dict) pages causes) (next.Some chunk) → IfFault (next.Some chunk) (FailsBy entries outcomes most size mid pages wrong before)
      → GivesFirstChunk shown most size old (still_wanted entries outcomes (standing shown dict_shown items' remaining' dict') pages causes) (Some chunk)
  gives-next (Ok item) items items' remaining remaining' dict dict' before mid pages wrong causes old is left told same first cause =
      let P : List Outcome → Type 0 = λ xs. IsFirstChunk shown size xs (still_wanted entries outcomes (standing shown dict_shown items remaining dict) pages causes) item in
      rw (is, left, told) (subst P same first)
  gives-next (Err error) items items' remaining remaining' dict dict' before mid pages wrong causes old is left told same first cause =
      let P : List Outcome → Type 0 = λ xs. IsCausedByChunks most size xs error in
      (subst P same (fails-caused entries outcomes most size mid pages wrong before error cause), rw (is, left) refl)

  pub reads-next : {old mid new : List Content} {causes wrong wrong_now : List Cause} {before now : Standing} {steps steps_now steps_then lent lent_now lent_then : ℕ} (needs : Type 0) (chunk : Result X Error) (items items' : List X) (remaining remaining' : ℕ) (dict dict' : Option Dict)
      → items' ≡ (if is_ok chunk then items else []) → remaining' ≡ (if is_ok chunk then remaining else 0) → dict' ≡ (if is_ok chunk then dict else None)
      → ReadsChunks shown entries outcomes most size None old mid causes before now steps steps_now lent lent_now → Moves needs mid new wrong wrong_now steps_now steps_then lent_now lent_then
      → OnNoError (next.Some chunk) (Advances entries outcomes mid new now (standing shown dict_shown (front_of (next.Some chunk) ++ items) remaining dict)) → (needs → IsNeeded size now) → IfFault (next.Some chunk) (FailsBy entries outcomes most size mid new causes now)
      → ReadsChunks shown entries outcomes most size (Some chunk) old new causes before (standing shown dict_shown items' remaining' dict') steps steps_then lent lent_then
  reads-next needs (Ok item) items items' remaining remaining' dict dict' is left told reads moves advances need cause =
      rw (is, left, told) (reads-on shown entries outcomes most size needs reads moves advances need (reaches-given shown dict_shown item items remaining dict) (λ lent_pages. tt))
  reads-next needs (Err error) items items' remaining remaining' dict dict' is left told reads moves advances need cause =
      rw (is, left, told) (reads-failed shown entries outcomes most size needs error reads moves need cause (refl, refl))

  -- where no row is wanted and none comes, there is no chunk and no error
  pub none-next : {old mid : List Content} {causes : List Cause} {before now : Standing} {steps steps_now lent lent_now : ℕ} (chunk : Result X Error) (new : List Content) (others : List Outcome)
      → ReadsChunks shown entries outcomes most size None old mid causes before now steps steps_now lent lent_now → IfFault (next.Some chunk) (FailsBy entries outcomes most size mid new causes now) → GivesFirstChunk shown most size (still_wanted entries outcomes before old causes) others (Some chunk)
      → still_wanted entries outcomes before old causes ≡ [] → NoneComes before.remaining old causes → Some chunk ≡ None
  none-next {old = old} {causes = causes} {before = before} (Ok item) new others reads cause gives empty none = absurd (no-chunk shown size (still_wanted entries outcomes before old causes) others item empty gives)
  none-next (Err error) new others reads cause gives empty none = absurd (reads-no_error shown entries outcomes most size error reads cause none)

  pub failed-awaited : {old mid : List Content} {causes : List Cause} {before now : Standing} {steps steps_now lent lent_now : ℕ} (chunk : Result X Error) (new : List Content)
      → ReadsChunks shown entries outcomes most size None old mid causes before now steps steps_now lent lent_now → IfFault (next.Some chunk) (FailsBy entries outcomes most size mid new causes now) → IfFailed (Some chunk) (λ _. Awaits size before old causes)
  failed-awaited (Ok item) new reads cause = tt
  failed-awaited {old = old} {mid = mid} {causes = causes} {before = before} {now = now} (Err error) new reads cause =
      awaited-first shown entries outcomes most size reads.lent_pages old mid causes before now reads.split reads.needed reads.reached cause.awaited

  pub cut-next : (chunk : Result X Error) (items items' : List X) → items' ≡ (if is_ok chunk then items else []) → OnNoError (next.Some chunk) (IsCut size (map shown items)) → IsCut size (map shown items')
  cut-next (Ok item) items items' is cut = rw is cut
  cut-next (Err error) items items' is cut = rw is tt

pub own-next : {X : Type 0} (P : X → Type 0) (chunk : Result X Error) (items items' : List X) → items' ≡ (if is_ok chunk then items else []) → OnNoError (next.Some chunk) (All P items) → All P items'
own-next P (Ok item) items items' is own = rw is own
own-next P (Err error) items items' is own = let Q : List _ → Type 0 = λ xs. All P xs in subst Q (sym is) (λ n x h. absurd (omega (arith, h)))

pub own_dict-next : {X Dict : Type 0} (P : Dict → Type 0) (chunk : Result X Error) (dict dict' : Option Dict) → dict' ≡ (if is_ok chunk then dict else None) → OnNoError (next.Some chunk) (IfSome dict P) → IfSome dict' P
own_dict-next P (Ok item) dict dict' told own = rw told own
own_dict-next P (Err error) dict dict' told own = rw told tt

pub own_chunk-next : {X : Type 0} (P : X → Type 0) (chunk : Result X Error) → IfChunk (next.Some chunk) P → IfGiven (Some chunk) P
own_chunk-next P (Ok item) own = own
own_chunk-next P (Err error) own = tt

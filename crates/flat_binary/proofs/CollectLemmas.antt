-- The arrays of a column, collected one after another.
use Rattle.std.proofs.Common.{◌≡◌, ℕ, zero, suc, ◌+◌, ◌-◌, ◌*◌, ◌<◌, ◌≤◌, false, List, [], ◌∷◌, ◌++◌, length, map, take, drop, Option, Some, None, refl, sym, ap, ap₂, ◌∙◌, subst, inl, inr, arith, append-nil}
use Rattle.std.specs.Prelude.{if◌then◌else◌, sum_by, Result, Ok}
use Rattle.std.proofs.lemmas.Bool.{leb-false, true≢false}
use Rattle.std.proofs.lemmas.List.{drop-drop, length-append, length-map, length-take, take-append-drop}
use Rattle.columns_core.specs.Array.{cells, data_type_of}
use Rattle.columns_core.specs.Causes.{Cause, is_empty}
use Rattle.columns_core.specs.declared.array.Array.{Array}
use Rattle.columns_core.specs.declared.cell.Cell.{Cell}
use Rattle.columns_core.specs.declared.error.Error.{Error}
use Rattle.parquet_base.specs.Pieces.{cut}
use Rattle.parquet_meta.specs.Source.{raised}
use Rattle.parquet_page.specs.Content.{Content, DataContent, DictContent}
use Rattle.page_decoding.specs.Bytes.{IsCausedByChunks, SomePasses, chunk_at, fits_most, row_bytes}
use Rattle.page_decoding.specs.Chunks.{lent_more}
use Rattle.page_decoding.specs.Column.{entries_behind, page_rows, rows}
use Rattle.page_decoding.specs.Outcome.{Outcome, Given, IsCausedBy, causes_in}
use Rattle.page_decoding.specs.Queue.{IsChunkSize, first_chunk, later_chunks}
use Rattle.page_decoding.specs.Standing.{AreNeeded, NoneComes, Standing, after_page, after_pages, still_wanted}
use Rattle.page_decoding.proofs.CutLemmas.{cut-first}
use Rattle.page_decoding.proofs.NextLemmas.{causes_in-given, fewer-wanted, still-after}
use Rattle.page_decoding.proofs.RowLemmas.{causes_in-append, caused-right}
use Rattle.flat_values.specs.ColumnLeft.{ColumnLeft, Decoding, GivesColumn, wanted}
use Rattle.flat_binary.specs.PagesWanted.{pages_wanted}

-- ---- rows

split : {A : Type 0} (size : Option ℕ) (xs : List A) → first_chunk size xs ++ later_chunks size xs ≡ xs
split None xs = append-nil xs
split (Some size) xs = take-append-drop size xs

no-first : {A : Type 0} (size : ℕ) (xs : List A) → length xs ≡ 0 → 0 < length (take size xs) → ⊥
no-first size xs none long = omega (arith, none, long, length-take size xs)

cut-some : {A : Type 0} (size : Option ℕ) (xs : List A) → IsChunkSize size → 0 < length (first_chunk size xs) → cut size xs ≡ first_chunk size xs ∷ cut size (later_chunks size xs)
cut-some None [] some long = absurd (omega (arith, long))
cut-some (Some size) [] some long = absurd (no-first size [] refl long)
cut-some size (x ∷ xs) some long = cut-first size x xs some

no-bytes : (most : Option ℕ) → fits_most most (sum_by row_bytes []) ≡ false → ⊥
no-bytes None past = true≢false past
no-bytes (Some most) past = let zero-bytes : sum_by row_bytes [] ≡ 0 = refl in omega (arith, zero-bytes, leb-false (sum_by row_bytes []) most past)

-- The chunks of what is left are chunks of the whole.
passes-later : (most size : Option ℕ) (xs : List Outcome) → SomePasses most size (later_chunks size xs) → SomePasses most size xs
passes-later most None xs (k, past) = absurd (no-bytes most past)
passes-later most (Some size) xs (k, past) =
    let n : size + k * size ≡ suc k * size = omega arith in
    let same : chunk_at (Some size) k (drop size xs) ≡ chunk_at (Some size) (suc k) xs = ap (take size) (drop-drop (k * size) size xs ∙ ap (λ n. drop n xs) n) in
    let P : List Outcome → Type 0 = λ rows. fits_most most (sum_by row_bytes rows) ≡ false in
    (suc k, subst P same past)

caused-later : (most size : Option ℕ) (xs : List Outcome) (error : Error) → IsCausedByChunks most size (later_chunks size xs) error → IsCausedByChunks most size xs error
caused-later most size xs error (inl told) =
    let P : List Outcome → Type 0 = λ rows. IsCausedBy rows error in
    inl (subst P (split size xs) (caused-right (first_chunk size xs) (later_chunks size xs) error told))
caused-later most size xs error (inr (is, passes)) = inr (is, passes-later most size xs passes)

-- ---- pages

module _ (entries : DictContent → Result (List Cell) (List Cause)) (outcomes : Option (List Cell) → DataContent → List Outcome) where
  abbrev while_wanted : ℕ → List Content → List Content
  while_wanted zero pages = []
  while_wanted (suc more) pages = pages

  -- the pages that are still to be lent
  pub due : Standing → List Content → List Content
  due s [] = []
  due s (page ∷ pages) = while_wanted s.remaining (page ∷ due (after_page entries outcomes s page) pages)

  some-due : (remaining : ℕ) (pages : List Content) → 0 < remaining → while_wanted remaining pages ≡ pages
  some-due zero pages some = absurd (omega (arith, some))
  some-due (suc remaining) pages some = refl

  -- Which rows wait does not matter.
  due-same : (s t : Standing) (pages : List Content) → s.remaining ≡ t.remaining → s.dictionary ≡ t.dictionary → due s pages ≡ due t pages
  unfolding due
  due-same s t [] e f = refl
  due-same s t (page ∷ pages) e f =
      let rest = due-same (after_page entries outcomes s page) (after_page entries outcomes t page) pages
      (ap₂ (λ n found. if is_empty (causes_in (page_rows entries outcomes found page)) then n - length (page_rows entries outcomes found page) else 0) e f)
      (ap (λ found. entries_behind entries outcomes found page) f) in
      ap₂ (λ n others. while_wanted n (page ∷ others)) e rest

  due-split : (size : Option ℕ) (s : Standing) (lent pages : List Content) → AreNeeded entries outcomes size s lent → due s (lent ++ pages) ≡ lent ++ due (after_pages entries outcomes s lent) pages
  unfolding due
  due-split size s [] pages needed = refl
  due-split size s (page ∷ lent) pages needed =
      some-due s.remaining (page ∷ due (after_page entries outcomes s page) (lent ++ pages)) needed.0.0
      ∙ ap (λ others. page ∷ others) (due-split size (after_page entries outcomes s page) lent pages needed.1)

  none-due : (s : Standing) (pages : List Content) (causes : List Cause) → NoneComes s.remaining pages causes → due s pages ≡ []
  unfolding due
  none-due s [] causes none = refl
  none-due s (page ∷ pages) causes (inl done) = ap (λ n. while_wanted n (page ∷ due (after_page entries outcomes s page) pages)) done
  none-due s (page ∷ pages) causes (inr ended) = absurd (omega (arith, ap length ended.none))

  right-front : (xs ys : List Outcome) → causes_in (xs ++ ys) ≡ [] → causes_in xs ≡ []
  right-front xs ys right = first (causes_in xs) (causes_in ys) (sym (causes_in-append xs ys) ∙ right) where
    first : (a b : List Cause) → a ++ b ≡ [] → a ≡ []
    first [] b e = refl
    first (cause ∷ a) b e = cc

  right-behind : (xs ys : List Outcome) → causes_in (xs ++ ys) ≡ [] → causes_in ys ≡ []
  right-behind xs ys right = last (causes_in xs) (causes_in ys) (sym (causes_in-append xs ys) ∙ right) where
    last : (a b : List Cause) → a ++ b ≡ [] → b ≡ []
    last [] b e = e
    last (cause ∷ a) b e = cc

  -- Where nothing is wrong with the rows that are wanted, these are the pages of so many rows.
  due-wanted : (s : Standing) (pages : List Content) (causes : List Cause) → causes_in (still_wanted entries outcomes s pages causes) ≡ [] → due s pages ≡ pages_wanted entries outcomes s.dictionary s.remaining pages
  unfolding due
  due-wanted s [] causes right = no-page s.remaining where
    no-page : (n : ℕ) → [] ≡ pages_wanted entries outcomes s.dictionary n []
    no-page zero = refl
    no-page (suc n) = refl
  due-wanted s (page ∷ pages) causes right =
      let own = page_rows entries outcomes s.dictionary page in
      let after = after_page entries outcomes s page in
      let behind : causes_in (still_wanted entries outcomes after pages causes) ≡ [] = ap causes_in (still-after entries outcomes s page pages causes) ∙ right in
      let waits : causes_in (s.waiting ++ take s.remaining own) ≡ [] = right-front (s.waiting ++ take s.remaining own) (take after.remaining (rows entries outcomes after.dictionary pages causes)) behind in
      let fewer : s.remaining - length own ≡ after.remaining = fewer-wanted s.remaining own (right-behind s.waiting (take s.remaining own) waits) in
      let rest : due after pages ≡ pages_wanted entries outcomes (entries_behind entries outcomes s.dictionary page) (s.remaining - length own) pages = due-wanted after pages causes behind ∙ ap (λ n. pages_wanted entries outcomes after.dictionary n pages) (sym fewer) in
      first s.remaining (due after pages) rest where
        first : (n : ℕ) (others : List Content) → others ≡ pages_wanted entries outcomes (entries_behind entries outcomes s.dictionary page) (n - length (page_rows entries outcomes s.dictionary page)) pages
            → while_wanted n (page ∷ others) ≡ pages_wanted entries outcomes s.dictionary n (page ∷ pages)
        first zero others e = refl
        first (suc n) others e = ap (λ found. page ∷ found) e

-- of what is left of a column
abbrev pub pages_due : ColumnLeft → List Content
pages_due left = due left.decoding.entries left.decoding.outcomes left.standing left.pages

due-decoded : (s : Standing) (pages : List Content) (d e : Decoding) → d ≡ e → due d.entries d.outcomes s pages ≡ due e.entries e.outcomes s pages
due-decoded s pages d e is = ap (λ (found : Decoding). due found.entries found.outcomes s pages) is

raised-more : (lent more n : ℕ) → lent_more (lent_more lent more) n ≡ lent_more lent (more + n)
raised-more lent zero n = let e : n ≡ 0 + n = omega arith in ap (lent_more lent) e
raised-more lent (suc more) zero = let e : suc more ≡ suc more + 0 = omega arith in ap (lent_more lent) e
raised-more lent (suc more) (suc n) =
    let e : suc (more + suc n) ≡ suc more + suc n = omega arith in
    let same : raised (raised lent (suc more)) (suc n) ≡ raised lent (suc (more + suc n)) = omega arith in
    same ∙ ap (lent_more lent) e

-- what one array more changes
pub record Goes (old new : ColumnLeft) (array : Array) (steps steps_now : ℕ) : Type 0 where
  pub chunks : cut old.size (wanted old) ≡ map Given (cells array) ∷ cut new.size (wanted new)
  pub causes : causes_in (wanted new) ≡ causes_in (wanted old)
  pub caused : (error : Error) → IsCausedByChunks new.decoding.most_bytes new.size (wanted new) error → IsCausedByChunks old.decoding.most_bytes old.size (wanted old) error
  pub due_now : steps_now + length (pages_due new) ≡ steps + length (pages_due old)
  pub later : steps ≤ steps_now
  pub lent : (n : ℕ) (start : ℕ) → old.lent ≡ lent_more start n → new.lent ≡ lent_more start (n + (steps_now - steps))

pub array_goes : (old new : ColumnLeft) (array : Array) (steps steps_now : ℕ) (result : Option (Result Array Error)) → IsChunkSize old.size → result ≡ Some (Ok array) → GivesColumn data_type_of cells old result new steps steps_now → Goes old new array steps steps_now
array_goes old new array steps steps_now result some is given =
    let G : Option (Result Array Error) → Type 0 = λ found. GivesColumn data_type_of cells old found new steps steps_now in
    by (subst G is given) where
      by : GivesColumn data_type_of cells old (Some (Ok array)) new steps steps_now → Goes old new array steps steps_now
      by gives =
          let chunk = gives.chunk in
          let pages = gives.pages in
          let entries = old.decoding.entries in
          let outcomes = old.decoding.outcomes in
          let whole : wanted old ≡ map Given (cells array) ++ wanted new = sym (split old.size (wanted old)) ∙ ap₂ (λ xs ys. xs ++ ys) (sym chunk.cells) (sym chunk.others) in
          let long : 0 < length (first_chunk old.size (wanted old)) = omega (arith, chunk.some, length-map (cells array) Given, ap length chunk.cells) in
          let left : due entries outcomes old.standing old.pages ≡ pages.lent_pages ++ pages_due new =
          ap (due entries outcomes old.standing) pages.split
          ∙ due-split entries outcomes old.size old.standing pages.lent_pages new.pages pages.needed
          ∙ ap (λ rest. pages.lent_pages ++ rest)
          (due-same entries outcomes (after_pages entries outcomes old.standing pages.lent_pages) new.standing new.pages (ap (λ (s : Standing). s.remaining) pages.reached) (ap (λ (s : Standing). s.dictionary) pages.reached)
          ∙ due-decoded new.standing new.pages old.decoding new.decoding (sym gives.decoding)) in
          let C : Option ℕ → Type 0 = λ most. (size : Option ℕ) (error : Error) → size ≡ old.size → IsCausedByChunks most size (wanted new) error → IsCausedByChunks old.decoding.most_bytes old.size (wanted old) error in
          let here : C old.decoding.most_bytes = λ size error same told.
          let P : Option ℕ → Type 0 = λ size. IsCausedByChunks old.decoding.most_bytes size (wanted new) error in
          let Q : List Outcome → Type 0 = λ rows. IsCausedByChunks old.decoding.most_bytes old.size rows error in
          caused-later old.decoding.most_bytes old.size (wanted old) error (subst Q chunk.others (subst P same told)) in
          record {
            chunks = cut-some old.size (wanted old) some long ∙ ap₂ (λ xs ys. xs ∷ ys) (sym chunk.cells) (ap₂ (λ size rows. cut size rows) (sym gives.size) (sym chunk.others));
            causes = sym (ap causes_in whole ∙ causes_in-append (map Given (cells array)) (wanted new) ∙ ap (λ first. first ++ causes_in (wanted new)) (causes_in-given (cells array)));
            caused = λ error told. subst C (ap (λ (d : Decoding). d.most_bytes) (sym gives.decoding)) here new.size error gives.size told;
            due_now = omega (arith, pages.ticked, ap length left, length-append pages.lent_pages (pages_due new));
            later = omega (arith, pages.ticked);
            lent = λ n start is. let more : steps_now - steps ≡ length pages.lent_pages = omega (arith, pages.ticked) in
                pages.counted ∙ ap (λ lent. lent_more lent (length pages.lent_pages)) is ∙ raised-more start n (length pages.lent_pages) ∙ ap (λ m. lent_more start (n + m)) (sym more);
          }

-- what is left at the end
pub record Ends (old new : ColumnLeft) (steps steps_now : ℕ) : Type 0 where
  pub none : wanted old ≡ []
  pub due_now : steps_now ≡ steps + length (pages_due old)
  pub lent : (n : ℕ) (start : ℕ) → old.lent ≡ lent_more start n → new.lent ≡ lent_more start (n + (steps_now - steps))

pub column_ends : (old new : ColumnLeft) (steps steps_now : ℕ) (result : Option (Result Array Error)) → result ≡ None → GivesColumn data_type_of cells old result new steps steps_now → Ends old new steps steps_now
column_ends old new steps steps_now result is given =
    let G : Option (Result Array Error) → Type 0 = λ found. GivesColumn data_type_of cells old found new steps steps_now in
    by (subst G is given) where
      by : GivesColumn {X = Array} data_type_of cells old None new steps steps_now → Ends old new steps steps_now
      by gives =
          let pages = gives.pages in
          let entries = old.decoding.entries in
          let outcomes = old.decoding.outcomes in
          let left : due entries outcomes old.standing old.pages ≡ pages.lent_pages =
          ap (due entries outcomes old.standing) pages.split
          ∙ due-split entries outcomes old.size old.standing pages.lent_pages new.pages pages.needed
          ∙ ap (λ s. pages.lent_pages ++ due entries outcomes s new.pages) pages.reached
          ∙ ap (λ rest. pages.lent_pages ++ rest) (none-due entries outcomes new.standing new.pages new.causes gives.end)
          ∙ append-nil pages.lent_pages in
          record {
            none = gives.chunk.0;
            due_now = omega (arith, pages.ticked, ap length left);
            lent = λ n start is. let more : steps_now - steps ≡ length pages.lent_pages = omega (arith, pages.ticked) in
                pages.counted ∙ ap (λ lent. lent_more lent (length pages.lent_pages)) is ∙ raised-more start n (length pages.lent_pages) ∙ ap (λ m. lent_more start (n + m)) (sym more);
          }

pub wanted_pages : (left : ColumnLeft) → causes_in (wanted left) ≡ [] → length (pages_due left) ≡ length (pages_wanted left.decoding.entries left.decoding.outcomes left.standing.dictionary left.standing.remaining left.pages)
wanted_pages left right = ap length (due-wanted left.decoding.entries left.decoding.outcomes left.standing left.pages left.causes right)

-- Items written as a chunk, a page at a time.
use Rattle.std.proofs.Common.{◌≡◌, ℕ, ◌+◌, ◌-◌, ◌<◌, ◌≤◌, pos, List, [], ◌∷◌, ◌++◌, Option, Some, refl, sym, ap, ◌∙◌, arith, min, length, drop, map, append_assoc, append-nil, length-append}
use Rattle.std.specs.Prelude.{is_none, sum_by, ◌&&◌, Bool, true, false}
use Rattle.std.specs.List.{flat_map, list_all, slice_range}
use Rattle.std.proofs.lemmas.List.{drop_all}
use Rattle.std.proofs.lemmas.List.Sums.{sum_by-cons}
use Rattle.parquet_base.specs.Pieces.{cut}
use Rattle.parquet_meta.specs.ColumnIndex.{index_with}
use Rattle.parquet_page.specs.Stored.{Stored}
use Rattle.parquet_plain.specs.Bodies.{body_bytes}
use Rattle.parquet_plain.specs.Columns.{Written, nulls_of, written_chunk, written_page}
use Rattle.parquet_plain.specs.Description.{PlainChunk, PlainPage, chunk_bytes, greatest_of, index_of_chunk, least_of, locations_from, page_bytes, rows_of_chunk}
use Rattle.parquet_plain.specs.File.{chunk_index_bytes, chunk_locations_bytes}
use Rattle.parquet_plain.specs.Short.{are_short_indexes, is_short, is_short_page}
use Rattle.parquet_plain.specs.Structs.{column_index_bytes, offset_index_bytes, page_header_bytes}
use Rattle.parquet_plain.proofs.PieceLemmas.{cut-sum, next_rows}
use Rattle.parquet_plain.proofs.RowLemmas.{length-rows}
use Rattle.parquet_write.specs.Parts.{page_told, pages_told}
use Rattle.parquet_write.specs.Told.{greatest_told, index_told, is_null_page, least_told, location_told, nulls_told}
use Rattle.parquet_plain.specs.declared.ends.Ends.{Ends}
use Rattle.parquet_write.specs.declared.facts.ChunkFacts.{ChunkFacts}
use Rattle.parquet_write.specs.declared.facts.PageFacts.{PageFacts}

-- the pages of the rows that are left
abbrev pub pages_left : Written → List (Option Stored) → ℕ → List PlainPage
pages_left to items row = map (written_page to) (cut (Some to.page_rows) (drop row items))

all-pages : (to : Written) (items : List (Option Stored)) → pages_left to items 0 ≡ (written_chunk to items).pages
unfolding written_chunk
all-pages to items = refl

pub next-page : (to : Written) (items : List (Option Stored)) (row next : ℕ) → 0 < to.page_rows → row < length items → next ≡ row + min to.page_rows (length items - row) →
    pages_left to items row ≡ written_page to (slice_range items row next) ∷ pages_left to items next
next-page to items row next some lt e = ap (map (written_page to)) (next_rows to.page_rows row next items some lt e)

pub none-left : (to : Written) (items : List (Option Stored)) (row : ℕ) → length items ≤ row → pages_left to items row ≡ []
none-left to items row done = ap (λ (rest : List (Option Stored)). map (written_page to) (cut (Some to.page_rows) rest)) (drop_all row items done)

pub rows-of-page : (to : Written) (items : List (Option Stored)) → (written_page to items).rows ≡ length items
unfolding written_page
rows-of-page to items = refl

pub nulls-of-page : (to : Written) (items : List (Option Stored)) → (written_page to items).nulls ≡ nulls_of items
unfolding written_page
nulls-of-page to items = refl

abbrev pub body_of : Written → List (Option Stored) → List ℕ
body_of to items = body_bytes to.column.type.physical_type to.column.type.repetition items

pub body-of-page : (to : Written) (items : List (Option Stored)) → (written_page to items).body ≡ body_of to items
unfolding written_page
body-of-page to items = refl

pub page-is-written : (to : Written) (items : List (Option Stored)) (rows : ℕ) (body : List ℕ) → rows ≡ length items → body ≡ body_of to items → page_header_bytes rows (length body) ++ body ≡ page_bytes (written_page to items)
unfolding written_page page_bytes
page-is-written to items rows body many own =
    ap (λ (n : ℕ). page_header_bytes n (length body) ++ body) many ∙ ap (λ (bs : List ℕ). page_header_bytes (length items) (length bs) ++ bs) own

-- what is written, and the pages that are left, are the whole chunk
pub record IsPaging (to : Written) (items : List (Option Stored)) (old out : List ℕ) (facts : List PageFacts) (row : ℕ) : Type 0 where
  pub within : row ≤ length items
  pub same : out ++ flat_map page_bytes (pages_left to items row) ≡ old ++ flat_map page_bytes (pages_left to items 0)
  pub told : facts ++ pages_told (length out) row (pages_left to items row) ≡ pages_told (length old) 0 (pages_left to items 0)

pub paging_begins : (to : Written) (items : List (Option Stored)) (old : List ℕ) → IsPaging to items old old [] 0
paging_begins to items old = record { within = omega arith; same = refl; told = refl }

pub paging_goes_on : (to : Written) (items : List (Option Stored)) (old out : List ℕ) (facts : List PageFacts) (row next : ℕ) (then : List ℕ) (fact : PageFacts) →
    0 < to.page_rows → IsPaging to items old out facts row → row < length items → next ≡ row + min to.page_rows (length items - row) →
    then ≡ out ++ page_bytes (written_page to (slice_range items row next)) → fact ≡ page_told (length out) row (written_page to (slice_range items row next)) →
    IsPaging to items old then (facts ++ fact ∷ []) next
paging_goes_on to items old out facts row next then fact some is lt e written own =
    let page : PlainPage = written_page to (slice_range items row next) in
    let left : List PlainPage = pages_left to items next in
    let many : page.rows ≡ next - row = rows-of-page to (slice_range items row next) ∙ length-rows row next items (omega (arith, e)) in
    let behind : row + page.rows ≡ next = omega (arith, e, many) in
    let end : length then ≡ length out + length (page_bytes page) = ap length written ∙ length-append out (page_bytes page) in
    let all : pages_left to items row ≡ page ∷ left = next-page to items row next some lt e in
    record {
      within = omega (arith, e);
      same = ap (λ (bs : List ℕ). bs ++ flat_map page_bytes left) written ∙ append_assoc out (page_bytes page) (flat_map page_bytes left)
          ∙ ap (λ (pages : List PlainPage). out ++ flat_map page_bytes pages) (sym all) ∙ is.same;
      told = append_assoc facts (fact ∷ []) (pages_told (length then) next left)
          ∙ ap (λ (f : PageFacts). facts ++ f ∷ pages_told (length then) next left) own
          ∙ ap (λ (n : ℕ). facts ++ page_told (length out) row page ∷ pages_told n next left) end
          ∙ ap (λ (n : ℕ). facts ++ page_told (length out) row page ∷ pages_told (length out + length (page_bytes page)) n left) (sym behind)
          ∙ ap (λ (pages : List PlainPage). facts ++ pages_told (length out) row pages) (sym all) ∙ is.told;
    }

pub paging_ends : (to : Written) (items : List (Option Stored)) (old out : List ℕ) (facts : List PageFacts) (row : ℕ) → length items ≤ row → IsPaging to items old out facts row →
    (out ≡ old ++ chunk_bytes (written_chunk to items)) × (facts ≡ pages_told (length old) 0 (written_chunk to items).pages)
paging_ends to items old out facts row done is =
    let none = sym (none-left to items row done) in
    let all = all-pages to items in (
      sym (append-nil out) ∙ ap (λ (pages : List PlainPage). out ++ flat_map page_bytes pages) none ∙ is.same ∙ ap (λ (pages : List PlainPage). old ++ flat_map page_bytes pages) all,
      sym (append-nil facts) ∙ ap (λ (pages : List PlainPage). facts ++ pages_told (length out) row pages) none ∙ is.told ∙ ap (pages_told (length old) 0) all,
    )

-- ---- which pages are short

-- no page so far was too long: the pages that are left decide
pub record AreShort (to : Written) (items : List (Option Stored)) (row : ℕ) : Type 0 where
  pub same : list_all is_short_page (pages_left to items row) ≡ list_all is_short_page (written_chunk to items).pages

pub short_begins : (to : Written) (items : List (Option Stored)) → AreShort to items 0
short_begins to items = record { same = ap (list_all is_short_page) (all-pages to items) }

pub short_goes_on : (to : Written) (items : List (Option Stored)) (row next : ℕ) → 0 < to.page_rows → row < length items → next ≡ row + min to.page_rows (length items - row) →
    is_short_page (written_page to (slice_range items row next)) ≡ true → AreShort to items row → AreShort to items next
short_goes_on to items row next some lt e own are = record {
  same = sym (ap (list_all is_short_page) (next-page to items row next some lt e) ∙ ap (λ (b : Bool). b && list_all is_short_page (pages_left to items next)) own) ∙ are.same;
}

pub short_ends : (to : Written) (items : List (Option Stored)) (row : ℕ) → length items ≤ row → AreShort to items row → list_all is_short_page (written_chunk to items).pages ≡ true
short_ends to items row done are = sym are.same ∙ ap (list_all is_short_page) (none-left to items row done)

pub short_fails : (to : Written) (items : List (Option Stored)) (row next : ℕ) → 0 < to.page_rows → row < length items → next ≡ row + min to.page_rows (length items - row) →
    is_short_page (written_page to (slice_range items row next)) ≡ false → AreShort to items row → list_all is_short_page (written_chunk to items).pages ≡ false
short_fails to items row next some lt e own are =
    sym are.same ∙ ap (list_all is_short_page) (next-page to items row next some lt e) ∙ ap (λ (b : Bool). b && list_all is_short_page (pages_left to items next)) own

-- ---- what is told of pages

map-told : {X : Type 0} (f : PageFacts → X) (g : PlainPage → X) → ((start row : ℕ) (page : PlainPage) → f (page_told start row page) ≡ g page) →
    (start row : ℕ) (pages : List PlainPage) → map f (pages_told start row pages) ≡ map g pages
map-told f g same start row [] = refl
map-told {X = X} f g same start row (page ∷ pages) =
    ap (λ (x : X). x ∷ map f (pages_told (start + length (page_bytes page)) (row + page.rows) pages)) (same start row page)
    ∙ ap (λ (xs : List X). g page ∷ xs) (map-told f g same (start + length (page_bytes page)) (row + page.rows) pages)

index-told : (start : ℕ) (chunk : PlainChunk) → index_told (pages_told start 0 chunk.pages) ≡ index_of_chunk chunk
index-told start chunk =
    let pages : List PlainPage = chunk.pages in
    let facts : List PageFacts = pages_told start 0 pages in
    let nulls = map-told is_null_page (λ (page : PlainPage). is_none page.ends) (λ s r p. refl) start 0 pages in
    let least = map-told least_told (λ (page : PlainPage). least_of page.ends) (λ s r p. refl) start 0 pages in
    let greatest = map-told greatest_told (λ (page : PlainPage). greatest_of page.ends) (λ s r p. refl) start 0 pages in
    let counts = map-told nulls_told (λ (page : PlainPage). pos page.nulls) (λ s r p. refl) start 0 pages in
    ap (λ xs. index_with xs (map least_told facts) (map greatest_told facts) (Some (map nulls_told facts))) nulls
    ∙ ap (λ xs. index_with (map (λ (page : PlainPage). is_none page.ends) pages) xs (map greatest_told facts) (Some (map nulls_told facts))) least
    ∙ ap (λ xs. index_with (map (λ (page : PlainPage). is_none page.ends) pages) (map (λ (page : PlainPage). least_of page.ends) pages) xs (Some (map nulls_told facts))) greatest
    ∙ ap (λ xs. index_with (map (λ (page : PlainPage). is_none page.ends) pages) (map (λ (page : PlainPage). least_of page.ends) pages) (map (λ (page : PlainPage). greatest_of page.ends) pages) (Some xs)) counts

locations-told : (start row : ℕ) (pages : List PlainPage) → map location_told (pages_told start row pages) ≡ locations_from start row pages
locations-told start row [] = refl
locations-told start row (page ∷ pages) = ap (λ others. location_told (page_told start row page) ∷ others) (locations-told (start + length (page_bytes page)) (row + page.rows) pages)

rows-of : (to : Written) (parts : List (List (Option Stored))) → sum_by (λ (page : PlainPage). page.rows) (map (written_page to) parts) ≡ sum_by length parts
unfolding written_page
rows-of to [] = refl
rows-of to (items ∷ parts) =
    omega (arith, rows-of to parts, sum_by-cons (λ (page : PlainPage). page.rows) (written_page to items) (map (written_page to) parts), sum_by-cons {X = List (Option Stored)} length items parts)

pub rows_of_chunk-is : (to : Written) (items : List (Option Stored)) → 0 < to.page_rows → rows_of_chunk (written_chunk to items) ≡ length items
unfolding written_chunk
rows_of_chunk-is to items some = rows-of to (cut (Some to.page_rows) items) ∙ cut-sum to.page_rows items some

-- the indexes of a chunk, from what is told of its pages
pub index-written : (start : ℕ) (chunk : PlainChunk) (pages : List PageFacts) → pages ≡ pages_told start 0 chunk.pages → column_index_bytes (index_told pages) ≡ chunk_index_bytes chunk
index-written start chunk pages e = ap (λ (told : List PageFacts). column_index_bytes (index_told told)) e ∙ ap column_index_bytes (index-told start chunk)

pub locations-written : (start : ℕ) (chunk : PlainChunk) (pages : List PageFacts) → pages ≡ pages_told start 0 chunk.pages → offset_index_bytes (map location_told pages) ≡ chunk_locations_bytes start chunk
locations-written start chunk pages e = ap (λ (told : List PageFacts). offset_index_bytes (map location_told told)) e ∙ ap offset_index_bytes (locations-told start 0 chunk.pages)

pub indexes-short : (start : ℕ) (chunk : PlainChunk) (pages : List PageFacts) → pages ≡ pages_told start 0 chunk.pages →
    are_short_indexes start chunk ≡ (is_short (length (column_index_bytes (index_told pages))) && is_short (length (offset_index_bytes (map location_told pages))))
indexes-short start chunk pages e =
    ap (λ (bs : List ℕ). is_short (length bs) && is_short (length (chunk_locations_bytes start chunk))) (sym (index-written start chunk pages e))
    ∙ ap (λ (bs : List ℕ). is_short (length (column_index_bytes (index_told pages))) && is_short (length bs)) (sym (locations-written start chunk pages e))

-- ---- equal parts make equal facts

pub page_alike : {offset offset' size size' row nulls nulls' : ℕ} {ends ends' : Option Ends} → offset ≡ offset' → size ≡ size' → nulls ≡ nulls' → ends ≡ ends' →
    ◌≡◌ {A = PageFacts} record { offset = offset; size = size; first_row = row; nulls = nulls; ends = ends } record { offset = offset'; size = size'; first_row = row; nulls = nulls'; ends = ends' }
page_alike a b d e = cc

pub told_alike : {start start' size size' rows rows' nulls nulls' index index' index_size index_size' locations locations' locations_size locations_size' : ℕ} {ends ends' : Option Ends} →
    start ≡ start' → size ≡ size' → rows ≡ rows' → nulls ≡ nulls' → ends ≡ ends' → index ≡ index' → index_size ≡ index_size' → locations ≡ locations' → locations_size ≡ locations_size' →
    ◌≡◌ {A = ChunkFacts} record { start = start; size = size; rows = rows; nulls = nulls; ends = ends; index = index; index_size = index_size; locations = locations; locations_size = locations_size }
    record { start = start'; size = size'; rows = rows'; nulls = nulls'; ends = ends'; index = index'; index_size = index_size'; locations = locations'; locations_size = locations_size' }
told_alike a b d e f g h i j = cc

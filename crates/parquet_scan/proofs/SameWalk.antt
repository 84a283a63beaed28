-- Chunks that have the same bytes where they are looked at have the same pages.
use Rattle.std.proofs.Common.{◌≡◌, ℕ, zero, suc, ◌+◌, ◌-◌, ◌<◌, ◌≤◌, Bool, true, false, cond, List, [], ◌∷◌, ◌++◌, length, take, drop, Option, Some, None, refl, sym, subst, ◌∙◌, ap, arith, inl, inr}
use Rattle.std.specs.Prelude.{filter, find, flat_map, nat_le, option_and_then, sum_by, IfSome, if◌then◌else◌}
use Rattle.std.specs.Option.{option_map_or}
use Rattle.std.proofs.lemmas.Bool.{cases_lt, le-leb, leb-true}
use Rattle.std.proofs.lemmas.List.{drop-take, take-append-drop, take-take, take_all}
use Rattle.std.proofs.Math.Seq.{drop-append_seam, take-append_seam}
use Rattle.std.proofs.lemmas.List.Sums.{sum_by-cons}
use Rattle.parquet_base.specs.Reading.{◌>>=◌, given}
use Rattle.columns_core.specs.Causes.{ExternalFormat, unless}
use Rattle.columns_core.specs.declared.data_type.DataType.{DataType}
use Rattle.parquet_base.specs.Intervals.{holds}
use Rattle.parquet_base.proofs.SegmentLemmas.{holds_before}
use Rattle.parquet_meta.specs.declared.metadata.PrimitiveType.{PrimitiveType}
use Rattle.parquet_meta.specs.declared.page_header.PageKind.{PageKind}
use Rattle.parquet_meta.specs.declared.page_header.PageKind.TheVariants as kind
use Rattle.parquet_thrift.specs.Front.{IsAtFront}
use Rattle.parquet_page.specs.Chunk.{AnyPage, ChunkPage, DictionaryPage, NoDictionary, PlacedPage, PageWalk, chunk_dictionary, chunk_pages, as_data_header, data_page_at, dictionary_at, dictionary_page, dictionary_size, if_defined, page_at, pages_from, pages_of_chunk, placed_pages, walk_on}
use Rattle.parquet_page.specs.Content.{header_values}
use Rattle.parquet_page.proofs.AloneLemmas.{before_rest, data_front, dictionary_front, exact_read}
use Rattle.parquet_page.proofs.HeaderLemmas.{dictionary_measured}
use Rattle.parquet_page.proofs.RowSums.{page_values as values_of}
use Rattle.parquet_scan.specs.Causes.{begins_below, causes_of_data, causes_of_dictionary, causes_of_walk, rows_held}
use Rattle.parquet_scan.specs.Cells.{Reading, item_among, item_in, rows_of_placed}
use Rattle.parquet_scan.specs.LookedAt.{walked_length}
use Rattle.parquet_scan.proofs.CellLemmas.{opened_none, opened_pages, opened_placed, sum-placed}

abbrev pub page_size : ChunkPage → ℕ
page_size page = page.size

-- ---- lists that begin alike

pub shorter : (n m : ℕ) (first second : List ℕ) → n ≤ m → take m second ≡ take m first → take n second ≡ take n first
shorter n m first second less same = sym (take-take n m second less) ∙ ap (take n) same ∙ take-take n m first less

-- where one begins with some bytes, so does the other
pub begins_too : (front rest first second : List ℕ) → first ≡ front ++ rest → take (length front) second ≡ take (length front) first → second ≡ front ++ drop (length front) second
begins_too front rest first second whole same =
    sym (take-append-drop (length front) second)
    ∙ ap (λ start. start ++ drop (length front) second) (same ∙ ap (take (length front)) whole ∙ take-append_seam front rest)

pub behind_too : (n m : ℕ) (first second : List ℕ) → take (n + m) second ≡ take (n + m) first → take m (drop n second) ≡ take m (drop n first)
behind_too n m first second same = sym (drop-take n m second) ∙ ap (drop n) same ∙ drop-take n m first

-- ---- one page

same_data : (left : ℕ) (first second : List ℕ) (page : ChunkPage) (rest : List ℕ) → data_page_at left first ≡ Some (page, rest) → take page.size second ≡ take page.size first
    → data_page_at left second ≡ Some (page, drop page.size second)
same_data left first second page rest e same =
    let at = subst (λ (o : Option (ChunkPage × List ℕ)). IfSome o (IsAtFront (data_page_at left) 1 first)) e (data_front left first) in
    let size : page.size ≡ length at.front = (exact_read left first page rest e).1 ∙ before_rest at.front rest first at.whole in
    let begins = begins_too at.front rest first second at.whole (ap (λ n. take n second) (sym size) ∙ same ∙ ap (λ n. take n first) size) in
    ap (data_page_at left) begins ∙ at.same (drop (length at.front) second) ∙ ap (λ n. Some (page, drop n second)) (sym size)

rest_is : (left : ℕ) (first : List ℕ) (page : ChunkPage) (rest : List ℕ) → data_page_at left first ≡ Some (page, rest) → rest ≡ drop page.size first
rest_is left first page rest e =
    let at = subst (λ (o : Option (ChunkPage × List ℕ)). IfSome o (IsAtFront (data_page_at left) 1 first)) e (data_front left first) in
    let size : page.size ≡ length at.front = (exact_read left first page rest e).1 ∙ before_rest at.front rest first at.whole in
    sym (drop-append_seam at.front rest) ∙ ap (drop (length at.front)) (sym at.whole) ∙ ap (λ n. drop n first) (sym size)

pub same_dictionary : (first second : List ℕ) (page : DictionaryPage) (rest : List ℕ) → dictionary_at first ≡ Some (page, rest) → take page.size second ≡ take page.size first
    → dictionary_at second ≡ Some (page, drop page.size second)
same_dictionary first second page rest e same =
    let at = subst (λ (o : Option (DictionaryPage × List ℕ)). IfSome o (IsAtFront dictionary_at 1 first)) e (dictionary_front first) in
    let size : page.size ≡ length at.front = (dictionary_measured first (page, rest) e).size ∙ before_rest at.front rest first at.whole in
    let begins = begins_too at.front rest first second at.whole (ap (λ n. take n second) (sym size) ∙ same ∙ ap (λ n. take n first) size) in
    ap dictionary_at begins ∙ at.same (drop (length at.front) second) ∙ ap (λ n. Some (page, drop n second)) (sym size)

-- where a data page stands, no dictionary page does
abbrev as_data : ℕ → List ℕ → AnyPage × List ℕ → Option (ChunkPage × List ℕ)
as_data left bytes page = as_data_header page.0.kind >>= λ header. given (nat_le (header_values header) left) (record { size = length bytes - length page.1; header = header; body = page.0.body }, page.1)

abbrev as_dictionary : List ℕ → AnyPage × List ℕ → Option (DictionaryPage × List ℕ)
as_dictionary bytes page = dictionary_page (length bytes - length page.1) page.0.kind page.0.body >>= λ dictionary. Some (dictionary, page.1)

no_dictionary : (left : ℕ) (bytes : List ℕ) (read : ChunkPage × List ℕ) → data_page_at left bytes ≡ Some read → dictionary_at bytes ≡ None
unfolding data_page_at dictionary_at
no_dictionary left bytes read e = by (page_at bytes) e where
  of_kind : (page_kind : PageKind) (body rest : List ℕ) → as_data left bytes (record { kind = page_kind; body = body }, rest) ≡ Some read → as_dictionary bytes (record { kind = page_kind; body = body }, rest) ≡ None
  of_kind (kind.Data header) body rest e = refl
  of_kind (kind.Dictionary values encoding) body rest e = absurd cc

  by : (o : Option (AnyPage × List ℕ)) → (o >>= as_data left bytes) ≡ Some read → (o >>= as_dictionary bytes) ≡ None
  by None e = refl
  by (Some page) e = of_kind page.0.kind page.0.body page.1 e

-- ---- the pages that are opened for the first rows

-- they hold these rows, if all pages do, and no more than all pages
opened_hold : (wanted : ℕ) (pages : List ChunkPage) → wanted ≤ sum_by values_of pages → wanted ≤ sum_by values_of (opened_pages wanted pages)
opened_hold zero pages held = omega arith
opened_hold (suc more) [] held = held
opened_hold (suc more) (page ∷ pages) held =
    let left = suc more - header_values page.header in
    omega (arith, opened_hold left pages (omega (arith, held, sum_by-cons values_of page pages)), sum_by-cons values_of page (opened_pages left pages))

opened_fewer : (wanted : ℕ) (pages : List ChunkPage) → sum_by values_of (opened_pages wanted pages) ≤ sum_by values_of pages
opened_fewer zero pages = omega arith
opened_fewer (suc more) [] = omega arith
opened_fewer (suc more) (page ∷ pages) =
    let left = suc more - header_values page.header in
    omega (arith, opened_fewer left pages, sum_by-cons values_of page pages, sum_by-cons values_of page (opened_pages left pages))

-- the rows of a placed page
abbrev rows_hold : ℕ → PlacedPage → Bool
rows_hold row placed = holds (rows_of_placed placed) row

none_behind : (start first row : ℕ) (pages : List ChunkPage) → row < first → find (rows_hold row) (placed_pages start first pages) ≡ None
none_behind start first row [] low = refl
none_behind start first row (page ∷ pages) low =
    let placed : PlacedPage = record { start = start; first_row = first; page = page } in
    let others = placed_pages (start + page.size) (first + header_values page.header) pages in
    ap (λ b. cond b (Some placed) (find (rows_hold row) others)) (holds_before (rows_of_placed placed) row low)
    ∙ none_behind (start + page.size) (first + header_values page.header) row pages (omega (arith, low))

-- a row below the last stands in one of them
found_opened : (n start first row : ℕ) (pages : List ChunkPage) → row < n → find (rows_hold row) (placed_pages start first pages) ≡ find (rows_hold row) (placed_pages start first (opened_pages (n - first) pages))
found_opened n start first row [] low = ap (λ pages. find (rows_hold row) (placed_pages start first pages)) (sym (opened_none (n - first)))
found_opened n start first row (page ∷ pages) low = elim (cases_lt first n) [
  | inl below ↦ (let left : n - first ≡ suc (n - first - 1) = omega (arith, below) in
      let behind : n - (first + header_values page.header) ≡ suc (n - first - 1) - header_values page.header = omega (arith, below) in
      ap (cond (rows_hold row placed) (Some placed)) (found_opened n (start + page.size) (first + header_values page.header) row pages low ∙ ap (λ m. find (rows_hold row) (placed_pages (start + page.size) (first + header_values page.header) (opened_pages m pages))) behind)
      ∙ sym (ap (λ m. find (rows_hold row) (placed_pages start first (opened_pages m (page ∷ pages)))) left))
  | inr past ↦ (let left : n - first ≡ 0 = omega (arith, past) in
      none_behind start first row (page ∷ pages) (omega (arith, low, past))
      ∙ sym (ap (λ m. find (rows_hold row) (placed_pages start first (opened_pages m (page ∷ pages)))) left))
] where
  placed : PlacedPage
  placed = record { start = start; first_row = first; page = page }

opened_from : (wanted limit left : ℕ) (first second : List ℕ) → wanted ≤ sum_by values_of (pages_from limit left first).pages
    → take (sum_by page_size (opened_pages wanted (pages_from limit left first).pages)) second ≡ take (sum_by page_size (opened_pages wanted (pages_from limit left first).pages)) first
    → opened_pages wanted (pages_from limit left second).pages ≡ opened_pages wanted (pages_from limit left first).pages
unfolding pages_from
opened_from zero limit left first second held same = refl
opened_from (suc more) zero zero first second held same = refl
opened_from (suc more) (suc limit) zero first second held same = refl
opened_from (suc more) zero (suc left) first second held same = refl
opened_from (suc more) (suc limit) (suc left) first second held same =
    go (data_page_at (suc left) first) (λ wanted values rest other. opened_from wanted limit (suc left - values) rest other) refl held same where
      further : ChunkPage → List ℕ → PageWalk
      further page rest = pages_from limit (suc left - header_values page.header) rest

      go : (o : Option (ChunkPage × List ℕ))
          → ((wanted values : ℕ) (rest other : List ℕ) → wanted ≤ sum_by values_of (pages_from limit (suc left - values) rest).pages
          → take (sum_by page_size (opened_pages wanted (pages_from limit (suc left - values) rest).pages)) other ≡ take (sum_by page_size (opened_pages wanted (pages_from limit (suc left - values) rest).pages)) rest
          → opened_pages wanted (pages_from limit (suc left - values) other).pages ≡ opened_pages wanted (pages_from limit (suc left - values) rest).pages)
          → data_page_at (suc left) first ≡ o → suc more ≤ sum_by values_of (walk_on o further).pages
          → take (sum_by page_size (opened_pages (suc more) (walk_on o further).pages)) second ≡ take (sum_by page_size (opened_pages (suc more) (walk_on o further).pages)) first
          → opened_pages (suc more) (walk_on (data_page_at (suc left) second) further).pages ≡ opened_pages (suc more) (walk_on o further).pages
      go None others_same e held same = absurd (omega (arith, held))
      go (Some read) others_same e held same =
          let page = read.0 in
          let rest = read.1 in
          let count = header_values page.header in
          let others = sum_by page_size (opened_pages (suc more - count) (further page rest).pages) in
          let sum = sum_by-cons page_size page (opened_pages (suc more - count) (further page rest).pages) in
          let alike : take (page.size + others) second ≡ take (page.size + others) first = ap (λ n. take n second) (sym sum) ∙ same ∙ ap (λ n. take n first) sum in
          let here = same_data (suc left) first second page rest e (shorter page.size (page.size + others) first second (omega arith) alike) in
          let behind : take others (drop page.size second) ≡ take others rest = behind_too page.size others first second alike ∙ ap (take others) (sym (rest_is (suc left) first page rest e)) in
          ap (λ o. opened_pages (suc more) (walk_on o further).pages) here
          ∙ ap (λ pages. page ∷ pages) (others_same (suc more - count) count rest (drop page.size second) (omega (arith, held, sum_by-cons values_of page (further page rest).pages)) behind)

-- ---- a chunk

-- how the pages of a chunk are read, over the dictionary that it begins with
abbrev pub over : PrimitiveType → DataType → List ℕ → Reading
over stored data_type chunk = record { stored = stored; dictionary = chunk_dictionary chunk; data_type = data_type }

-- the first rows of two chunks tell the same
pub record IsSameWalk (wanted count : ℕ) (first second : List ℕ) : Type 0 where
  pub causes : (stored : PrimitiveType) (data_type : DataType) → causes_of_walk (over stored data_type second) wanted (pages_of_chunk count second) ≡ causes_of_walk (over stored data_type first) wanted (pages_of_chunk count first)
  pub items : (stored : PrimitiveType) (data_type : DataType) (row : ℕ) → row < wanted
      → item_among (over stored data_type second) (pages_of_chunk count second) row ≡ item_among (over stored data_type first) (pages_of_chunk count first) row
  pub size : walked_length wanted count second ≡ walked_length wanted count first

-- chunks with the same dictionary and the same pages as far as they are opened
record IsAlike (wanted count : ℕ) (first second : List ℕ) : Type 0 where
  dictionary : chunk_dictionary second ≡ chunk_dictionary first
  size : dictionary_size second ≡ dictionary_size first
  opened : opened_pages wanted (chunk_pages count second).pages ≡ opened_pages wanted (chunk_pages count first).pages

module _ (more count : ℕ) (first second : List ℕ) (is : IsAlike (suc more) count first second) (held : suc more ≤ sum_by values_of (chunk_pages count first).pages) where
  held_too : suc more ≤ sum_by values_of (chunk_pages count second).pages
  held_too =
      omega (arith, opened_hold (suc more) (chunk_pages count first).pages held, opened_fewer (suc more) (chunk_pages count second).pages, ap (sum_by values_of) is.opened)

  fits : (chunk : List ℕ) → suc more ≤ sum_by values_of (chunk_pages count chunk).pages → nat_le (suc more) (rows_held (pages_of_chunk count chunk)) ≡ true
  fits chunk enough = le-leb (suc more) (rows_held (pages_of_chunk count chunk)) (omega (arith, enough, sum-placed (dictionary_size chunk) 0 (chunk_pages count chunk).pages))

  both_fit : nat_le (suc more) (rows_held (pages_of_chunk count second)) ≡ nat_le (suc more) (rows_held (pages_of_chunk count first))
  both_fit = fits second held_too ∙ sym (fits first held)

  all_rows : suc more - 0 ≡ suc more
  all_rows = omega arith

  in_places : (chunk : List ℕ) → filter (begins_below (suc more)) (pages_of_chunk count chunk) ≡ placed_pages (dictionary_size chunk) 0 (opened_pages (suc more) (chunk_pages count chunk).pages)
  in_places chunk =
      opened_placed (suc more) (dictionary_size chunk) 0 (chunk_pages count chunk).pages
      ∙ ap (λ n. placed_pages (dictionary_size chunk) 0 (opened_pages n (chunk_pages count chunk).pages)) all_rows

  same_opened : filter (begins_below (suc more)) (pages_of_chunk count second) ≡ filter (begins_below (suc more)) (pages_of_chunk count first)
  same_opened = in_places second ∙ (λ i. placed_pages (is.size i) 0 (is.opened i)) ∙ sym (in_places first)

  found_in : (chunk : List ℕ) (row : ℕ) → row < suc more → find (rows_hold row) (pages_of_chunk count chunk) ≡ find (rows_hold row) (placed_pages (dictionary_size chunk) 0 (opened_pages (suc more) (chunk_pages count chunk).pages))
  found_in chunk row low =
      found_opened (suc more) (dictionary_size chunk) 0 row (chunk_pages count chunk).pages low
      ∙ ap (λ n. find (rows_hold row) (placed_pages (dictionary_size chunk) 0 (opened_pages n (chunk_pages count chunk).pages))) all_rows

  same_found : (row : ℕ) → row < suc more → find (rows_hold row) (pages_of_chunk count second) ≡ find (rows_hold row) (pages_of_chunk count first)
  same_found row low = found_in second row low ∙ (λ i. find (rows_hold row) (placed_pages (is.size i) 0 (is.opened i))) ∙ sym (found_in first row low)

  alike : length second ≡ length first → IsSameWalk (suc more) count first second
  alike long = record {
    causes = λ stored data_type i.
        causes_of_dictionary (record { stored = stored; dictionary = is.dictionary i; data_type = data_type }) (is.dictionary i)
        ++ flat_map (λ (placed : PlacedPage). causes_of_data (record { stored = stored; dictionary = is.dictionary i; data_type = data_type }) placed.page) (same_opened i)
        ++ unless (both_fit i) ExternalFormat;
    items = λ stored data_type row low i. option_and_then (item_in (record { stored = stored; dictionary = is.dictionary i; data_type = data_type }) row) (same_found row low i);
    size = λ i. if both_fit i then is.size i + sum_by (λ (placed : PlacedPage). placed.page.size) (same_opened i) else long i;
  }

-- where rows stand behind a place, a data page does
begins : (more limit left : ℕ) (bytes : List ℕ) → suc more ≤ sum_by values_of (pages_from limit left bytes).pages
    → (read : ChunkPage × List ℕ) × (data_page_at left bytes ≡ Some read) × (read.0.size ≤ sum_by page_size (opened_pages (suc more) (pages_from limit left bytes).pages))
unfolding pages_from
begins more zero zero bytes held = absurd (omega (arith, held))
begins more (suc limit) zero bytes held = absurd (omega (arith, held))
begins more zero (suc left) bytes held = absurd (omega (arith, held))
begins more (suc limit) (suc left) bytes held = by (data_page_at (suc left) bytes) refl held where
  further : ChunkPage → List ℕ → PageWalk
  further page rest = pages_from limit (suc left - header_values page.header) rest

  by : (o : Option (ChunkPage × List ℕ)) → data_page_at (suc left) bytes ≡ o → suc more ≤ sum_by values_of (walk_on o further).pages
      → (read : ChunkPage × List ℕ) × (data_page_at (suc left) bytes ≡ Some read) × (read.0.size ≤ sum_by page_size (opened_pages (suc more) (walk_on o further).pages))
  by None e held = absurd (omega (arith, held))
  by (Some read) e held = (read, e, omega (arith, sum_by-cons page_size read.0 (opened_pages (suc more - header_values (read.0).header) (further read.0 read.1).pages)))

-- where the pages hold the rows, what stands behind those that are opened does not matter
opened_alike : (more count : ℕ) (first second : List ℕ) → length second ≡ length first → suc more ≤ sum_by values_of (chunk_pages count first).pages
    → take (dictionary_size first + sum_by page_size (opened_pages (suc more) (chunk_pages count first).pages)) second ≡ take (dictionary_size first + sum_by page_size (opened_pages (suc more) (chunk_pages count first).pages)) first
    → IsAlike (suc more) count first second
unfolding chunk_pages
opened_alike more count first second long held same = go (dictionary_at first) refl held same where
  size_of : Option (DictionaryPage × List ℕ) → ℕ
  size_of o = option_map_or (λ (read : DictionaryPage × List ℕ). read.0.size) o 0

  opened_behind : ℕ → List ℕ → List ℕ → List ChunkPage
  opened_behind size bytes chunk = opened_pages (suc more) (pages_from (length chunk) count (drop size bytes)).pages

  walk_same : (size : ℕ) → suc more ≤ sum_by values_of (pages_from (length first) count (drop size first)).pages
      → take (size + sum_by page_size (opened_behind size first first)) second ≡ take (size + sum_by page_size (opened_behind size first first)) first → opened_behind size second second ≡ opened_behind size first first
  walk_same size held same =
      ap (λ n. opened_pages (suc more) (pages_from n count (drop size second)).pages) long
      ∙ opened_from (suc more) (length first) count (drop size first) (drop size second) held (behind_too size (sum_by page_size (opened_behind size first first)) first second same)

  go : (o : Option (DictionaryPage × List ℕ)) → dictionary_at first ≡ o → suc more ≤ sum_by values_of (pages_from (length first) count (drop (size_of o) first)).pages
      → take (size_of o + sum_by page_size (opened_behind (size_of o) first first)) second ≡ take (size_of o + sum_by page_size (opened_behind (size_of o) first first)) first
      → IsAlike (suc more) count first second
  go (Some read) e held same =
      let here = same_dictionary first second read.0 read.1 e (shorter read.0.size (read.0.size + sum_by page_size (opened_behind read.0.size first first)) first second (omega arith) same) in
      record {
        dictionary = ap (λ o. if_defined o NoDictionary) (here ∙ ap (λ (rest : List ℕ). Some (read.0, rest)) refl) ∙ sym (ap (λ o. if_defined o NoDictionary) e);
        size = ap size_of here ∙ sym (ap size_of e);
        opened = ap (λ o. opened_behind (size_of o) second second) here ∙ walk_same read.0.size held same ∙ sym (ap (λ o. opened_behind (size_of o) first first) e);
      }
  go None e held same =
      let start = begins more (length first) count first held in
      let page = start.0 in
      let there = same_data count first second page.0 page.1 start.1 (shorter page.0.size (0 + sum_by page_size (opened_behind 0 first first)) first second (omega (arith, start.2)) same) in
      let here = no_dictionary count second (page.0, drop page.0.size second) there in
      record {
        dictionary = ap (λ o. if_defined o NoDictionary) here ∙ sym (ap (λ o. if_defined o NoDictionary) e);
        size = ap size_of here ∙ sym (ap size_of e);
        opened = ap (λ o. opened_behind (size_of o) second second) here ∙ walk_same 0 held same ∙ sym (ap (λ o. opened_behind (size_of o) first first) e);
      }

-- chunks that begin alike as far as they are opened for the first rows
pub walk_alike : (wanted count : ℕ) (first second : List ℕ) → length second ≡ length first → take (walked_length wanted count first) second ≡ take (walked_length wanted count first) first → IsSameWalk wanted count first second
walk_alike zero count first second long same = record {
  causes = λ stored data_type. refl;
  items = λ stored data_type row low. absurd (omega (arith, low));
  size = refl;
}
walk_alike (suc more) count first second long same = by (nat_le (suc more) (rows_held (pages_of_chunk count first))) refl same where
  opened_size : ℕ
  opened_size = sum_by (λ (placed : PlacedPage). placed.page.size) (filter (begins_below (suc more)) (pages_of_chunk count first))

  sizes : (start row : ℕ) (pages : List ChunkPage) → sum_by (λ (placed : PlacedPage). placed.page.size) (placed_pages start row pages) ≡ sum_by page_size pages
  sizes start row [] = refl
  sizes start row (page ∷ pages) =
      let placed : PlacedPage = record { start = start; first_row = row; page = page } in
      let others = placed_pages (start + page.size) (row + header_values page.header) pages in
      sum_by-cons (λ (placed : PlacedPage). placed.page.size) placed others ∙ ap (λ n. page.size + n) (sizes (start + page.size) (row + header_values page.header) pages) ∙ sym (sum_by-cons page_size page pages)

  by : (b : Bool) → nat_le (suc more) (rows_held (pages_of_chunk count first)) ≡ b
      → take (if b then dictionary_size first + opened_size else length first) second ≡ take (if b then dictionary_size first + opened_size else length first) first
      → IsSameWalk (suc more) count first second
  by true fit same =
      let held : suc more ≤ sum_by values_of (chunk_pages count first).pages = omega (arith, leb-true (suc more) (rows_held (pages_of_chunk count first)) fit, sum-placed (dictionary_size first) 0 (chunk_pages count first).pages) in
      let all : suc more - 0 ≡ suc more = omega arith in
      let size : opened_size ≡ sum_by page_size (opened_pages (suc more) (chunk_pages count first).pages)
      = ap (sum_by (λ (placed : PlacedPage). placed.page.size)) (opened_placed (suc more) (dictionary_size first) 0 (chunk_pages count first).pages)
      ∙ sizes (dictionary_size first) 0 (opened_pages (suc more - 0) (chunk_pages count first).pages)
      ∙ ap (λ n. sum_by page_size (opened_pages n (chunk_pages count first).pages)) all in
      alike more count first second (opened_alike more count first second long held (subst (λ n. take (dictionary_size first + n) second ≡ take (dictionary_size first + n) first) size same)) held long
  by false part same =
      let equal : second ≡ first = sym (take_all (length first) second (omega (arith, long))) ∙ same ∙ take_all (length first) first (omega arith) in
      record {
        causes = λ stored data_type. ap (λ chunk. causes_of_walk (over stored data_type chunk) (suc more) (pages_of_chunk count chunk)) equal;
        items = λ stored data_type row low. ap (λ chunk. item_among (over stored data_type chunk) (pages_of_chunk count chunk) row) equal;
        size = ap (walked_length (suc more) count) equal;
      }

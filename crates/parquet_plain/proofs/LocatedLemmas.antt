-- Pages are found by the locations that are written of them.
use Rattle.std.proofs.Common.{◌≡◌, ℕ, ◌+◌, ◌-◌, ◌≤◌, true, List, [], ◌∷◌, ◌++◌, Some, refl, sym, ap, subst, ◌∙◌, arith, length, append_assoc, length-append}
use Rattle.std.specs.Prelude.{All, is_some}
use Rattle.std.specs.List.{flat_map, list_all}
use Rattle.std.proofs.lemmas.Bool.{le-leb}
use Rattle.std.proofs.lemmas.List.Elements.{All-head, All-tail}
use Rattle.std.proofs.lemmas.List.Folds.{list_all-append}
use Rattle.std.proofs.lemmas.List.Sums.{sum_by-cons}
use Rattle.std.proofs.Math.Seq.{take-append_seam, drop-append_seam}
use Rattle.parquet_page.specs.Located.{located_page}
use Rattle.parquet_page.specs.Locations.{page_intervals, has_shape, located, part_of}
use Rattle.parquet_plain.specs.Description.{PlainPage, page_bytes, locations_from, rows_of_pages}
use Rattle.parquet_plain.proofs.PageLemmas.{page_in-written}
use Rattle.parquet_plain.specs.Found.{AllLocated, chunk_page, intervals_from, location_at}
use Rattle.parquet_plain.specs.Fits.{FitsPage}

-- ---- a page by its place

located_page-written : (front rest : List ℕ) (page : PlainPage) → FitsPage page → located_page (front ++ (page_bytes page ++ rest)) (length front) (length (page_bytes page)) page.rows ≡ Some (chunk_page page)
unfolding located_page
located_page-written front rest page fits =
    let within : length front + length (page_bytes page) ≤ length (front ++ (page_bytes page ++ rest)) = omega (arith, length-append front (page_bytes page ++ rest), length-append (page_bytes page) rest) in
    let size : length front + length (page_bytes page) - length front ≡ length (page_bytes page) = omega arith in
    rw (le-leb (length front + length (page_bytes page)) (length (front ++ (page_bytes page ++ rest))) within, drop-append_seam front (page_bytes page ++ rest), size, take-append_seam (page_bytes page) rest)
    (page_in-written page fits)

pub located-written : (start : ℕ) (front rest : List ℕ) (page : PlainPage) (row : ℕ) → FitsPage page →
    located start (front ++ (page_bytes page ++ rest)) (location_at (start + length front) row page) page.rows ≡ Some (chunk_page page)
unfolding located
located-written start front rest page row fits =
    let place : start + length front - start ≡ length front = omega arith in
    rw (le-leb start (start + length front) (omega arith), place) (located_page-written front rest page fits)

-- ---- the rows of pages

pub page_intervals-written : (start row : ℕ) (pages : List PlainPage) → page_intervals (locations_from start row pages) (row + rows_of_pages pages) ≡ Some (intervals_from row pages)
unfolding page_intervals
page_intervals-written start row [] = refl
page_intervals-written start row (page ∷ []) =
    let long : row + (0 + page.rows) - row ≡ page.rows = omega arith in
    rw (le-leb row (row + (0 + page.rows)) (omega arith), long) refl
page_intervals-written start row (page ∷ next ∷ pages) =
    let long : row + page.rows - row ≡ page.rows = omega arith in
    let total : row + rows_of_pages (page ∷ next ∷ pages) ≡ row + page.rows + rows_of_pages (next ∷ pages) = omega (arith, sum_by-cons (λ (p : PlainPage). p.rows) page (next ∷ pages)) in
    let others : page_intervals (locations_from (start + length (page_bytes page)) (row + page.rows) (next ∷ pages)) (row + page.rows + rows_of_pages (next ∷ pages)) ≡ Some (intervals_from (row + page.rows) (next ∷ pages)) =
    page_intervals-written (start + length (page_bytes page)) (row + page.rows) (next ∷ pages) in
    rw (total, others, le-leb row (row + page.rows) (omega arith), long) refl

have_parts : (start row : ℕ) (pages : List PlainPage) → list_all (λ location. is_some (part_of location)) (locations_from start row pages) ≡ true
have_parts start row [] = refl
have_parts start row (page ∷ pages) =
    list_all-append (λ location. is_some (part_of location)) (location_at start row page ∷ []) (locations_from (start + length (page_bytes page)) (row + page.rows) pages)
    ∙ rw (have_parts (start + length (page_bytes page)) (row + page.rows) pages) refl

-- the locations have their shape, where there is a page
pub has_shape-written : (start : ℕ) (page : PlainPage) (pages : List PlainPage) → has_shape (locations_from start 0 (page ∷ pages)) (rows_of_pages (page ∷ pages)) ≡ true
has_shape-written start page pages =
    let none : rows_of_pages (page ∷ pages) ≡ 0 + rows_of_pages (page ∷ pages) = omega arith in
    let rows : page_intervals (locations_from start 0 (page ∷ pages)) (rows_of_pages (page ∷ pages)) ≡ Some (intervals_from 0 (page ∷ pages)) =
    ap (page_intervals (locations_from start 0 (page ∷ pages))) none ∙ page_intervals-written start 0 (page ∷ pages) in
    rw (rows, have_parts start 0 (page ∷ pages)) refl

pub all_located : (start row : ℕ) (front : List ℕ) (pages : List PlainPage) → All FitsPage pages → AllLocated start (front ++ flat_map page_bytes pages) (start + length front) row pages
all_located start row front [] all = tt
all_located start row front (page ∷ pages) all =
    let place : start + length front + length (page_bytes page) ≡ start + length (front ++ page_bytes page) = omega (arith, length-append front (page_bytes page)) in
    let rest : AllLocated start ((front ++ page_bytes page) ++ flat_map page_bytes pages) (start + length (front ++ page_bytes page)) (row + page.rows) pages =
    all_located start (row + page.rows) (front ++ page_bytes page) pages (All-tail FitsPage page pages all) in (
      located-written start front (flat_map page_bytes pages) page row (All-head FitsPage page pages all),
      subst (λ (n : ℕ). AllLocated start (front ++ (page_bytes page ++ flat_map page_bytes pages)) n (row + page.rows) pages) (sym place)
          (subst (λ (bs : List ℕ). AllLocated start bs (start + length (front ++ page_bytes page)) (row + page.rows) pages) (append_assoc front (page_bytes page) (flat_map page_bytes pages)) rest),
    )

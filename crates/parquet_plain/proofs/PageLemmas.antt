-- The pages of a chunk that is written are read again.
use Rattle.std.proofs.Common.{◌≡◌, ℕ, zero, suc, ◌+◌, ◌-◌, ◌<◌, ◌≤◌, pos, List, [], ◌∷◌, ◌++◌, Some, None, refl, sym, ap, ◌∙◌, arith, length, map, append_assoc, length-append, append-nil, eq-eqb}
use Rattle.std.specs.Prelude.{All, sum_by}
use Rattle.std.specs.List.{flat_map}
use Rattle.std.proofs.lemmas.Bool.{le-leb}
use Rattle.std.proofs.lemmas.List.Elements.{All-head, All-tail}
use Rattle.std.proofs.lemmas.List.Sums.{sum_by-cons}
use Rattle.std.proofs.Math.Seq.{take-append_seam, drop-append_seam}
use Rattle.parquet_thrift.specs.Values.{field_header, fields_within, value_within, value}
use Rattle.compact_write.specs.Written.{fields_bytes, field_header_bytes}
use Rattle.parquet_meta.specs.Meaning.{by_rule}
use Rattle.parquet_meta.specs.PageHeader.{page_header}
use Rattle.parquet_meta.specs.declared.metadata.PageLocation.{PageLocation}
use Rattle.parquet_meta.specs.declared.page_header.DataPageHeader.TheVariants.{V1}
use Rattle.parquet_meta.specs.declared.page_header.PageKind.TheVariants.{Data}
use Rattle.parquet_page.specs.Chunk.{PlacedPage, location_of_page, page_at, data_page_at, dictionary_at, chunk_dictionary, NoDictionary, pages_from, chunk_pages, placed_pages, pages_of_chunk}
use Rattle.parquet_page.specs.Content.{header_values}
use Rattle.parquet_page.specs.Located.{page_in}
use Rattle.parquet_plain.specs.Description.{PlainPage, page_bytes, locations_from, rows_of_pages}
use Rattle.parquet_plain.specs.Structs.{page_header_bytes}
use Rattle.parquet_plain.proofs.StructLemmas.{page_header-written}
use Rattle.parquet_plain.specs.Fits.{FitsPage}
use Rattle.parquet_plain.specs.Found.{chunk_page, whole_walk}

-- ---- a page

page_at-written : (page : PlainPage) (rest : List ℕ) → FitsPage page → page_at (page_bytes page ++ rest) ≡ Some (record { kind = Data (V1 page.rows (pos 0) (pos 3)); body = page.body }, rest)
unfolding page_at page_bytes
page_at-written page rest fits =
    let within : length page.body ≤ length (page.body ++ rest) = omega (arith, length-append page.body rest) in
    rw (
      append_assoc (page_header_bytes page.rows (length page.body)) page.body rest,
      page_header-written page.rows (length page.body) (page.body ++ rest) fits.few fits.short,
      le-leb (length page.body) (length (page.body ++ rest)) within,
      take-append_seam page.body rest,
      drop-append_seam page.body rest,
    ) refl

pub data_page_at-written : (left : ℕ) (page : PlainPage) (rest : List ℕ) → FitsPage page → page.rows ≤ left → data_page_at left (page_bytes page ++ rest) ≡ Some (chunk_page page, rest)
unfolding data_page_at
data_page_at-written left page rest fits le =
    let size : length (page_bytes page ++ rest) - length rest ≡ length (page_bytes page) = omega (arith, length-append (page_bytes page) rest) in
    rw (page_at-written page rest fits, le-leb page.rows left le, size) refl

-- a page is not a dictionary
no_dictionary : (pages : List PlainPage) → All FitsPage pages → dictionary_at (flat_map page_bytes pages) ≡ None
unfolding dictionary_at page_at page_header by_rule value value_within fields_within field_header
no_dictionary [] all = refl
no_dictionary (page ∷ pages) all = rw (page_at-written page (flat_map page_bytes pages) (All-head FitsPage page pages all)) refl

-- ---- the pages of a chunk

pub some_bytes : (page : PlainPage) → FitsPage page → 0 < length (page_bytes page)
unfolding page_bytes page_header_bytes fields_bytes field_header_bytes
some_bytes page fits = omega arith

first : (limit : ℕ) (page : PlainPage) (pages : List PlainPage) → FitsPage page → pages_from limit (sum_by (λ (p : PlainPage). p.rows) pages) (flat_map page_bytes pages) ≡ whole_walk pages →
    (left : ℕ) → left ≡ page.rows + sum_by (λ (p : PlainPage). p.rows) pages → pages_from (suc limit) left (page_bytes page ++ flat_map page_bytes pages) ≡ whole_walk (page ∷ pages)
unfolding pages_from
first limit page pages fits others zero e = absurd (omega (arith, fits.some))
first limit page pages fits others (suc left) e =
    let behind : suc left - page.rows ≡ sum_by (λ (p : PlainPage). p.rows) pages = omega arith in
    rw (data_page_at-written (suc left) page (flat_map page_bytes pages) fits (omega arith), behind, others) refl

pages_from-written : (limit : ℕ) (pages : List PlainPage) → All FitsPage pages → length pages ≤ limit → pages_from limit (sum_by (λ (page : PlainPage). page.rows) pages) (flat_map page_bytes pages) ≡ whole_walk pages
unfolding pages_from
pages_from-written limit [] all le = refl
pages_from-written zero (page ∷ pages) all le = absurd (omega arith)
pages_from-written (suc limit) (page ∷ pages) all le =
    first limit page pages (All-head FitsPage page pages all) (pages_from-written limit pages (All-tail FitsPage page pages all) (omega arith))
    (sum_by (λ (p : PlainPage). p.rows) (page ∷ pages)) (sum_by-cons (λ (p : PlainPage). p.rows) page pages)

few_pages : (pages : List PlainPage) → All FitsPage pages → length pages ≤ length (flat_map page_bytes pages)
few_pages [] all = omega arith
few_pages (page ∷ pages) all =
    omega (arith, length-append (page_bytes page) (flat_map page_bytes pages), some_bytes page (All-head FitsPage page pages all), few_pages pages (All-tail FitsPage page pages all))

-- the pages of a chunk
pub chunk_pages-written : (pages : List PlainPage) → All FitsPage pages → chunk_pages (rows_of_pages pages) (flat_map page_bytes pages) ≡ whole_walk pages
unfolding chunk_pages
chunk_pages-written pages all = rw (no_dictionary pages all) (pages_from-written (length (flat_map page_bytes pages)) pages all (few_pages pages all))

pub chunk_dictionary-written : (pages : List PlainPage) → All FitsPage pages → chunk_dictionary (flat_map page_bytes pages) ≡ NoDictionary
chunk_dictionary-written pages all = rw (no_dictionary pages all) refl

-- ---- counts and locations

-- the pages in their places
pub pages_of_chunk-written : (pages : List PlainPage) → All FitsPage pages → pages_of_chunk (rows_of_pages pages) (flat_map page_bytes pages) ≡ placed_pages 0 0 (map chunk_page pages)
pages_of_chunk-written pages all = rw (no_dictionary pages all, chunk_pages-written pages all) refl

-- the offset index says where they are
pub locations-true : (start at row : ℕ) (pages : List PlainPage) → map (location_of_page start) (placed_pages at row (map chunk_page pages)) ≡ locations_from (start + at) row pages
locations-true start at row [] = refl
locations-true start at row (page ∷ pages) =
    let place : start + (at + length (page_bytes page)) ≡ start + at + length (page_bytes page) = omega arith in
    ap (λ (others : List PageLocation). record { offset = pos (start + at); compressed_page_size = pos (length (page_bytes page)); first_row_index = pos row } ∷ others)
    (locations-true start (at + length (page_bytes page)) (row + page.rows) pages ∙ ap (λ (s : ℕ). locations_from s (row + page.rows) pages) place)

-- the pages hold all values
pub counts-true : (at row : ℕ) (pages : List PlainPage) → sum_by (λ (placed : PlacedPage). header_values placed.page.header) (placed_pages at row (map chunk_page pages)) ≡ rows_of_pages pages
counts-true at row [] = refl
counts-true at row (page ∷ pages) =
    sum_by-cons (λ (placed : PlacedPage). header_values placed.page.header) (record { start = at; first_row = row; page = chunk_page page }) (placed_pages (at + length (page_bytes page)) (row + page.rows) (map chunk_page pages))
    ∙ ap (λ (n : ℕ). page.rows + n) (counts-true (at + length (page_bytes page)) (row + page.rows) pages) ∙ sym (sum_by-cons (λ (p : PlainPage). p.rows) page pages)

-- the page that fills its part
pub page_in-written : (page : PlainPage) → FitsPage page → page_in (page_bytes page) page.rows ≡ Some (chunk_page page)
unfolding page_in
page_in-written page fits = rw (whole, eq-eqb page.rows page.rows refl) refl
  where
    whole : data_page_at page.rows (page_bytes page) ≡ Some (chunk_page page, [])
    whole = ap (data_page_at page.rows) (sym (append-nil (page_bytes page))) ∙ data_page_at-written page.rows page [] fits (omega arith)

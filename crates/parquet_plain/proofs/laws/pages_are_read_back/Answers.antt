use Rattle.std.proofs.Common.{◌≡◌, ℕ, ◌+◌, List, [], Some, ap, subst, ◌∙◌, arith, map}
use Rattle.std.specs.List.{flat_map}
use Rattle.std.specs.Prelude.{All, sum_by}
use Rattle.parquet_page.specs.Chunk.{PlacedPage, location_of_page, pages_of_chunk}
use Rattle.parquet_page.specs.Content.{header_values}
use Rattle.parquet_page.specs.Locations.{page_intervals}
use Rattle.parquet_plain.specs.Description.{PlainPage, locations_from, page_bytes, rows_of_pages}
use Rattle.parquet_plain.specs.Fits.{FitsPage}
use Rattle.parquet_plain.specs.Found.{AllLocated, intervals_from}
use Rattle.parquet_plain.proofs.LocatedLemmas.{all_located, has_shape-written, page_intervals-written}
use Rattle.parquet_plain.proofs.PageLemmas.{chunk_pages-written, chunk_dictionary-written, counts-true, locations-true, pages_of_chunk-written}
use Rattle.parquet_plain.proofs.laws.pages_are_read_back.Goals as goal

counts : (pages : List PlainPage) → All FitsPage pages → sum_by (λ (placed : PlacedPage). header_values placed.page.header) (pages_of_chunk (rows_of_pages pages) (flat_map page_bytes pages)) ≡ rows_of_pages pages
counts pages all = ap (sum_by (λ (placed : PlacedPage). header_values placed.page.header)) (pages_of_chunk-written pages all) ∙ counts-true 0 0 pages

places : (start : ℕ) (pages : List PlainPage) → All FitsPage pages → map (location_of_page start) (pages_of_chunk (rows_of_pages pages) (flat_map page_bytes pages)) ≡ locations_from start 0 pages
places start pages all =
    let here : start + 0 ≡ start = omega arith in
    ap (map (location_of_page start)) (pages_of_chunk-written pages all) ∙ locations-true start 0 0 pages ∙ ap (λ (n : ℕ). locations_from n 0 pages) here

rows : (start : ℕ) (pages : List PlainPage) → page_intervals (locations_from start 0 pages) (rows_of_pages pages) ≡ Some (intervals_from 0 pages)
rows start pages =
    let all : rows_of_pages pages ≡ 0 + rows_of_pages pages = omega arith in
    ap (page_intervals (locations_from start 0 pages)) all ∙ page_intervals-written start 0 pages

found : (start : ℕ) (pages : List PlainPage) → All FitsPage pages → AllLocated start (flat_map page_bytes pages) start 0 pages
found start pages all =
    let here : start + 0 ≡ start = omega arith in
    subst (λ (n : ℕ). AllLocated start (flat_map page_bytes pages) n 0 pages) here (all_located start 0 [] pages all)

pub returns : goal.returns
returns c = record { pages = chunk_pages-written; dictionary = chunk_dictionary-written; counts = counts; locations = places; shape = has_shape-written; rows = rows; located = found }

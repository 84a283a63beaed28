-- Pages with their selected rows, one after another.
use Rattle.std.proofs.Common.{◌≡◌, ℕ, ◌+◌, ◌<◌, ◌^◌, Bool, true, false, cond, List, [], ◌∷◌, length, take, drop, get_or, map, Option, Some, None, refl, sym, ap, ◌∙◌, arith}
use Rattle.std.specs.Prelude.{filter, nat_le, nat_lt, ◌&&◌, ◌==◌, not, slice_range, zip, unwrap_or, option_map}
use Rattle.std.specs.List.{list_all}
use Rattle.std.proofs.lemmas.Bool.{and_parts, and_from, eqb-true, le-leb}
use Rattle.std.proofs.lemmas.List.Sums.{sum_by-cons}
use Rattle.std.proofs.lemmas.List.{drop_more}
use Rattle.parquet_base.specs.Intervals.{is_well_shaped, row_count}
use Rattle.parquet_base.specs.declared.interval.Interval.{Interval}
use Rattle.parquet_base.specs.Reading.{given}
use Rattle.parquet_meta.specs.declared.metadata.PrimitiveType.{PrimitiveType}
use Rattle.parquet_page.specs.Lent.{are_well_shaped, first_start, is_wanted, lie_within, located_chunk, located_lent, located_parts, selected_count}
use Rattle.parquet_page.specs.Located.{dictionary_in, located_dictionary}
use Rattle.parquet_page.specs.Parts.{are_shaped, lent_left, parts_from, wanted_part, part_before}
use Rattle.parquet_page.specs.declared.page.FilteredPage.{FilteredPage}
use Rattle.parquet_page.specs.declared.parts.Parts.{Parts}
use Rattle.parquet_base.proofs.ShapeLemmas.{shape-count}
use Rattle.parquet_encoding.proofs.StepLemmas.{given_some}
use Rattle.parquet_page.proofs.PartLemmas.{before_within}

-- the wanted pages lie in a chunk of so many bytes, and so does the place where the first page begins
abbrev pub all_within : ℕ → ℕ → List FilteredPage → Bool
all_within size first entries = list_all (λ entry. nat_le (entry.start + entry.length) size && nat_le first size) (filter is_wanted entries)

-- ---- the wanted ones of pages

pub shaped_wanted : (entries : List FilteredPage) → are_shaped entries ≡ true → are_shaped (filter is_wanted entries) ≡ true
shaped_wanted [] e = refl
shaped_wanted (entry ∷ entries) e = go (is_wanted entry) (shaped_wanted entries (and_parts _ _ e).1) where
  go : (b : Bool) → are_shaped (filter is_wanted entries) ≡ true → are_shaped (cond b (entry ∷ filter is_wanted entries) (filter is_wanted entries)) ≡ true
  go true rest = and_from _ _ (and_parts _ _ e).0 rest
  go false rest = rest

not_false : (b : Bool) → not b ≡ false → b ≡ true
not_false true e = refl
not_false false e = absurd cc

no_rows : (entry : FilteredPage) → is_wanted entry ≡ false → row_count entry.selected_rows ≡ 0
no_rows entry e = go entry.selected_rows e where
  go : (rows : List Interval) → not (length rows == 0) ≡ false → row_count rows ≡ 0
  go [] e = refl
  go (run ∷ rows) e = let none = eqb-true (length (run ∷ rows)) 0 (not_false _ e) in absurd (omega (arith, none))

pub rows_wanted : (entries : List FilteredPage) → selected_count (filter is_wanted entries) ≡ selected_count entries
rows_wanted [] = refl
rows_wanted (entry ∷ entries) = go (is_wanted entry) refl (rows_wanted entries) where
  go : (b : Bool) → is_wanted entry ≡ b → selected_count (filter is_wanted entries) ≡ selected_count entries → selected_count (cond b (entry ∷ filter is_wanted entries) (filter is_wanted entries)) ≡ selected_count (entry ∷ entries)
  go true e rest = omega (arith, rest, sum_by-cons (λ other. row_count other.selected_rows) entry entries, sum_by-cons (λ other. row_count other.selected_rows) entry (filter is_wanted entries))
  go false e rest = omega (arith, rest, no_rows entry e, sum_by-cons (λ other. row_count other.selected_rows) entry entries)

-- ---- in a chunk

abbrev pub in_chunk : List ℕ → FilteredPage → FilteredPage × List ℕ
in_chunk bytes entry = (entry, slice_range bytes entry.start (entry.start + entry.length))

chunk_parts : (parts : Parts) (bytes : List ℕ) (k : ℕ) (entries : List FilteredPage) → ((k : ℕ) (entry : FilteredPage) → wanted_part parts k entry ≡ slice_range bytes entry.start (entry.start + entry.length))
    → parts_from parts k entries ≡ map (in_chunk bytes) entries
chunk_parts parts bytes k [] same = refl
chunk_parts parts bytes k (entry ∷ entries) same =
    ap (λ part. (entry, part) ∷ parts_from parts (k + 1) entries) (same k entry) ∙ ap (λ others. in_chunk bytes entry ∷ others) (chunk_parts parts bytes (k + 1) entries same)

same_first : (type : PrimitiveType) (bytes : List ℕ) (first : ℕ) (wanted : List FilteredPage) → list_all (λ entry. nat_le (entry.start + entry.length) (length bytes) && nat_le first (length bytes)) wanted ≡ true
    → located_lent type (dictionary_in (take first bytes)) (map (in_chunk bytes) wanted) ≡ located_lent type (located_dictionary bytes first) (map (in_chunk bytes) wanted)
unfolding located_lent
same_first type bytes first [] e = refl
same_first type bytes first (entry ∷ wanted) e =
    let within : nat_le first (length bytes) ≡ true = le-leb _ _ (before_within bytes first (entry ∷ wanted) (omega arith) e) in
    rw within refl

pub lends_chunk : (type : PrimitiveType) (parts : Parts) (bytes : List ℕ) (entries : List FilteredPage) → part_before parts ≡ take (first_start entries) bytes
    → ((k : ℕ) (entry : FilteredPage) → wanted_part parts k entry ≡ slice_range bytes entry.start (entry.start + entry.length))
    → lie_within (length bytes) entries ≡ true → lent_left type parts true 0 (filter is_wanted entries) ≡ located_chunk type bytes entries
lends_chunk type parts bytes entries before same e =
    ap (λ part. located_lent type (dictionary_in part) (parts_from parts 0 (filter is_wanted entries))) before
    ∙ ap (located_lent type (dictionary_in (take (first_start entries) bytes))) (chunk_parts parts bytes 0 (filter is_wanted entries) same)
    ∙ same_first type bytes (first_start entries) (filter is_wanted entries) e

-- ---- in parts

body_parts_from : (parts : Parts) (bodies : List (List ℕ)) (k : ℕ) (entries : List FilteredPage) → ((k : ℕ) (entry : FilteredPage) → wanted_part parts k entry ≡ get_or bodies k []) → k + length entries ≡ length bodies
    → parts_from parts k entries ≡ zip entries (drop k bodies)
body_parts_from parts bodies k [] same all = refl
body_parts_from parts bodies k (entry ∷ entries) same all =
    ap (λ part. (entry, part) ∷ parts_from parts (k + 1) entries) (same k entry)
    ∙ ap (λ others. (entry, get_or bodies k []) ∷ others) (body_parts_from parts bodies (k + 1) entries same (omega (arith, all)))
    ∙ ap (zip (entry ∷ entries)) (sym (drop_more bodies k [] (omega (arith, all))))

pub lends_parts : (type : PrimitiveType) (parts : Parts) (before : Option (List ℕ)) (bodies : List (List ℕ)) (entries : List FilteredPage) → part_before parts ≡ unwrap_or before []
    → ((k : ℕ) (entry : FilteredPage) → wanted_part parts k entry ≡ get_or bodies k []) → length (filter is_wanted entries) ≡ length bodies
    → lent_left type parts true 0 (filter is_wanted entries) ≡ located_parts type before entries bodies
lends_parts type parts before bodies entries first same all =
    ap (λ part. located_lent type (dictionary_in part) (parts_from parts 0 (filter is_wanted entries))) first
    ∙ ap (located_lent type (dictionary_in (unwrap_or before []))) (body_parts_from parts bodies 0 (filter is_wanted entries) same (omega (arith, all)))

-- ---- counts

pub rows_fit : (rows : List Interval) (num_rows : ℕ) → num_rows < 2 ^ 64 → is_well_shaped rows num_rows ≡ true → row_count rows < 2 ^ 64
rows_fit rows num_rows fits e = omega (arith, fits, shape-count 0 rows num_rows e)

pub is_counted : (entries : List FilteredPage) (count : ℕ) → are_shaped entries ≡ true → count ≡ selected_count entries → count < 2 ^ 64 → Some count ≡ given (are_well_shaped entries) (selected_count entries)
is_counted entries count shaped e fits =
    let few : nat_lt (selected_count entries) (2 ^ 64) ≡ true = le-leb _ _ (omega (arith, e, fits)) in
    rw (shaped, few) (ap Some e)

pub counted_some : (entries : List FilteredPage) (count : ℕ) → Some count ≡ given (are_well_shaped entries) (selected_count entries) → (are_shaped entries ≡ true) × (count ≡ selected_count entries)
counted_some entries count e = let told = given_some (are_well_shaped entries) (selected_count entries) count (sym e) in ((and_parts _ _ told.0).0, sym told.1)

-- what stands in for a part that is not there
pub or_nothing : {X : Type 0} (bytes : X → List ℕ) (o : Option X) (other : X) → bytes other ≡ [] → bytes (unwrap_or o other) ≡ unwrap_or (option_map bytes o) []
or_nothing bytes None other e = e
or_nothing bytes (Some part) other e = refl

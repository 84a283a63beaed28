-- Locations that have their shape.
use Rattle.std.proofs.Common.{◌≡◌, ℕ, true, false, List, [], ◌∷◌, ◌++◌, length, map, Option, Some, None, refl, sym, subst, ◌∙◌, ap, arith, inl, inr}
use Rattle.std.specs.Prelude.{is_some, unwrap_or, IfSome, Contains, Err}
use Rattle.std.specs.List.{list_all}
use Rattle.std.proofs.lemmas.Bool.{and_parts, eqb-true, le-leb}
use Rattle.columns_core.specs.Causes.{Cause, ExternalFormat, IsWantOfMemory, unless}
use Rattle.columns_core.specs.declared.error.Error.{Error}
use Rattle.parquet_base.specs.Reading.{◌>>=◌}
use Rattle.parquet_base.specs.Intervals.{AreAdjacent, is_well_shaped, overlaps}
use Rattle.parquet_base.specs.declared.interval.Interval.{Interval}
use Rattle.parquet_meta.specs.Indexes.{locations_of}
use Rattle.parquet_meta.specs.Lists.{all_of}
use Rattle.parquet_meta.specs.declared.metadata.ColumnChunkMetaData.{ColumnChunkMetaData}
use Rattle.parquet_meta.specs.declared.metadata.PageLocation.{PageLocation}
use Rattle.parquet_meta.specs.declared.metadata.Place.{Place}
use Rattle.parquet_meta.specs.declared.metadata.RowGroupMetaData.{RowGroupMetaData}
use Rattle.parquet_page.specs.Locations.{begin_in_time, begin_with_row_0, filtered_pages, has_shape, page_intervals, part_of, selected_pages}
use Rattle.columns_core.specs.Refusals.{IsDamaged, Refuses}
use Rattle.parquet_page.specs.declared.page.FilteredPage.{FilteredPage}
use Rattle.parquet_page.proofs.SelectionLemmas.{Covers, some, pages-cover}
use Rattle.parquet_scan.specs.Pages.{locations, locations_causes}
use Rattle.parquet_scan.proofs.ReadLemmas.{finds_fails, first_of}
use Rattle.parquet_meta.specs.Source.{Finds, IsReadFailure}
use Rattle.columns_core.specs.declared.error.Part.{Part}
use Rattle.columns_core.specs.declared.error.Error.TheVariants as error

-- ---- their rows

-- they have rows, one page behind the other from row 0 on, and parts
pub record HaveRows (locations : List PageLocation) (rows : ℕ) : Type 0 where
  pub first : Interval
  pub others : List Interval
  pub are : page_intervals locations rows ≡ Some (first ∷ others)
  pub from_0 : first.start ≡ 0
  pub adjacent : AreAdjacent 0 (first ∷ others) rows
  pub parts : list_all (λ location. is_some (part_of location)) locations ≡ true

adjacent_from : (locations : List PageLocation) (rows : ℕ) (page : Interval) (pages : List Interval) → Covers rows locations (page ∷ pages) → page.start ≡ 0 → AreAdjacent 0 (page ∷ pages) rows
adjacent_from [] rows page pages covered first = elim covered [ ]
adjacent_from (location ∷ locations) rows page pages (some start same adjacent) first = (first, adjacent.1)

pub have_rows : (locations : List PageLocation) (rows : ℕ) → has_shape locations rows ≡ true → HaveRows locations rows
have_rows locations rows shaped = by (page_intervals locations rows) refl (and_parts _ _ shaped).0 where
  by : (o : Option (List Interval)) → page_intervals locations rows ≡ o → begin_with_row_0 o ≡ true → HaveRows locations rows
  by None same begins = absurd cc
  by (Some []) same begins = absurd cc
  by (Some (page ∷ pages)) same begins = record {
    first = page;
    others = pages;
    are = same;
    from_0 = eqb-true page.start 0 begins;
    adjacent = adjacent_from locations rows page pages (pages-cover locations rows (page ∷ pages) same) (eqb-true page.start 0 begins);
    parts = (and_parts _ _ shaped).1;
  }

in_time : (first : Interval) (others intervals : List Interval) → first.start ≡ 0 → begin_in_time (first ∷ others) intervals ≡ true
in_time first others [] from_0 = refl
in_time first others (run ∷ intervals) from_0 = le-leb first.start run.start (omega (arith, from_0))

selects_pages : (intervals : List Interval) (locations : List PageLocation) (rows : ℕ) (pages : List Interval) → page_intervals locations rows ≡ Some pages → begin_in_time pages intervals ≡ true
    → selected_pages intervals locations rows ≡ filtered_pages intervals locations pages
unfolding selected_pages
selects_pages intervals locations rows pages e near = rw (e, near) refl

-- the selection of intervals is that of the pages
pub selection_is : (intervals : List Interval) (locations : List PageLocation) (rows : ℕ) (have : HaveRows locations rows) → selected_pages intervals locations rows ≡ filtered_pages intervals locations (have.first ∷ have.others)
selection_is intervals locations rows have = selects_pages intervals locations rows (have.first ∷ have.others) have.are (in_time have.first have.others intervals have.from_0)

some_entries : (intervals : List Interval) (locations : List PageLocation) (rows : List Interval) → list_all (λ location. is_some (part_of location)) locations ≡ true → is_some (filtered_pages intervals locations rows) ≡ true
unfolding filtered_pages
some_entries intervals [] rows parts = refl
some_entries intervals (location ∷ locations) [] parts = refl
some_entries intervals (location ∷ locations) (own ∷ rows) parts =
    let each = and_parts (is_some (part_of location)) (list_all (λ location. is_some (part_of location)) locations) parts in
    by (part_of location) (filtered_pages intervals locations rows) each.0 (some_entries intervals locations rows each.1) where
      by : (o : Option Place) (rest : Option (List FilteredPage)) → is_some o ≡ true → is_some rest ≡ true
          → is_some ((o >>= λ part. Some (record { start = part.offset; length = part.length; selected_rows = overlaps own intervals; num_rows = own.length })) >>= λ page. rest >>= λ pages. Some (page ∷ pages)) ≡ true
      by None rest there others = absurd cc
      by (Some part) None there others = absurd cc
      by (Some part) (Some pages) there others = refl

-- Nothing but memory is wanting for a selection.
pub selection_fails : (intervals : List Interval) (locations : List PageLocation) (rows : ℕ) (e : Error) → has_shape locations rows ≡ true → is_well_shaped intervals rows ≡ true
    → Refuses (is_well_shaped intervals rows) (selected_pages intervals locations rows) e → IsWantOfMemory e
selection_fails intervals locations rows e shape shaped refuses =
    let have = have_rows locations rows shape in
    damage (subst (λ b. Refuses b (selected_pages intervals locations rows) e) shaped refuses) where
      none_some : (o : Option (List FilteredPage)) → is_some o ≡ true → o ≡ None → ⊥
      none_some None there none = absurd cc
      none_some (Some pages) there none = cc

      damage : IsDamaged (selected_pages intervals locations rows) e → IsWantOfMemory e
      damage (inl memory) = memory
      damage (inr damaged) =
          let have = have_rows locations rows shape in
          absurd (none_some (filtered_pages intervals locations (have.first ∷ have.others)) (some_entries intervals locations (have.first ∷ have.others) have.parts) (sym (selection_is intervals locations rows have) ∙ damaged.1))

-- nor for their rows
pub rows_fail : (locations : List PageLocation) (rows : ℕ) (e : Error) → has_shape locations rows ≡ true → IsDamaged (page_intervals locations rows) e → IsWantOfMemory e
rows_fail locations rows e shape (inl memory) = memory
rows_fail locations rows e shape (inr damaged) = absurd (by (sym (have_rows locations rows shape).are ∙ damaged.1)) where
  by : {A : Type 0} {x : A} → Some x ≡ None → ⊥
  by e = cc

-- ---- of one column

-- the list of one column's locations
pub one_of : {A B : Type 0} (value : A → Option B) (x : A) → all_of value (x ∷ []) ≡ (value x >>= λ y. Some (y ∷ []))
unfolding all_of
one_of value x = refl

no_locations : (rows : ℕ) → has_shape [] rows ≡ false
unfolding page_intervals
no_locations rows = refl

-- where they are not spelled they have no shape
pub unspelled : (bytes : List ℕ) (group : RowGroupMetaData) (column : ColumnChunkMetaData) → all_of (locations_of bytes) (column ∷ []) ≡ None → Contains (locations_causes bytes group column) ExternalFormat
unspelled bytes group column none = first_of ExternalFormat (locations_causes bytes group column) (by (locations_of bytes column) (sym (one_of (locations_of bytes) column) ∙ none)) where
  by : (o : Option (List PageLocation)) → (o >>= λ y. Some (y ∷ [])) ≡ None → unless (has_shape (unwrap_or o []) group.num_rows) ExternalFormat ≡ ExternalFormat ∷ []
  by None none = ap (λ b. unless b ExternalFormat) (no_locations group.num_rows)
  by (Some list) none = absurd cc

-- what was read is the one list
pub read_one : {X : Type 0} (view : X → List PageLocation) (told : Option (List ℕ)) (column : ColumnChunkMetaData) (front : List X) (last : X)
    → IfSome told (λ bytes. all_of (locations_of bytes) (column ∷ []) ≡ Some (map view (front ++ last ∷ []))) → IfSome told (λ bytes. locations bytes column ≡ view last)
read_one view None column front last e = tt
read_one view (Some bytes) column front last e = by (locations_of bytes column) front (sym (one_of (locations_of bytes) column) ∙ e) where
  by : (o : Option (List PageLocation)) (front : List _) → (o >>= λ y. Some (y ∷ [])) ≡ Some (map view (front ++ last ∷ [])) → unwrap_or o [] ≡ view last
  by None front e = absurd cc
  by (Some list) [] e = cc
  by (Some list) (x ∷ []) e = absurd cc
  by (Some list) (x ∷ y ∷ front) e = absurd cc

pub read_none : {X : Type 0} (view : X → List PageLocation) (told : Option (List ℕ)) (column : ColumnChunkMetaData) (lists : List X) → lists ≡ []
    → IfSome told (λ bytes. all_of (locations_of bytes) (column ∷ []) ≡ Some (map view lists)) → IfSome told (λ bytes. ⊥)
read_none view None column lists none e = tt
read_none view (Some bytes) column lists none e = by (locations_of bytes column) (sym (one_of (locations_of bytes) column) ∙ e ∙ ap (λ found. Some (map view found)) none) where
  by : (o : Option (List PageLocation)) → (o >>= λ y. Some (y ∷ [])) ≡ Some [] → ⊥
  by None e = cc
  by (Some list) e = cc

pub not_shaped : (locations : List PageLocation) (rows : ℕ) → has_shape locations rows ≡ false → Contains (unless (has_shape locations rows) ExternalFormat) ExternalFormat
not_shaped locations rows e = first_of ExternalFormat (unless (has_shape locations rows) ExternalFormat) (ap (λ b. unless b ExternalFormat) e)

-- what is wrong with locations that were read
pub shape_told : (told : Option (List ℕ)) (group : RowGroupMetaData) (column : ColumnChunkMetaData) (list : List PageLocation) → IfSome told (λ bytes. locations bytes column ≡ list)
    → IfSome told (λ bytes. locations_causes bytes group column ≡ unless (has_shape list group.num_rows) ExternalFormat)
shape_told None group column list e = tt
shape_told (Some bytes) group column list e = ap (λ found. unless (has_shape found group.num_rows) ExternalFormat) e

pub shape_fine : (told : Option (List ℕ)) (group : RowGroupMetaData) (column : ColumnChunkMetaData) (list : List PageLocation) → IfSome told (λ bytes. locations bytes column ≡ list) → has_shape list group.num_rows ≡ true
    → IfSome told (λ bytes. locations_causes bytes group column ≡ [])
shape_fine None group column list e shape = tt
shape_fine (Some bytes) group column list e shape = ap (λ found. unless (has_shape found group.num_rows) ExternalFormat) e ∙ ap (λ b. unless b ExternalFormat) shape

-- locations that are not read
pub locations_fail : {X : Type 0} (view : X → List (List PageLocation)) (told : Option (List ℕ)) (before now : ℕ) (group : RowGroupMetaData) (column : ColumnChunkMetaData) (e : Error)
    → Finds view (λ file. all_of (locations_of file) (column ∷ [])) told before now (Err e) → IsReadFailure told before now (λ bytes. locations_causes bytes group column) e
locations_fail view told before now group column e finds =
    finds_fails view (λ file. all_of (locations_of file) (column ∷ [])) (λ bytes. locations_causes bytes group column) told before now (Err e) (λ bytes. unspelled bytes group column) finds

pub none_of : {X : Type 0} (xs : List X) → length xs ≡ 0 → xs ≡ []
none_of [] e = refl
none_of (x ∷ xs) e = absurd (omega (arith, e))

pub never_told : (told : Option (List ℕ)) (before now : ℕ) (whole : List ℕ → List Cause) (p : Part) → IfSome told (λ bytes. ⊥) → IsReadFailure told before now whole (error.ExternalFormat p)
never_told None before now whole p never = tt
never_told (Some bytes) before now whole p never = absurd never

-- ---- the pages of locations that have their shape

same_some : {A : Type 0} (x y : A) → Some x ≡ Some y → x ≡ y
same_some x y e = ap (λ o. unwrap_or o x) e

pub adjacent_pages : (locations : List PageLocation) (rows : ℕ) (pages : List Interval) → has_shape locations rows ≡ true → page_intervals locations rows ≡ Some pages → AreAdjacent 0 pages rows
adjacent_pages locations rows pages shape are =
    let have = have_rows locations rows shape in
    subst (λ pages. AreAdjacent 0 pages rows) (same_some (have.first ∷ have.others) pages (sym have.are ∙ are)) have.adjacent

-- The ends that the statistics and the column index of a plain chunk tell are those of its items.
use Rattle.std.proofs.Common.{◌≡◌, ℕ, pos, Bool, List, [], ◌∷◌, Option, Some, None, refl, map}
use Rattle.std.specs.Prelude.{All, is_none, option_map}
use Rattle.std.specs.Option.{option_map_or}
use Rattle.std.proofs.lemmas.List.Elements.{All-head, All-tail}
use Rattle.parquet_meta.specs.ColumnIndex.{index_with}
use Rattle.parquet_meta.specs.Records.{StoredIndex}
use Rattle.parquet_meta.specs.PageIndexes.{page_index, page_indexes, pages}
use Rattle.parquet_meta.specs.TypedStatistics.{ends_by, statistics_of}
use Rattle.parquet_meta.specs.declared.metadata.Ends.{Ends}
use Rattle.parquet_meta.specs.declared.metadata.PageIndex.{PageIndex}
use Rattle.parquet_meta.specs.declared.metadata.PhysicalType.{PhysicalType}
use Rattle.parquet_page.specs.Stored.{Stored}
use Rattle.column_ends.specs.Told.{stored_by, stored_ends, stored_page}
use Rattle.column_ends.specs.Converted.{counts_alone}
use Rattle.parquet_plain.specs.Bodies.{present}
use Rattle.parquet_plain.specs.Columns.{Written, end_bytes, ends_of, greatest, least, nulls_of, written_page}
use Rattle.parquet_plain.specs.Description.{PlainPage, greatest_of, least_of, statistics_from}

-- the least of some items, and the greatest
abbrev pub low_of : (Stored → Stored → Bool) → List Stored → Option Stored
low_of at_most [] = None
low_of at_most (item ∷ items) = Some (least at_most item items)

abbrev pub high_of : (Stored → Stored → Bool) → List Stored → Option Stored
high_of at_most [] = None
high_of at_most (item ∷ items) = Some (greatest at_most item items)

abbrev pub group_told : ℕ → (Stored → Stored → Bool) → List Stored → Ends Stored
group_told nulls at_most items = record { null_count = Some nulls; distinct_count = None; min_value = low_of at_most items; max_value = high_of at_most items }

abbrev pub page_told : (Stored → Stored → Bool) → List (Option Stored) → PageIndex Stored
page_told at_most items = record { min = low_of at_most (present items); max = high_of at_most (present items); null_count = Some (pos (nulls_of items)) }

-- the statistics of a type as they are told
abbrev pub told_of : PhysicalType → ℕ → (Stored → Stored → Bool) → List Stored → Option (Ends Stored)
told_of t nulls at_most items = option_map (λ told. option_map_or stored_ends told (counts_alone (None, None))) (statistics_of t (Some (statistics_from nulls (ends_of t at_most items))))

-- the column index of pages
abbrev pub index_of_pages : List PlainPage → StoredIndex
index_of_pages ps =
    index_with (map (λ (page : PlainPage). is_none page.ends) ps) (map (λ (page : PlainPage). least_of page.ends) ps) (map (λ (page : PlainPage). greatest_of page.ends) ps)
    (Some (map (λ (page : PlainPage). pos page.nulls) ps))

-- the least and the greatest are of the kind of the items
pub record AreEnds (P : Stored → Type 0) (at_most : Stored → Stored → Bool) : Type 0 where
  pub low : (item : Stored) (items : List Stored) → P item → All P items → P (least at_most item items)
  pub high : (item : Stored) (items : List Stored) → P item → All P items → P (greatest at_most item items)

-- an end that is read from the bytes of an item of the kind
pub record IsEndRead {A : Type 0} (end : List ℕ → Option A) (shown : A → Stored) (t : PhysicalType) (item : Stored) : Type 0 where
  pub own : A
  pub read : end (end_bytes t item) ≡ Some own
  pub same : shown own ≡ item

-- ---- by a way to read ends

module _ {A : Type 0} (end : List ℕ → Option A) (shown : A → Stored) (to : Written) (P : Stored → Type 0) (are : AreEnds P to.at_most) (reads : (item : Stored) → P item → IsEndRead end shown to.column.type.physical_type item) where
  -- the statistics of a group
  pub record AreTold (nulls : ℕ) (items : List Stored) : Type 0 where
    pub ends : Ends A
    pub told : ends_by end (statistics_from nulls (ends_of to.column.type.physical_type to.at_most items)) ≡ Some ends
    pub stored : stored_by shown ends ≡ group_told nulls to.at_most items

  pub statistics-told : (nulls : ℕ) (items : List Stored) → All P items → AreTold nulls items
  unfolding ends_by
  statistics-told nulls [] all = record { ends = record { null_count = Some nulls; distinct_count = None; min_value = None; max_value = None }; told = refl; stored = refl }
  statistics-told nulls (item ∷ items) all =
      let one : P item = All-head P item items all in
      let rest : All P items = All-tail P item items all in
      let low = reads (least to.at_most item items) (are.low item items one rest) in
      let high = reads (greatest to.at_most item items) (are.high item items one rest) in
      record {
        ends = record { null_count = Some nulls; distinct_count = None; min_value = Some low.own; max_value = Some high.own };
        told = rw (low.read, high.read) refl;
        stored = rw (low.same, high.same) refl;
      }

  -- the index of a page
  record IsPageTold (nulls : ℕ) (items : List Stored) : Type 0 where
    told : PageIndex A
    read : let ends = ends_of to.column.type.physical_type to.at_most items in page_index end (is_none ends) (least_of ends) (greatest_of ends) (Some (pos nulls)) ≡ Some told
    stored : stored_page shown told ≡ record { min = low_of to.at_most items; max = high_of to.at_most items; null_count = Some (pos nulls) }

  page-told : (nulls : ℕ) (items : List Stored) → All P items → IsPageTold nulls items
  page-told nulls [] all = record { told = record { min = None; max = None; null_count = Some (pos nulls) }; read = refl; stored = refl }
  page-told nulls (item ∷ items) all =
      let one : P item = All-head P item items all in
      let rest : All P items = All-tail P item items all in
      let low = reads (least to.at_most item items) (are.low item items one rest) in
      let high = reads (greatest to.at_most item items) (are.high item items one rest) in
      record { told = record { min = Some low.own; max = Some high.own; null_count = Some (pos nulls) }; read = rw (low.read, high.read) refl; stored = rw (low.same, high.same) refl }

  -- the index of all pages
  pub record AreAllTold (parts : List (List (Option Stored))) : Type 0 where
    pub told : List (PageIndex A)
    pub read : page_indexes end (index_of_pages (map (written_page to) parts)) ≡ Some told
    pub stored : map (stored_page shown) told ≡ map (page_told to.at_most) parts

  pub all-told : (parts : List (List (Option Stored))) → All (λ part. All P (present part)) parts → AreAllTold parts
  unfolding written_page page_indexes pages
  all-told [] all = record { told = []; read = refl; stored = refl }
  all-told (part ∷ parts) all =
      let one = page-told (nulls_of part) (present part) (All-head (λ p. All P (present p)) part parts all) in
      let others = all-told parts (All-tail (λ p. All P (present p)) part parts all) in
      record { told = one.told ∷ others.told; read = rw (one.read, others.read) refl; stored = rw (one.stored, others.stored) refl }

-- The statistics and the column index of a chunk of items of a kind: nothing is wrong with them, and what they tell are cells of the items.
use Rattle.std.proofs.Common.{◌≡◌, ℕ, ◌*◌, ◌≤◌, true, List, [], ◌∷◌, Option, Some, None, refl, ◌∙◌, arith, length, map}
use Rattle.std.specs.Prelude.{All, flat_map, option_map, sum_by}
use Rattle.std.specs.Option.{option_map_or}
use Rattle.std.proofs.lemmas.List.Elements.{All-head, All-tail}
use Rattle.std.proofs.lemmas.List.Sums.{sum_by-cons}
use Rattle.columns_core.specs.Types.{value_type}
use Rattle.columns_core.specs.declared.cell.Cell.{Cell}
use Rattle.columns_core.specs.declared.data_type.DataType.{DataType}
use Rattle.parquet_meta.specs.Indexes.{type_of}
use Rattle.parquet_meta.specs.PageIndexes.{typed_index}
use Rattle.parquet_meta.specs.TypedStatistics.{statistics_of}
use Rattle.parquet_meta.specs.declared.metadata.ColumnChunkMetaData.{ColumnChunkMetaData}
use Rattle.parquet_meta.specs.declared.metadata.Index.{Index}
use Rattle.parquet_page.specs.Stored.{Stored}
use Rattle.flat_values.specs.Conversion.{Conversion}
use Rattle.flat_values.specs.Sound.{is_stored_as}
use Rattle.column_ends.specs.Converted.{causes_of_index, causes_of_page, cell_ends, cell_page, bytes_of_one_end as cell_end_bytes, end_causes, end_cell, group_causes, group_cells, high_of_page, index_rule, low_of_page, statistics_rule, counts_alone, told_ends}
use Rattle.column_ends.specs.Told.{stored_ends, stored_pages}
use Rattle.parquet_plain.specs.Bodies.{present}
use Rattle.parquet_plain.specs.Columns.{Written, end_bytes, nulls_of, written_chunk, written_page}
use Rattle.parquet_plain.specs.Description.{descriptor_of}
use Rattle.parquet_plain.specs.File.{Starts, column_at}
use Rattle.sample_laws.proofs.EndLaws.{AreEnds, group_told, high_of, index_of_pages, low_of, page_told, told_of}
use Rattle.sample_laws.proofs.KindLaws.{IsKind}
use Rattle.sample_laws.proofs.PageLaws.{IsReadBy, most}

-- what the column index of pages tells
pub record IsIndexTold (to : Written) (parts : List (List (Option Stored))) : Type 0 where
  pub index : Index
  pub read : typed_index to.column.type.physical_type (index_of_pages (map (written_page to) parts)) ≡ Some index
  pub stored : stored_pages index ≡ map (page_told to.at_most) parts

-- The ends of a kind are stored, and read back.
pub record HasEnds (to : Written) (rule : Conversion) (P : Stored → Type 0) : Type 0 where
  pub are : AreEnds P to.at_most
  pub short : (s : Stored) → P s → length (end_bytes to.column.type.physical_type s) ≤ most
  pub stored : (s : Stored) → P s → is_stored_as to.column.type.physical_type s ≡ true
  pub by_rule : (column : ColumnChunkMetaData) → told_ends rule column ≡ option_map (λ told. option_map_or stored_ends told (counts_alone (None, None))) (statistics_of (type_of column) column.statistics_bytes)
  pub statistics : (nulls : ℕ) (items : List Stored) → All P items → told_of to.column.type.physical_type nulls to.at_most items ≡ Some (group_told nulls to.at_most items)
  pub index : (parts : List (List (Option Stored))) → All (λ part. All P (present part)) parts → IsIndexTold to parts

-- the ends of a column are converted by its rule too
pub record IsEndedBy (to : Written) (data_type : DataType) (rule : Conversion) : Type 0 where
  pub own : value_type data_type ≡ data_type
  pub group : statistics_rule to.column.type data_type ≡ Some rule
  pub page : index_rule to.column.type data_type ≡ Some rule

-- an end, if there is one, is of the kind
abbrev pub IsEnd : (Stored → Type 0) → Option Stored → Type 0
IsEnd P None = Unit {0}
IsEnd P (Some s) = P s

module _ (to : Written) (rule : Conversion) (P : Stored → Type 0) (cell_of : Stored → Cell) (kind : IsKind to rule P cell_of) (ends : HasEnds to rule P) where
  pub low-is : (items : List Stored) → All P items → IsEnd P (low_of to.at_most items)
  low-is [] all = tt
  low-is (item ∷ items) all = ends.are.low item items (All-head P item items all) (All-tail P item items all)

  pub high-is : (items : List Stored) → All P items → IsEnd P (high_of to.at_most items)
  high-is [] all = tt
  high-is (item ∷ items) all = ends.are.high item items (All-head P item items all) (All-tail P item items all)

  quiet-end : (end : Option Stored) → IsEnd P end → end_causes to.column.type.physical_type rule end ≡ []
  quiet-end None is = refl
  quiet-end (Some s) is = rw (ends.stored s is, kind.converts s is) refl

  pub end-is : (end : Option Stored) → IsEnd P end → end_cell rule end ≡ option_map cell_of end
  end-is None is = refl
  end-is (Some s) is = rw (kind.converts s is) refl

  pub short-end : (end : Option Stored) → IsEnd P end → cell_end_bytes (end_cell rule end) ≤ most
  short-end None is = omega arith
  short-end (Some s) is = rw (kind.converts s is) (kind.few s is)

  -- ---- of a group

  module _ (data_type : DataType) (by : IsEndedBy to data_type rule) (at : Starts) (items : List (Option Stored)) (all : All P (present items)) where
    abbrev column : ColumnChunkMetaData
    column = column_at (descriptor_of to.column) at (written_chunk to items)

    told : told_ends rule column ≡ Some (group_told (nulls_of items) to.at_most (present items))
    unfolding written_chunk
    told = ends.by_rule column ∙ ends.statistics (nulls_of items) (present items) all

    pub group-cells : group_cells data_type column ≡ Some (cell_ends rule (group_told (nulls_of items) to.at_most (present items)))
    group-cells = rw (by.group, told) refl

    pub no_group_causes : group_causes data_type column ≡ []
    no_group_causes = rw (by.group, told, quiet-end (low_of to.at_most (present items)) (low-is (present items) all), quiet-end (high_of to.at_most (present items)) (high-is (present items) all)) refl

  -- ---- of pages

  no_page_causes : (part : List (Option Stored)) → All P (present part) → causes_of_page to.column.type.physical_type rule (page_told to.at_most part) ≡ []
  no_page_causes part all = rw (quiet-end (low_of to.at_most (present part)) (low-is (present part) all), quiet-end (high_of to.at_most (present part)) (high-is (present part) all)) refl

  no_pages_causes : (parts : List (List (Option Stored))) → All (λ part. All P (present part)) parts → flat_map (causes_of_page to.column.type.physical_type rule) (map (page_told to.at_most) parts) ≡ []
  no_pages_causes [] all = refl
  no_pages_causes (part ∷ parts) all = rw (no_page_causes part (All-head (λ p. All P (present p)) part parts all), no_pages_causes parts (All-tail (λ p. All P (present p)) part parts all)) refl

  lows-short : (parts : List (List (Option Stored))) → All (λ part. All P (present part)) parts → sum_by cell_end_bytes (map low_of_page (map (cell_page rule) (map (page_told to.at_most) parts))) ≤ most * length parts
  lows-short [] all = omega arith
  lows-short (part ∷ parts) all =
      omega (
        arith,
        sum_by-cons cell_end_bytes (end_cell rule (low_of to.at_most (present part))) (map low_of_page (map (cell_page rule) (map (page_told to.at_most) parts))),
        short-end (low_of to.at_most (present part)) (low-is (present part) (All-head (λ p. All P (present p)) part parts all)),
        lows-short parts (All-tail (λ p. All P (present p)) part parts all),
      )

  highs-short : (parts : List (List (Option Stored))) → All (λ part. All P (present part)) parts → sum_by cell_end_bytes (map high_of_page (map (cell_page rule) (map (page_told to.at_most) parts))) ≤ most * length parts
  highs-short [] all = omega arith
  highs-short (part ∷ parts) all =
      omega (
        arith,
        sum_by-cons cell_end_bytes (end_cell rule (high_of to.at_most (present part))) (map high_of_page (map (cell_page rule) (map (page_told to.at_most) parts))),
        short-end (high_of to.at_most (present part)) (high-is (present part) (All-head (λ p. All P (present p)) part parts all)),
        highs-short parts (All-tail (λ p. All P (present p)) part parts all),
      )

  -- nothing is wrong with an index of these pages
  pub no_index_causes : (data_type : DataType) (index : Index) (parts : List (List (Option Stored))) → IsReadBy to.column.type data_type rule → IsEndedBy to data_type rule → stored_pages index ≡ map (page_told to.at_most) parts → All (λ part. All P (present part)) parts → length parts ≤ 20000
      → causes_of_index to.column.type data_type index ≡ []
  no_index_causes data_type index parts read by stored all few =
      let lows = read.roomy (sum_by cell_end_bytes (map low_of_page (map (cell_page rule) (map (page_told to.at_most) parts)))) (omega (arith, lows-short parts all)) in
      let highs = read.roomy (sum_by cell_end_bytes (map high_of_page (map (cell_page rule) (map (page_told to.at_most) parts)))) (omega (arith, highs-short parts all)) in
      rw (by.page, stored, no_pages_causes parts all, by.own, lows, highs) refl

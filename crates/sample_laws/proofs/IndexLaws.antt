-- The column index of a chunk of items is read as it was written, and nothing is wrong with it.
use Rattle.std.proofs.Common.{◌≡◌, ℕ, ◌+◌, ◌*◌, ◌≤◌, ℤ, pos, Bool, List, [], ◌∷◌, ◌++◌, Option, Some, refl, sym, ap, ◌∙◌, arith, length, map, append-nil, eq-eqb}
use Rattle.std.specs.Prelude.{All, is_none}
use Rattle.std.proofs.lemmas.List.{length-map}
use Rattle.std.proofs.lemmas.List.Elements.{All-head, All-tail, All-map, All-weaker}
use Rattle.std.proofs.lemmas.List.Sums.{count_by-le-length}
use Rattle.columns_core.specs.declared.cell.Cell.{Cell}
use Rattle.columns_core.specs.declared.data_type.DataType.{DataType}
use Rattle.parquet_base.specs.Pieces.{cut}
use Rattle.parquet_meta.specs.ColumnIndex.{column_index_in, index_with}
use Rattle.parquet_meta.specs.Indexes.{raw_index}
use Rattle.parquet_meta.specs.declared.metadata.ColumnChunkMetaData.{ColumnChunkMetaData}
use Rattle.parquet_page.specs.Stored.{Stored}
use Rattle.flat_values.specs.Conversion.{Conversion}
use Rattle.column_ends.specs.Converted.{cell_page}
use Rattle.column_ends.specs.Told.{stored_pages}
use Rattle.parquet_scan.specs.Pages.{column_index_causes, ends_of_page, page_ends}
use Rattle.parquet_plain.specs.Bodies.{present}
use Rattle.parquet_plain.specs.Columns.{Written, ends_of, greatest, least, written_chunk, written_page}
use Rattle.parquet_plain.specs.Description.{PlainPage, descriptor_of, greatest_of, least_of}
use Rattle.parquet_plain.specs.File.{Starts, column_at}
use Rattle.parquet_plain.specs.Fits.{FitsIndex, HasShortLength, IsFew}
use Rattle.parquet_plain.specs.Found.{ChunkStands}
use Rattle.parquet_plain.specs.Structs.{column_index_bytes}
use Rattle.parquet_plain.proofs.StructLemmas.{column_index-written}
use Rattle.sample_laws.proofs.EndLaws.{index_of_pages, page_told}
use Rattle.sample_laws.proofs.KindLaws.{IsKind}
use Rattle.sample_laws.proofs.PageLaws.{IsReadBy}
use Rattle.sample_laws.proofs.SizeLaws.{IsShortEnd, column_index-short}
use Rattle.sample_laws.proofs.StatisticsLaws.{HasEnds, IsEndedBy, no_index_causes}

map-map : {A B C : Type 0} (f : B → C) (g : A → B) (xs : List A) → map f (map g xs) ≡ map (λ x. f (g x)) xs
map-map f g [] = refl
map-map {C = C} f g (x ∷ xs) = ap (λ (ys : List C). f (g x) ∷ ys) (map-map f g xs)

abbrev pub IsFewItems : List (Option Stored) → Type 0
IsFewItems part = length part ≤ 1000

module _ (to : Written) (rule : Conversion) (P : Stored → Type 0) (cell_of : Stored → Cell) (kind : IsKind to rule P cell_of) (ends : HasEnds to rule P) where
  pub low-short : (items : List Stored) → All P items → IsShortEnd (least_of (ends_of to.column.type.physical_type to.at_most items))
  low-short [] all = omega arith
  low-short (item ∷ items) all = ends.short (least to.at_most item items) (ends.are.low item items (All-head P item items all) (All-tail P item items all))

  pub high-short : (items : List Stored) → All P items → IsShortEnd (greatest_of (ends_of to.column.type.physical_type to.at_most items))
  high-short [] all = omega arith
  high-short (item ∷ items) all = ends.short (greatest to.at_most item items) (ends.are.high item items (All-head P item items all) (All-tail P item items all))

  abbrev AllOf : List (Option Stored) → Type 0
  AllOf part = All P (present part)

  pub lows-short : (parts : List (List (Option Stored))) → All AllOf parts → All IsShortEnd (map (λ (p : PlainPage). least_of p.ends) (map (written_page to) parts))
  unfolding written_page
  lows-short parts all =
      All-map IsShortEnd (λ (p : PlainPage). least_of p.ends) (map (written_page to) parts)
      (All-map (λ (p : PlainPage). IsShortEnd (least_of p.ends)) (written_page to) parts (All-weaker AllOf (λ part. IsShortEnd (least_of (written_page to part).ends)) (λ part is. low-short (present part) is) parts all))

  pub highs-short : (parts : List (List (Option Stored))) → All AllOf parts → All IsShortEnd (map (λ (p : PlainPage). greatest_of p.ends) (map (written_page to) parts))
  unfolding written_page
  highs-short parts all =
      All-map IsShortEnd (λ (p : PlainPage). greatest_of p.ends) (map (written_page to) parts)
      (All-map (λ (p : PlainPage). IsShortEnd (greatest_of p.ends)) (written_page to) parts (All-weaker AllOf (λ part. IsShortEnd (greatest_of (written_page to part).ends)) (λ part is. high-short (present part) is) parts all))

  counts-few : (parts : List (List (Option Stored))) → All IsFewItems parts → All IsFew (map (λ (p : PlainPage). p.nulls) (map (written_page to) parts))
  unfolding written_page
  counts-few parts all =
      All-map IsFew (λ (p : PlainPage). p.nulls) (map (written_page to) parts)
      (All-map (λ (p : PlainPage). IsFew p.nulls) (written_page to) parts
      (All-weaker IsFewItems (λ part. IsFew (written_page to part).nulls) (λ part few. omega (arith, count_by-le-length (is_none {T = Stored}) part, few)) parts all))

  short : (end : List ℕ) → IsShortEnd end → HasShortLength end
  short end is = omega arith

  -- the index that is read is the one that was written
  index-read : (parts : List (List (Option Stored))) → All AllOf parts → All IsFewItems parts → length parts ≤ 20000 → column_index_in (column_index_bytes (index_of_pages (map (written_page to) parts))) ≡ Some (index_of_pages (map (written_page to) parts))
  index-read parts all few many =
      let ps : List PlainPage = map (written_page to) parts in
      let nulls : List Bool = map (λ (p : PlainPage). is_none p.ends) ps in
      let lows : List (List ℕ) = map (λ (p : PlainPage). least_of p.ends) ps in
      let highs : List (List ℕ) = map (λ (p : PlainPage). greatest_of p.ends) ps in
      let counts : List ℕ = map (λ (p : PlainPage). p.nulls) ps in
      let long : length ps ≡ length parts = length-map parts (written_page to) in
      let n : length nulls ≡ length ps = length-map ps (λ (p : PlainPage). is_none p.ends) in
      let a : length lows ≡ length ps = length-map ps (λ (p : PlainPage). least_of p.ends) in
      let b : length highs ≡ length ps = length-map ps (λ (p : PlainPage). greatest_of p.ends) in
      let c : length counts ≡ length ps = length-map ps (λ (p : PlainPage). p.nulls) in
      let fits : FitsIndex nulls lows highs counts = record {
        few = omega arith;
        lows_even = a ∙ sym n;
        highs_even = b ∙ sym n;
        counts_even = c ∙ sym n;
        lows_short = All-weaker IsShortEnd HasShortLength short lows (lows-short parts all);
        highs_short = All-weaker IsShortEnd HasShortLength short highs (highs-short parts all);
        counts_few = counts-few parts few;
      } in
      let same : index_with nulls lows highs (Some (map pos counts)) ≡ index_of_pages ps = ap (λ (ns : List ℤ). index_with nulls lows highs (Some ns)) (map-map pos (λ (p : PlainPage). p.nulls) ps) in
      ap column_index_in (sym (append-nil (column_index_bytes (index_of_pages ps))) ∙ ap (λ ix. column_index_bytes ix ++ []) (sym same)) ∙ column_index-written nulls lows highs counts [] fits ∙ ap Some same

  -- how many bytes it has
  pub index-short : (parts : List (List (Option Stored))) → All AllOf parts → length (column_index_bytes (index_of_pages (map (written_page to) parts))) ≤ 60 + 71 * length parts
  index-short parts all =
      let ps : List PlainPage = map (written_page to) parts in
      let short = column_index-short (map (λ (p : PlainPage). is_none p.ends) ps) (map (λ (p : PlainPage). least_of p.ends) ps) (map (λ (p : PlainPage). greatest_of p.ends) ps) (map (λ (p : PlainPage). pos p.nulls) ps) (lows-short parts all) (highs-short parts all) in
      omega (
        arith,
        short,
        length-map parts (written_page to),
        length-map ps (λ (p : PlainPage). is_none p.ends),
        length-map ps (λ (p : PlainPage). least_of p.ends),
        length-map ps (λ (p : PlainPage). greatest_of p.ends),
        length-map ps (λ (p : PlainPage). pos p.nulls),
      )

  -- ---- of a chunk

  module _ (file : List ℕ) (at : Starts) (items : List (Option Stored)) (stands : ChunkStands file at (written_chunk to items)) (all : All AllOf (cut (Some to.page_rows) items)) (few : All IsFewItems (cut (Some to.page_rows) items)) (many : length (cut (Some to.page_rows) items) ≤ 20000) where
    abbrev column : ColumnChunkMetaData
    column = column_at (descriptor_of to.column) at (written_chunk to items)

    abbrev parts : List (List (Option Stored))
    parts = cut (Some to.page_rows) items

    index-told : raw_index file column ≡ Some (ends.index parts all).index
    unfolding written_chunk
    index-told = rw (stands.index_stands, index-read parts all few many) (ends.index parts all).read

    pub no_causes : (data_type : DataType) (count : ℕ) → IsReadBy to.column.type data_type rule → IsEndedBy to data_type rule → count ≡ length parts → column_index_causes data_type count file column ≡ []
    no_causes data_type count read by same =
        let told = ends.index parts all in
        let even : length (stored_pages told.index) ≡ count = ap length told.stored ∙ length-map parts (page_told to.at_most) ∙ sym same in
        rw (index-told, no_index_causes to rule P cell_of kind ends data_type told.index parts read by told.stored all many, by.page, eq-eqb (length (stored_pages told.index)) count even) refl

    pub page-ends : (data_type : DataType) → IsEndedBy to data_type rule → page_ends data_type file column ≡ map ends_of_page (map (cell_page rule) (map (page_told to.at_most) parts))
    page-ends data_type by = rw (index-told, by.page, (ends.index parts all).stored) refl

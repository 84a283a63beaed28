-- A chunk of items of a kind fits a plain file.
use Rattle.std.proofs.Common.{ℕ, ◌+◌, ◌*◌, ◌≤◌, List, [], ◌∷◌, Option, Some, None, arith, length}
use Rattle.std.specs.Prelude.{All, IfSome, is_none}
use Rattle.std.proofs.lemmas.List.Elements.{All-weaker}
use Rattle.std.proofs.lemmas.List.Sums.{count_by-le-length}
use Rattle.columns_core.specs.declared.cell.Cell.{Cell}
use Rattle.parquet_base.specs.Pieces.{cut}
use Rattle.parquet_page.specs.Stored.{Stored}
use Rattle.flat_values.specs.Conversion.{Conversion}
use Rattle.parquet_plain.specs.Bodies.{present}
use Rattle.parquet_plain.specs.Columns.{Written, ends_of, written_chunk}
use Rattle.parquet_plain.specs.Description.{locations_from}
use Rattle.parquet_plain.specs.File.{Starts, chunk_index_bytes, chunk_locations_bytes}
use Rattle.parquet_plain.specs.Fits.{FitsPlainChunk, HasShortLength}
use Rattle.parquet_plain.specs.declared.ends.Ends.{Ends}
use Rattle.parquet_plain.proofs.PieceLemmas.{cut-sum}
use Rattle.sample_laws.proofs.ChunkLaws.{chunk-rows, few-pages, few-parts, length-locations}
use Rattle.sample_laws.proofs.FooterSizes.{HasShortEnds}
use Rattle.sample_laws.proofs.IndexLaws.{high-short, index-short, low-short}
use Rattle.sample_laws.proofs.KindLaws.{IsFlat, IsKind, IsPiece, IsPlace, cut-are, present-all}
use Rattle.sample_laws.proofs.SizeLaws.{offset_index-short}
use Rattle.sample_laws.proofs.StatisticsLaws.{HasEnds}

module _ (to : Written) (rule : Conversion) (P : Stored → Type 0) (cell_of : Stored → Cell) (kind : IsKind to rule P cell_of) (flat : IsFlat to.column.type.repetition) (ends : HasEnds to rule P) where
  ends-short : (items : List Stored) → All P items → HasShortEnds (ends_of to.column.type.physical_type to.at_most items)
  ends-short [] all = tt
  ends-short (item ∷ items) all = (low-short to rule P cell_of kind ends (item ∷ items) all, high-short to rule P cell_of kind ends (item ∷ items) all)

  pub chunk-ends-short : (items : List (Option Stored)) → All (IsPlace to.column.type.repetition P) items → HasShortEnds (written_chunk to items).ends
  unfolding written_chunk
  chunk-ends-short items all = ends-short (present items) (present-all to.column.type.repetition P items all)

  parts-present : (parts : List (List (Option Stored))) → All (IsPiece to.column.type.repetition P to.page_rows) parts → All (λ part. All P (present part)) parts
  parts-present parts all =
      All-weaker (IsPiece to.column.type.repetition P to.page_rows) (λ part. All P (present part)) (λ part own. present-all to.column.type.repetition P part own.all) parts all

  pub chunk-index-short : (items : List (Option Stored)) → All (IsPlace to.column.type.repetition P) items → length (chunk_index_bytes (written_chunk to items)) ≤ 60 + 71 * length items
  unfolding written_chunk
  chunk-index-short items all =
      let are = cut-are to.column.type.repetition P to.page_rows items kind.sized all in
      omega (arith, index-short to rule P cell_of kind ends (cut (Some to.page_rows) items) (parts-present (cut (Some to.page_rows) items) are), few-parts to rule P cell_of kind flat (cut (Some to.page_rows) items) are, cut-sum to.page_rows items kind.sized)

  pub chunk-locations-short : (start : ℕ) (items : List (Option Stored)) → All (IsPlace to.column.type.repetition P) items → length (chunk_locations_bytes start (written_chunk to items)) ≤ 13 + 34 * length items
  chunk-locations-short start items all =
      omega (arith, offset_index-short (locations_from start 0 (written_chunk to items).pages), length-locations start 0 (written_chunk to items).pages, few-pages to rule P cell_of kind flat items all)

  nulls-few : (items : List (Option Stored)) → (written_chunk to items).nulls ≤ length items
  unfolding written_chunk
  nulls-few items = count_by-le-length (is_none {T = Stored}) items

  short-ends : (o : Option Ends) → HasShortEnds o → IfSome o (λ own. HasShortLength own.least × HasShortLength own.greatest)
  short-ends None short = tt
  short-ends (Some own) short = (omega (arith, short.0), omega (arith, short.1))

  pub chunk-fits : (at : Starts) (items : List (Option Stored)) → All (IsPlace to.column.type.repetition P) items → length items ≤ 20000 → FitsPlainChunk at (written_chunk to items)
  chunk-fits at items all few = record {
    rows = omega (arith, chunk-rows to items kind.sized);
    nulls = omega (arith, nulls-few items);
    index = omega (arith, chunk-index-short items all);
    locations = omega (arith, chunk-locations-short at.chunk items all);
    ends = short-ends (written_chunk to items).ends (chunk-ends-short items all);
  }

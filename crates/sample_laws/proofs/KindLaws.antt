-- Columns of items of one kind: their pages fit, hold their cells, and have few bytes.
use Rattle.std.proofs.Common.{◌≡◌, ℕ, ◌+◌, ◌*◌, ◌≤◌, ◌<◌, pos, true, false, List, [], ◌∷◌, Option, Some, None, refl, ap, arith, length, length-append, map}
use Rattle.std.specs.Prelude.{All, is_some}
use Rattle.std.specs.List.{AllZip}
use Rattle.std.proofs.lemmas.List.{length-map}
use Rattle.std.proofs.lemmas.List.Elements.{All-head, All-tail, All-cons, All-nil, All-map, All-weaker}
use Rattle.columns_core.specs.declared.cell.Cell.{Cell, Null}
use Rattle.parquet_base.specs.Pieces.{pieces, cut}
use Rattle.parquet_meta.specs.declared.metadata.PhysicalType.{PhysicalType}
use Rattle.parquet_meta.specs.declared.metadata.PhysicalType.TheVariants as types
use Rattle.parquet_meta.specs.declared.metadata.PrimitiveLogicalType.{PrimitiveLogicalType}
use Rattle.parquet_meta.specs.declared.metadata.Repetition.{Repetition}
use Rattle.parquet_meta.specs.declared.metadata.Repetition.TheVariants.{Required, Optional, Repeated}
use Rattle.parquet_meta.specs.declared.page_header.DataPageHeader.TheVariants.{V1}
use Rattle.parquet_page.specs.Opened.{carried_encoding}
use Rattle.parquet_page.specs.Stored.{Stored}
use Rattle.parquet_page.specs.Values.{Plain}
use Rattle.page_decoding.specs.Bytes.{cell_bytes}
use Rattle.flat_values.specs.Conversion.{Conversion, Value, convert, convert_place}
use Rattle.parquet_plain.specs.Bodies.{body_bytes, levels_of, present, values_bytes}
use Rattle.parquet_plain.specs.Columns.{Written, written_page}
use Rattle.parquet_plain.specs.Description.{page_bytes}
use Rattle.parquet_plain.specs.Fits.{FitsItems, FitsPage, HasPlaces, IsOf, IsPlainType}
use Rattle.parquet_plain.specs.Structs.{page_header_bytes}
use Rattle.parquet_plain.proofs.SpelledLemmas.{spelled-written}
use Rattle.sample_laws.proofs.PageLaws.{Holds, most}
use Rattle.sample_laws.proofs.RowLaws
use Rattle.sample_laws.proofs.RowLaws.{IsPieceOf}
use Rattle.sample_laws.proofs.SizeLaws.{flags-short, levels-short, page_header-short, present-few}

-- The stored values of a column are of a kind: each becomes a cell of few bytes, and takes few bytes in a page.
pub record IsKind (to : Written) (rule : Conversion) (P : Stored → Type 0) (cell_of : Stored → Cell) : Type 0 where
  pub plain : IsPlainType to.column.type.physical_type
  pub is_of : (s : Stored) → P s → IsOf to.column.type.physical_type s
  pub converts : (s : Stored) → P s → convert rule s ≡ Value (cell_of s)
  pub few : (s : Stored) → P s → cell_bytes (cell_of s) ≤ most
  pub narrow : (values : List Stored) → All P values → length (values_bytes to.column.type.physical_type values) ≤ 24 * length values
  pub sized : 0 < to.page_rows
  pub small : to.page_rows ≤ 1000

-- a place of a page: only a column that is optional has nulls
abbrev pub IsPlace : Repetition → (Stored → Type 0) → Option Stored → Type 0
IsPlace r P (Some s) = P s
IsPlace Optional P None = Unit {0}
IsPlace Required P None = ⊥
IsPlace Repeated P None = ⊥

abbrev pub place_cell : (Stored → Cell) → Option Stored → Cell
place_cell cell_of (Some s) = cell_of s
place_cell cell_of None = Null

abbrev pub cells_of : (Stored → Cell) → List (Option Stored) → List Cell
cells_of cell_of items = map (place_cell cell_of) items

-- not a repeated column
abbrev pub IsFlat : Repetition → Type 0
IsFlat Repeated = ⊥
IsFlat _ = Unit {0}

-- ---- places

pub present-all : (r : Repetition) (P : Stored → Type 0) (items : List (Option Stored)) → All (IsPlace r P) items → All P (present items)
present-all r P [] all = All-nil P
present-all r P (None ∷ items) all = present-all r P items (All-tail (IsPlace r P) None items all)
present-all r P (Some s ∷ items) all = All-cons P s (present items) (All-head (IsPlace r P) (Some s) items all) (present-all r P items (All-tail (IsPlace r P) (Some s) items all))

there : (P : Stored → Type 0) (item : Option Stored) → IsPlace Required P item → is_some item ≡ true
there P None is = absurd is
there P (Some s) is = refl

has_places : (r : Repetition) (P : Stored → Type 0) (items : List (Option Stored)) → IsFlat r → All (IsPlace r P) items → HasPlaces r items
has_places Required P items flat all = All-weaker (IsPlace Required P) (λ (item : Option Stored). is_some item ≡ true) (there P) items all
has_places Optional P items flat all = tt
has_places Repeated P items flat all = absurd flat

-- the places of a page
abbrev pub IsPiece : Repetition → (Stored → Type 0) → ℕ → List (Option Stored) → Type 0
IsPiece r P size items = IsPieceOf (IsPlace r P) size items

pub cut-are : (r : Repetition) (P : Stored → Type 0) (size : ℕ) (items : List (Option Stored)) → 0 < size → All (IsPlace r P) items → All (IsPiece r P size) (cut (Some size) items)
cut-are r P size items some all = RowLaws.cut-are (IsPlace r P) size items some all

-- ---- pages

carried-is : (t : PhysicalType) (r : Repetition) (l : Option PrimitiveLogicalType) (items : List (Option Stored)) (body : List ℕ) → IsPlainType t → IsFlat r
    → carried_encoding false false (record { header = V1 (length items) (pos 0) (pos 3); body = body; type = record { physical_type = t; logical_type = l; repetition = r }; selected = None }) ≡ Some Plain
carried-is types.Boolean Required l items body plain flat = refl
carried-is types.Boolean Optional l items body plain flat = refl
carried-is types.Int32 Required l items body plain flat = refl
carried-is types.Int32 Optional l items body plain flat = refl
carried-is types.Int64 Required l items body plain flat = refl
carried-is types.Int64 Optional l items body plain flat = refl
carried-is types.ByteArray Required l items body plain flat = refl
carried-is types.ByteArray Optional l items body plain flat = refl
carried-is (types.FixedLenByteArray width) Required l items body plain flat = refl
carried-is (types.FixedLenByteArray width) Optional l items body plain flat = refl
carried-is types.Int96 r l items body plain flat = absurd plain
carried-is types.Float r l items body plain flat = absurd plain
carried-is types.Double r l items body plain flat = absurd plain
carried-is types.Boolean Repeated l items body plain flat = absurd flat
carried-is types.Int32 Repeated l items body plain flat = absurd flat
carried-is types.Int64 Repeated l items body plain flat = absurd flat
carried-is types.ByteArray Repeated l items body plain flat = absurd flat
carried-is (types.FixedLenByteArray width) Repeated l items body plain flat = absurd flat

module _ (to : Written) (rule : Conversion) (P : Stored → Type 0) (cell_of : Stored → Cell) (kind : IsKind to rule P cell_of) (flat : IsFlat to.column.type.repetition) where
  body-short : (items : List (Option Stored)) → All (IsPlace to.column.type.repetition P) items → length (body_bytes to.column.type.physical_type to.column.type.repetition items) ≤ 15 + 25 * length items
  unfolding body_bytes
  body-short items all =
      omega (
        arith,
        length-append (levels_of to.column.type.repetition items) (values_bytes to.column.type.physical_type (present items)),
        levels-short to.column.type.repetition items,
        kind.narrow (present items) (present-all to.column.type.repetition P items all),
        present-few items,
      )

  pub page-fits : (items : List (Option Stored)) → IsPiece to.column.type.repetition P to.page_rows items → FitsPage (written_page to items)
  unfolding written_page
  page-fits items is = record { some = is.some; few = omega (arith, is.few, kind.small); short = omega (arith, is.few, kind.small, body-short items is.all) }

  pub page-short : (items : List (Option Stored)) → IsPiece to.column.type.repetition P to.page_rows items → length (page_bytes (written_page to items)) ≤ 120 * length items
  unfolding written_page page_bytes
  page-short items is =
      let body : List ℕ = body_bytes to.column.type.physical_type to.column.type.repetition items in
      omega (arith, is.some, length-append (page_header_bytes (length items) (length body)) body, page_header-short (length items) (length body), body-short items is.all)

  converted : (items : List (Option Stored)) → All (IsPlace to.column.type.repetition P) items → map (convert_place rule) items ≡ map Value (cells_of cell_of items)
  converted [] all = refl
  converted (None ∷ items) all = ap (λ others. Value Null ∷ others) (converted items (All-tail (IsPlace to.column.type.repetition P) None items all))
  converted (Some s ∷ items) all = rw (kind.converts s (All-head (IsPlace to.column.type.repetition P) (Some s) items all), converted items (All-tail (IsPlace to.column.type.repetition P) (Some s) items all)) refl

  few-bytes : (items : List (Option Stored)) → All (IsPlace to.column.type.repetition P) items → All (λ cell. cell_bytes cell ≤ most) (cells_of cell_of items)
  few-bytes [] all = All-nil (λ cell. cell_bytes cell ≤ most)
  few-bytes (None ∷ items) all = All-cons (λ cell. cell_bytes cell ≤ most) Null (cells_of cell_of items) (omega arith) (few-bytes items (All-tail (IsPlace to.column.type.repetition P) None items all))
  few-bytes (Some s ∷ items) all =
      All-cons (λ cell. cell_bytes cell ≤ most) (cell_of s) (cells_of cell_of items) (kind.few s (All-head (IsPlace to.column.type.repetition P) (Some s) items all)) (few-bytes items (All-tail (IsPlace to.column.type.repetition P) (Some s) items all))

  pub page-holds : (items : List (Option Stored)) → IsPiece to.column.type.repetition P to.page_rows items → Holds to.column.type rule (written_page to items) (cells_of cell_of items)
  unfolding written_page
  page-holds items is =
      let type = to.column.type in
      let fits : FitsItems type items = record {
        plain = kind.plain;
        each_is = All-weaker P (IsOf type.physical_type) kind.is_of (present items) (present-all type.repetition P items is.all);
        some = is.some;
        few = omega (arith, is.few, kind.small);
        short = omega (arith, is.few, kind.small, flags-short items);
      } in
      record {
        places = items;
        many = length-map items (place_cell cell_of);
        plain = carried-is type.physical_type type.repetition type.logical_type items (body_bytes type.physical_type type.repetition items) kind.plain flat;
        spells = spelled-written type.physical_type type.repetition type.logical_type items None fits (has_places type.repetition P items flat is.all);
        converted = converted items is.all;
        few = few-bytes items is.all;
      }

  pub pages-fit : (pieces : List (List (Option Stored))) → All (IsPiece to.column.type.repetition P to.page_rows) pieces → All FitsPage (map (written_page to) pieces)
  pages-fit pieces all =
      All-map FitsPage (written_page to) pieces (All-weaker (IsPiece to.column.type.repetition P to.page_rows) (λ piece. FitsPage (written_page to piece)) page-fits pieces all)

  pub pages-hold : (pieces : List (List (Option Stored))) → All (IsPiece to.column.type.repetition P to.page_rows) pieces → AllZip (Holds to.column.type rule) (map (written_page to) pieces) (map (cells_of cell_of) pieces)
  pages-hold [] all = tt
  pages-hold (piece ∷ pieces) all =
      (page-holds piece (All-head (IsPiece to.column.type.repetition P to.page_rows) piece pieces all), pages-hold pieces (All-tail (IsPiece to.column.type.repetition P to.page_rows) piece pieces all))

-- A column of a group that is opened: whole, as nulls, or by its parts.
use Rattle.std.proofs.Common.{◌≡◌, ◌∙◌, ℕ, Bool, true, false, List, [], ◌∷◌, length, refl, sym, ap, subst, inl, inr, Option, Some, None}
use Rattle.std.specs.Prelude.{◌&&◌, IfOk, Result, filter, nat_le, if◌then◌else◌, option_and_then}
use Rattle.std.proofs.lemmas.Bool.{and_from, eq-eqb}
use Rattle.std.proofs.lemmas.List.{length-map}
use Rattle.columns_core.specs.Causes.{Cause, IsWantOfMemory, unless}
use Rattle.columns_core.specs.Refusals.{Refuses}
use Rattle.columns_core.specs.declared.data_type.DataType.{DataType}
use Rattle.columns_core.specs.declared.error.Error.{Error}
use Rattle.parquet_base.specs.Reading.{given}
use Rattle.parquet_meta.specs.Chunks.{chunk_range, chunk_start}
use Rattle.parquet_meta.specs.Places.{place_end, bytes_at}
use Rattle.parquet_meta.specs.declared.metadata.ColumnChunkMetaData.{ColumnChunkMetaData}
use Rattle.parquet_meta.specs.declared.metadata.Place.{Place}
use Rattle.parquet_page.specs.Indexed.{indexed_count, indexed_lent, indexed_rows}
use Rattle.parquet_page.specs.Lent.{are_well_shaped, has_parts, is_wanted, located_chunk, located_parts, selected_count}
use Rattle.parquet_page.specs.declared.indexed.IndexedPageReader.{IndexedPageReader}
use Rattle.parquet_page.specs.declared.page.FilteredPage.{FilteredPage}
use Rattle.flat_values.specs.ColumnLeft.{ColumnLeft}
use Rattle.flat_binary.specs.NullType.{is_null_type}
use Rattle.parquet_read.specs.Asked.{left_in_file}
use Rattle.parquet_read.specs.Opening.{chunk_supply, counted_from, opened_left, opened_supply, placed_in, size_within}
use Rattle.parquet_read.specs.declared.column_pages.ColumnPages.TheVariants.{Located}
use Rattle.parquet_read.proofs.FoundLemmas.{maps_same}
use Rattle.parquet_read.proofs.OpenLemmas.{counts_same, shaped_same, supply_fresh, supply_same}
use Rattle.parquet_read.proofs.PlaceLemmas.{wanted_placed}

pub unless_true : (b : Bool) (cause : Cause) → unless b cause ≡ [] → b ≡ true
unless_true true cause e = refl
unless_true false cause e = absurd (let bad : cause ∷ [] ≡ [] = e in cc)

-- ---- nulls

counts_alike : (column : ColumnChunkMetaData) (bytes own : List ℕ) (entries : Option (List FilteredPage)) → (chunk_supply (column, bytes) entries).row_count ≡ (chunk_supply (column, own) entries).row_count
counts_alike column bytes own None = refl
counts_alike column bytes own (Some entries) = refl

never : {A : Type 0} (b : Bool) → b ≡ true → b ≡ false → A
never true is not = absurd (let bad : true ≡ false = not in cc)
never false is not = absurd (let bad : false ≡ true = is in cc)

-- of nulls the bytes of the chunk do not matter
pub nulls_alike : (data_type : DataType) (size : Option ℕ) (rows : ℕ) (entries : Option (List FilteredPage)) (column : ColumnChunkMetaData) (bytes own : List ℕ) → is_null_type data_type ≡ true
    → opened_left data_type size rows entries (column, bytes) ≡ opened_left data_type size rows entries (column, own)
nulls_alike data_type size rows entries column bytes own nulls =
    maps_same _ _ (λ rule. supply_same column.descriptor.primitive_type.physical_type data_type (size_within rows size) rows
    (chunk_supply (column, bytes) entries) (chunk_supply (column, own) entries) rule (counts_alike column bytes own entries) (λ not. never (is_null_type data_type) nulls not)) _

-- ---- in the file

pub left_there : (data_type : DataType) (size : Option ℕ) (rows : ℕ) (entries : Option (List FilteredPage)) (column : ColumnChunkMetaData) (file : List ℕ) → nat_le (place_end (chunk_range column)) (length file) ≡ true
    → left_in_file data_type size rows entries column file ≡ opened_left data_type size rows entries (column, bytes_at file (chunk_range column))
left_there data_type size rows entries column file there =
    ap (λ (b : Bool). option_and_then (λ (bytes : List ℕ). opened_left data_type size rows entries (column, bytes)) (if b then Some (bytes_at file (chunk_range column)) else None)) there

pub range_there : (file : List ℕ) (range own : Place) → given (nat_le (place_end range) (length file)) range ≡ Some own → nat_le (place_end range) (length file) ≡ true
range_there file range own there = go (nat_le (place_end range) (length file)) refl where
  go : (b : Bool) → nat_le (place_end range) (length file) ≡ b → nat_le (place_end range) (length file) ≡ true
  go true is = is
  go false is = absurd (let bad : None ≡ Some own = sym (ap (λ (b : Bool). given b range) is) ∙ there in cc)

-- ---- by parts

pub located_supply : (column : ColumnChunkMetaData) (chunk before : List ℕ) (bodies : List (List ℕ)) (entries placed : List FilteredPage) (reader : IndexedPageReader) → placed ≡ placed_in column entries
    → indexed_lent reader ≡ located_parts column.descriptor.primitive_type (Some before) placed bodies
    → located_parts column.descriptor.primitive_type (Some before) (placed_in column entries) bodies ≡ located_chunk column.descriptor.primitive_type chunk (placed_in column entries)
    → indexed_rows reader ≡ selected_count placed → indexed_count reader ≡ 0 → opened_supply (Located reader) ≡ chunk_supply (column, chunk) (Some entries)
located_supply column chunk before bodies entries placed reader is lends same rows none =
    let stored = column.descriptor.primitive_type in
    supply_fresh (indexed_lent reader) (located_chunk stored chunk (placed_in column entries)) (indexed_rows reader) (selected_count entries) (indexed_count reader)
    (lends ∙ ap (λ (p : List FilteredPage). located_parts stored (Some before) p bodies) is ∙ same)
    (rows ∙ ap selected_count is ∙ counts_same (chunk_start column) entries) none

-- as many parts as pages with selected rows are refused for want of memory alone
pub parts_refused : (column : ColumnChunkMetaData) (entries placed : List FilteredPage) (bodies : List (List ℕ)) (e : Error) → placed ≡ placed_in column entries → are_well_shaped entries ≡ true
    → length bodies ≡ length (filter is_wanted entries) → Refuses (are_well_shaped placed && has_parts placed bodies) (Some placed) e → IsWantOfMemory e
parts_refused column entries placed bodies e is shaped all refuses = go (subst (λ (b : Bool). Refuses b (Some placed) e) own refuses) where
  long : length (filter is_wanted placed) ≡ length (filter is_wanted entries)
  long = ap (λ (l : List FilteredPage). length (filter is_wanted l)) is ∙ ap length (wanted_placed (chunk_start column) entries) ∙ length-map (filter is_wanted entries) (counted_from (chunk_start column))

  own : (are_well_shaped placed && has_parts placed bodies) ≡ true
  own = and_from _ _ (ap are_well_shaped is ∙ shaped_same (chunk_start column) entries ∙ shaped) (eq-eqb _ _ (all ∙ sym long))

  go : Refuses true (Some placed) e → IsWantOfMemory e
  go (inl memory) = memory
  go (inr damaged) = absurd (let bad : Some placed ≡ None = damaged.1 in cc)

-- ---- answers

pub nulls_begin : {X : Type 0} (left_of : X → ColumnLeft) (data_type : DataType) (size : Option ℕ) (rows : ℕ) (entries : Option (List FilteredPage)) (column : ColumnChunkMetaData) (bytes own : List ℕ) (result : Result X Error)
    → is_null_type data_type ≡ true → IfOk result (λ arrays. Some (left_of arrays) ≡ opened_left data_type size rows entries (column, bytes))
    → IfOk result (λ arrays. Some (left_of arrays) ≡ opened_left data_type size rows entries (column, own))
nulls_begin left_of data_type size rows entries column bytes own result nulls begins =
    subst (λ (o : Option ColumnLeft). IfOk result (λ arrays. Some (left_of arrays) ≡ o)) (nulls_alike data_type size rows entries column bytes own nulls) begins

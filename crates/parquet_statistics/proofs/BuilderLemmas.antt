-- What builders are, by their constructors.
use Rattle.std.proofs.Common.{◌≡◌, refl, ◌∙◌, ap, ℕ, List, [], ◌∷◌, map}
use denote.Hole.Carrier
use Rattle.columns_core.specs.DictionaryType.{entry_type}
use Rattle.columns_core.specs.Nested.{map_type, field_types, first_length, row_at, rows}
use Rattle.columns_core.specs.Shown.{Shown}
use Rattle.columns_core.specs.declared.cell.Cell.{Cell, Cells}
use Rattle.columns_core.specs.declared.data_type.DataType.{DataType}
use Rattle.std.specs.Prelude.{◌==◌, ◌&&◌, false, length, slice_get, Some, None}
use Rattle.std.specs.List.{range_with_len}
use Rattle.std.proofs.lemmas.List.{length-map}
use Rattle.std.proofs.lemmas.List.FromFn.{length-range_with_len}
use Rattle.std.specs.Option.{option_map_or}
use Rattle.flat_builders.specs.Flat.{flatness}
use Rattle.parquet_statistics.specs.BuiltTypes.{OfType, are_each, is_empty_at, is_empty_dictionary, is_empty_list, is_empty_map, is_empty_of, is_empty_over, is_empty_struct, is_flat_shape, is_same_type, item_type}
use Rattle.parquet_statistics.specs.Made.{Made, dictionary_made, freely_made, list_made, made_by, made_at, made_cells, made_dictionary, made_list, made_map, made_struct, map_made, struct_made}
use Rattle.parquet_statistics.specs.declared.dyn_mutable.DynMutable.TheViews
use Rattle.parquet_statistics.specs.declared.dyn_mutable.DynMutable.{DynMutable, Flat, Dictionary, List as ListBuilder, Map, Struct, fold-roll-DynMutable}
use Rattle.parquet_statistics.specs.declared.dyn_mutable.DynMutable.TheOpen.{DynMutable-F}
use Rattle.parquet_statistics.specs.declared.dyn_mutable.DynMutable.TheVariants.{rolls-Flat, rolls-Dictionary, rolls-List, rolls-Map, rolls-Struct}
use Rattle.parquet_statistics.specs.declared.dyn_mutable.DynMutableDictionary.{DynMutableDictionary, fold_out-DynMutableDictionary}
use Rattle.parquet_statistics.specs.declared.dyn_mutable.DynMutableListArray.{DynMutableListArray, fold_out-DynMutableListArray}
use Rattle.parquet_statistics.specs.declared.dyn_mutable.DynMutableMapArray.{DynMutableMapArray, fold_out-DynMutableMapArray}
use Rattle.parquet_statistics.specs.declared.dyn_mutable.DynMutableStructArray.{DynMutableStructArray, fold_out-DynMutableStructArray}

-- ---- what they make

pub made_of_flat : (builder : Shown) → made_by (Flat builder) ≡ freely_made builder.0 builder.1
unfolding made_by Rattle.parquet_statistics.specs.declared.dyn_mutable.DynMutable.TheViews.roll-DynMutable denote.Hole.Carrier.roll
made_of_flat builder = ap made_by (rolls-Flat builder) ∙ fold-roll-DynMutable Made Made Made Made Made made_at made_dictionary made_list made_map made_struct (DynMutable-F.Flat builder)

pub made_of_dictionary : (entries : DynMutableDictionary) → made_by (Dictionary entries) ≡ dictionary_made entries.data_type (made_by entries.inner.value)
unfolding made_by Rattle.parquet_statistics.specs.declared.dyn_mutable.DynMutable.TheViews.roll-DynMutable denote.Hole.Carrier.roll
made_of_dictionary entries =
    ap made_by (rolls-Dictionary entries) ∙ fold-roll-DynMutable Made Made Made Made Made made_at made_dictionary made_list made_map made_struct (DynMutable-F.Dictionary entries)
    ∙ fold_out-DynMutableDictionary Made Made Made Made Made made_at made_dictionary made_list made_map made_struct entries

pub made_of_list : (items : DynMutableListArray) → made_by (ListBuilder items) ≡ list_made items.data_type (made_by items.inner.value)
unfolding made_by Rattle.parquet_statistics.specs.declared.dyn_mutable.DynMutable.TheViews.roll-DynMutable denote.Hole.Carrier.roll
made_of_list items =
    ap made_by (rolls-List items) ∙ fold-roll-DynMutable Made Made Made Made Made made_at made_dictionary made_list made_map made_struct (DynMutable-F.List items)
    ∙ fold_out-DynMutableListArray Made Made Made Made Made made_at made_dictionary made_list made_map made_struct items

pub made_of_map : (pairs : DynMutableMapArray) → made_by (Map pairs) ≡ map_made pairs.data_type (made_by pairs.inner.value)
unfolding made_by Rattle.parquet_statistics.specs.declared.dyn_mutable.DynMutable.TheViews.roll-DynMutable denote.Hole.Carrier.roll
made_of_map pairs =
    ap made_by (rolls-Map pairs) ∙ fold-roll-DynMutable Made Made Made Made Made made_at made_dictionary made_list made_map made_struct (DynMutable-F.Map pairs)
    ∙ fold_out-DynMutableMapArray Made Made Made Made Made made_at made_dictionary made_list made_map made_struct pairs

pub made_of_struct : (fields : DynMutableStructArray) → made_by (Struct fields) ≡ struct_made fields.data_type (map made_by fields.inner.items)
unfolding made_by Rattle.parquet_statistics.specs.declared.dyn_mutable.DynMutable.TheViews.roll-DynMutable denote.Hole.Carrier.roll
made_of_struct fields =
    ap made_by (rolls-Struct fields) ∙ fold-roll-DynMutable Made Made Made Made Made made_at made_dictionary made_list made_map made_struct (DynMutable-F.Struct fields)
    ∙ fold_out-DynMutableStructArray Made Made Made Made Made made_at made_dictionary made_list made_map made_struct fields

-- ---- how many cells

abbrev count : DynMutable → ℕ
count builder = length (made_by builder).cells

pub count_of_flat : (builder : Shown) → count (Flat builder) ≡ length builder.1
count_of_flat builder = ap (λ (all : Made). length all.cells) (made_of_flat builder)

pub count_of_dictionary : (entries : DynMutableDictionary) → count (Dictionary entries) ≡ count entries.inner.value
count_of_dictionary entries = ap (λ (all : Made). length all.cells) (made_of_dictionary entries)

pub count_of_list : (items : DynMutableListArray) → count (ListBuilder items) ≡ count items.inner.value
count_of_list items =
    ap (λ (all : Made). length all.cells) (made_of_list items) ∙ length-map (made_by items.inner.value).cells (λ cell. Cells (cell ∷ []))

pub length-rows : (columns : List (List Cell)) → length (map Cells (rows columns)) ≡ first_length columns
length-rows columns =
    length-map (rows columns) Cells ∙ length-map (range_with_len 0 (first_length columns)) (row_at columns) ∙ length-range_with_len 0 (first_length columns)

pub count_of_struct : (fields : DynMutableStructArray) → count (Struct fields) ≡ first_length (map made_cells (map made_by fields.inner.items))
count_of_struct fields = ap (λ (all : Made). length all.cells) (made_of_struct fields) ∙ length-rows (map made_cells (map made_by fields.inner.items))

pub first_count : (builders : List DynMutable) (first : DynMutable) → slice_get builders 0 ≡ Some first → first_length (map made_cells (map made_by builders)) ≡ count first
first_count [] first e = absurd cc
first_count (builder ∷ others) first e = let same : builder ≡ first = cc in ap count same

pub none_count : (builders : List DynMutable) → slice_get builders 0 ≡ None → first_length (map made_cells (map made_by builders)) ≡ 0
none_count [] e = refl
none_count (builder ∷ others) e = absurd cc

-- ---- whether they are empty

abbrev empty : DynMutable → OfType
empty builder data_type = is_empty_of data_type builder

pub empty_flat : (builder : Shown) (data_type : DataType) → is_empty_of data_type (Flat builder) ≡ (is_same_type builder.0 data_type && is_flat_shape (flatness data_type) && length builder.1 == 0)
unfolding is_empty_of Rattle.parquet_statistics.specs.declared.dyn_mutable.DynMutable.TheViews.roll-DynMutable denote.Hole.Carrier.roll
empty_flat builder data_type =
    ap (λ (own : DynMutable). empty own data_type) (rolls-Flat builder)
    ∙ ap (λ (of : OfType). of data_type) (fold-roll-DynMutable OfType OfType OfType OfType OfType is_empty_at is_empty_dictionary is_empty_list is_empty_map is_empty_struct (DynMutable-F.Flat builder))

pub empty_dictionary : (entries : DynMutableDictionary) (data_type : DataType) → is_empty_of data_type (Dictionary entries) ≡ is_empty_over entries.data_type (empty entries.inner.value) (entry_type data_type) data_type
unfolding is_empty_of Rattle.parquet_statistics.specs.declared.dyn_mutable.DynMutable.TheViews.roll-DynMutable denote.Hole.Carrier.roll
empty_dictionary entries data_type =
    ap (λ (own : DynMutable). empty own data_type) (rolls-Dictionary entries)
    ∙ ap (λ (of : OfType). of data_type) (fold-roll-DynMutable OfType OfType OfType OfType OfType is_empty_at is_empty_dictionary is_empty_list is_empty_map is_empty_struct (DynMutable-F.Dictionary entries)
    ∙ fold_out-DynMutableDictionary OfType OfType OfType OfType OfType is_empty_at is_empty_dictionary is_empty_list is_empty_map is_empty_struct entries)

pub empty_list : (items : DynMutableListArray) (data_type : DataType) → is_empty_of data_type (ListBuilder items) ≡ is_empty_over items.data_type (empty items.inner.value) (item_type data_type) data_type
unfolding is_empty_of Rattle.parquet_statistics.specs.declared.dyn_mutable.DynMutable.TheViews.roll-DynMutable denote.Hole.Carrier.roll
empty_list items data_type =
    ap (λ (own : DynMutable). empty own data_type) (rolls-List items)
    ∙ ap (λ (of : OfType). of data_type) (fold-roll-DynMutable OfType OfType OfType OfType OfType is_empty_at is_empty_dictionary is_empty_list is_empty_map is_empty_struct (DynMutable-F.List items)
    ∙ fold_out-DynMutableListArray OfType OfType OfType OfType OfType is_empty_at is_empty_dictionary is_empty_list is_empty_map is_empty_struct items)

pub empty_map : (pairs : DynMutableMapArray) (data_type : DataType) → is_empty_of data_type (Map pairs) ≡ is_empty_over pairs.data_type (empty pairs.inner.value) (map_type data_type) data_type
unfolding is_empty_of Rattle.parquet_statistics.specs.declared.dyn_mutable.DynMutable.TheViews.roll-DynMutable denote.Hole.Carrier.roll
empty_map pairs data_type =
    ap (λ (own : DynMutable). empty own data_type) (rolls-Map pairs)
    ∙ ap (λ (of : OfType). of data_type) (fold-roll-DynMutable OfType OfType OfType OfType OfType is_empty_at is_empty_dictionary is_empty_list is_empty_map is_empty_struct (DynMutable-F.Map pairs)
    ∙ fold_out-DynMutableMapArray OfType OfType OfType OfType OfType is_empty_at is_empty_dictionary is_empty_list is_empty_map is_empty_struct pairs)

pub empty_struct : (fields : DynMutableStructArray) (data_type : DataType)
    → is_empty_of data_type (Struct fields) ≡ (is_same_type fields.data_type data_type && option_map_or (are_each (map empty fields.inner.items)) (field_types data_type) false)
unfolding is_empty_of Rattle.parquet_statistics.specs.declared.dyn_mutable.DynMutable.TheViews.roll-DynMutable denote.Hole.Carrier.roll
empty_struct fields data_type =
    ap (λ (own : DynMutable). empty own data_type) (rolls-Struct fields)
    ∙ ap (λ (of : OfType). of data_type) (fold-roll-DynMutable OfType OfType OfType OfType OfType is_empty_at is_empty_dictionary is_empty_list is_empty_map is_empty_struct (DynMutable-F.Struct fields)
    ∙ fold_out-DynMutableStructArray OfType OfType OfType OfType OfType is_empty_at is_empty_dictionary is_empty_list is_empty_map is_empty_struct fields)

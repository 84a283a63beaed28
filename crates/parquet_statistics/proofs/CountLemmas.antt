-- The types of counts, by what lies inside a type.
use Rattle.std.proofs.Common.{◌≡◌, refl, ◌∙◌, ap, List, [], ◌∷◌, map}
use Rattle.columns_core.specs.Types.{Layer}
use Rattle.columns_core.specs.declared.data_type.DataType.{DataType, UInt64, fold_out-DataType, map-DataType, out-DataType, out-roll-DataType}
use Rattle.columns_core.specs.declared.data_type.DataType.TheOpen.{DataType-F}
use denote.Hole.Carrier
use Rattle.columns_core.specs.declared.data_type.DataType.TheViews
use Rattle.columns_core.specs.declared.data_type.DataType.TheVariants.{rolls-UInt64}
use Rattle.columns_core.specs.declared.data_type.Field.{Field, fold_out-Field}
use Rattle.parquet_statistics.specs.CountType.{count_field, count_type, count_type_at, same_field}
use Rattle.parquet_statistics.specs.LeafTypes.{Inside, Values, Entries, Items, Pairs, Fields}
use Rattle.parquet_statistics.proofs.LayerLemmas.{inside_large, inside_layer, inside_list, inside_map, inside_of, inside_struct, type_of_field}

uint_out : out-DataType UInt64 ≡ DataType-F.UInt64
unfolding Rattle.columns_core.specs.declared.data_type.DataType.TheViews.roll-DataType out-DataType denote.Hole.Carrier.roll
uint_out = ap out-DataType rolls-UInt64 ∙ out-roll-DataType DataType-F.UInt64

pub inside_uint : inside_of UInt64 ≡ Values
inside_uint = ap inside_layer uint_out

count_of_field : (field : Field) → (count_field field).data_type ≡ count_type field.data_type
count_of_field field = ap type_of_field (fold_out-Field DataType Field count_type_at same_field field)

counts_of_fields : (fields : List Field) → map type_of_field (map count_field fields) ≡ map count_type (map type_of_field fields)
counts_of_fields [] = refl
counts_of_fields (field ∷ fields) = λ i. count_of_field field i ∷ counts_of_fields fields i

-- A dictionary is counted by numbers.
abbrev pub counted : Inside DataType → Inside DataType
counted Values = Values
counted (Entries entries) = Values
counted (Items items) = Items (count_type items)
counted (Pairs pairs) = Pairs (count_type pairs)
counted (Fields fields) = Fields (map count_type fields)

counted_layer : (layer : Layer) → inside_of (count_type_at (map-DataType DataType Field DataType Field count_type count_field layer)) ≡ counted (inside_layer layer)
counted_layer (DataType-F.List field) = inside_list (count_field field) ∙ ap Items (count_of_field field)
counted_layer (DataType-F.LargeList field) = inside_large (count_field field) ∙ ap Items (count_of_field field)
counted_layer (DataType-F.Map field is_sorted) = inside_map (count_field field) is_sorted ∙ ap Pairs (count_of_field field)
counted_layer (DataType-F.Struct fields) = inside_struct (map count_field fields) ∙ ap Fields (counts_of_fields fields)
counted_layer _ = inside_uint

pub counted_inside : (data_type : DataType) → inside_of (count_type data_type) ≡ counted (inside_of data_type)
counted_inside data_type = ap inside_of (fold_out-DataType DataType Field count_type_at same_field data_type) ∙ counted_layer (out-DataType data_type)

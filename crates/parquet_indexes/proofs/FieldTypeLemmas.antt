-- What is told of the columns inside a type, by its outermost constructor.
use Rattle.std.proofs.Common.{◌≡◌, refl, sym, ◌∙◌, ap, Bool, List, [], ◌∷◌, ◌++◌, map, Option, Some, None, option_map, append_assoc, ◌+◌, length, length-append}
use Rattle.std.proofs.lemmas.List.{append-nil}
use Rattle.std.proofs.lemmas.Simd.{map-map}
use Rattle.columns_core.specs.declared.data_type.DataType.{DataType, Dictionary, List as ListType, LargeList, Struct, Map}
use Rattle.columns_core.specs.declared.data_type.Field.{Field}
use Rattle.columns_core.specs.declared.data_type.IntegerType.{IntegerType}
use Rattle.parquet_base.specs.Reading.{◌>>=◌}
use Rattle.parquet_statistics.specs.LeafTypes.{Inside, Values, Entries, Items, Pairs, Fields, leaf_types}
use Rattle.parquet_statistics.proofs.LayerLemmas.{folded_out, inside_dictionary, inside_large, inside_list, inside_map, inside_of, inside_struct, map_inside, type_of_field, types_inside}
use Rattle.parquet_indexes.specs.declared.page_statistics.ColumnPageStatistics.{ColumnPageStatistics}
use Rattle.parquet_indexes.specs.declared.page_statistics.FieldPageStatistics.{FieldPageStatistics}
use Rattle.parquet_indexes.specs.FieldTypes.{Arranged, arranged, arranged_in, arranged_in_turn, of_fields, one_column}

arranged_out : (data_type : DataType) → arranged data_type ≡ arranged_in (map_inside arranged (inside_of data_type))
unfolding arranged
arranged_out data_type = folded_out arranged_in data_type

abbrev arranged_over : Inside DataType → Arranged
arranged_over inside columns = arranged_in (map_inside arranged inside) columns

module _ (data_type : DataType) (inside : Inside DataType) (is : inside_of data_type ≡ inside) where
  arranged_is : arranged data_type ≡ arranged_over inside
  arranged_is = arranged_out data_type ∙ ap arranged_over is

pub arranged_dictionary : (key : IntegerType) (value : DataType) (ordered : Bool) → arranged (Dictionary key value ordered) ≡ arranged value
arranged_dictionary key value ordered = arranged_is (Dictionary key value ordered) (Entries value) (inside_dictionary key value ordered)

pub arranged_list : (field : Field) → arranged (ListType field) ≡ arranged field.data_type
arranged_list field = arranged_is (ListType field) (Items field.data_type) (inside_list field)

pub arranged_large : (field : Field) → arranged (LargeList field) ≡ arranged field.data_type
arranged_large field = arranged_is (LargeList field) (Items field.data_type) (inside_large field)

pub arranged_map : (field : Field) (is_sorted : Bool) → arranged (Map field is_sorted) ≡ arranged field.data_type
arranged_map field is_sorted = arranged_is (Map field is_sorted) (Pairs field.data_type) (inside_map field is_sorted)

pub arranged_struct : (fields : List Field) (columns : List ColumnPageStatistics) → arranged (Struct fields) columns ≡ option_map of_fields (arranged_in_turn (map (λ (field : Field). arranged field.data_type) fields) columns)
arranged_struct fields columns =
    ap (λ (whole : Arranged). whole columns) (arranged_is (Struct fields) (Fields (map type_of_field fields)) (inside_struct fields))
    ∙ ap (λ (each : List Arranged). option_map of_fields (arranged_in_turn each columns)) (map-map arranged type_of_field fields)

pub arranged_values : (data_type : DataType) → inside_of data_type ≡ Values → arranged data_type ≡ one_column
arranged_values data_type is = arranged_is data_type Values is

-- ---- fields in turn

abbrev pub Turned : Type 0
Turned = Option (List FieldPageStatistics × List ColumnPageStatistics)

-- what is told so far, and then of the others
abbrev pub and_then_these : List FieldPageStatistics → Turned → Turned
and_then_these items others = option_map (λ found. (items ++ found.0, found.1)) others

pub these_none : (others : Turned) → others ≡ and_then_these [] others
these_none None = refl
these_none (Some found) = refl

abbrev told_first : FieldPageStatistics → Turned → Turned
told_first first others = others >>= λ found. Some (first ∷ found.0, found.1)

pushed : (items : List FieldPageStatistics) (first : FieldPageStatistics) (others : Turned) → and_then_these items (told_first first others) ≡ and_then_these (items ++ first ∷ []) others
pushed items first None = refl
pushed items first (Some found) = ap (λ (front : List FieldPageStatistics). Some (front, found.1)) (sym (append_assoc items (first ∷ []) found.0))

pub turn_next : (items : List FieldPageStatistics) (first : FieldPageStatistics) (field : Field) (fields : List Field) (columns rest : List ColumnPageStatistics) → arranged field.data_type columns ≡ Some (first, rest)
    → and_then_these items (arranged_in_turn (map (λ (field : Field). arranged field.data_type) (field ∷ fields)) columns)
    ≡ and_then_these (items ++ first ∷ []) (arranged_in_turn (map (λ (field : Field). arranged field.data_type) fields) rest)
turn_next items first field fields columns rest one =
    ap (λ (o : Option (FieldPageStatistics × List ColumnPageStatistics)). and_then_these items (o >>= λ found. told_first found.0 (arranged_in_turn (map (λ (field : Field). arranged field.data_type) fields) found.1))) one
    ∙ pushed items first (arranged_in_turn (map (λ (field : Field). arranged field.data_type) fields) rest)

pub turned_all : (items : List FieldPageStatistics) (columns : List ColumnPageStatistics) → and_then_these items (arranged_in_turn [] columns) ≡ Some (items, columns)
turned_all items columns = ap (λ (front : List FieldPageStatistics). Some (front, columns)) (append-nil items)

-- how many columns a field has, and those behind it
pub count_next : (fields rest : List Field) (field : Field) → fields ≡ field ∷ rest → length (types_inside fields) ≡ length (leaf_types field.data_type) + length (types_inside rest)
count_next fields rest field is = ap (λ (fields : List Field). length (types_inside fields)) is ∙ length-append (leaf_types field.data_type) (types_inside rest)

-- How many columns a type has, by what lies inside it.
use Rattle.std.proofs.Common.{◌≡◌, refl, sym, ◌∙◌, ap, ℕ, ◌+◌, Bool, true, List, [], ◌∷◌, map, min, arith}
use Rattle.std.specs.Prelude.{◌==◌, ◌&&◌, sum_by}
use Rattle.std.specs.List.{list_all}
use Rattle.std.proofs.lemmas.List.Folds.{list_all-map}
use Rattle.std.proofs.lemmas.List.Sums.{sum_by-cons}
use Rattle.columns_core.specs.declared.data_type.DataType.{DataType, Dictionary, List as ListType, LargeList, Struct, Map}
use Rattle.columns_core.specs.declared.data_type.Field.{Field}
use Rattle.columns_core.specs.declared.data_type.IntegerType.{IntegerType}
use Rattle.parquet_statistics.specs.LeafTypes.{Columned, Inside, Values, Entries, Items, Pairs, Fields, columned, columned_in, has_single_dictionaries}
use Rattle.parquet_statistics.proofs.LayerLemmas.{folded_out, inside_dictionary, inside_large, inside_list, inside_map, inside_of, inside_struct, map_inside, type_of_field}

pub columned_out : (data_type : DataType) → columned data_type ≡ columned_in (map_inside columned (inside_of data_type))
unfolding columned
columned_out data_type = folded_out columned_in data_type

pub columned_is : (data_type : DataType) (inside : Inside DataType) → inside_of data_type ≡ inside → columned data_type ≡ columned_in (map_inside columned inside)
columned_is data_type inside is = columned_out data_type ∙ ap (λ inside. columned_in (map_inside columned inside)) is

pub columned_of_list : (field : Field) → columned (ListType field) ≡ columned field.data_type
columned_of_list field = columned_is (ListType field) (Items field.data_type) (inside_list field)

pub columned_of_large : (field : Field) → columned (LargeList field) ≡ columned field.data_type
columned_of_large field = columned_is (LargeList field) (Items field.data_type) (inside_large field)

pub columned_of_map : (field : Field) (is_sorted : Bool) → columned (Map field is_sorted) ≡ columned field.data_type
columned_of_map field is_sorted = columned_is (Map field is_sorted) (Pairs field.data_type) (inside_map field is_sorted)

-- ---- how many, up to two

abbrev pub leaf_count : DataType → ℕ
leaf_count data_type = (columned data_type).leaf_count

abbrev pub few : DataType → ℕ
few data_type = min 2 (leaf_count data_type)

sums : (fields : List Field) → sum_by (λ (inner : Columned). inner.leaf_count) (map columned (map type_of_field fields)) ≡ sum_by (λ (field : Field). leaf_count field.data_type) fields
sums [] = refl
sums (field ∷ fields) =
    sum_by-cons (λ (inner : Columned). inner.leaf_count) (columned field.data_type) (map columned (map type_of_field fields))
    ∙ ap (λ n. leaf_count field.data_type + n) (sums fields)
    ∙ sym (sum_by-cons (λ (field : Field). leaf_count field.data_type) field fields)

pub few_of_dictionary : (key : IntegerType) (value : DataType) (ordered : Bool) → few (Dictionary key value ordered) ≡ few value
few_of_dictionary key value ordered = ap (λ (inner : Columned). min 2 inner.leaf_count) (columned_is (Dictionary key value ordered) (Entries value) (inside_dictionary key value ordered))

pub few_of_struct : (fields : List Field) → few (Struct fields) ≡ min 2 (sum_by (λ (field : Field). leaf_count field.data_type) fields)
few_of_struct fields =
    ap (λ (inner : Columned). min 2 inner.leaf_count) (columned_is (Struct fields) (Fields (map type_of_field fields)) (inside_struct fields)) ∙ ap (min 2) (sums fields)

pub few_of_values : (data_type : DataType) → inside_of data_type ≡ Values → few data_type ≡ 1
few_of_values data_type is = ap (λ (inner : Columned). min 2 inner.leaf_count) (columned_is data_type Values is)

pub one_of_few : (n : ℕ) → (min 2 n == 1) ≡ (n == 1)
one_of_few n = grind arith

-- ---- dictionaries

pub single_of_dictionary : (key : IntegerType) (value : DataType) (ordered : Bool)
    → has_single_dictionaries (Dictionary key value ordered) ≡ (has_single_dictionaries value && leaf_count value == 1)
single_of_dictionary key value ordered = ap (λ (inner : Columned). inner.has_single) (columned_is (Dictionary key value ordered) (Entries value) (inside_dictionary key value ordered))

pub single_of_struct : (fields : List Field) → has_single_dictionaries (Struct fields) ≡ list_all (λ (field : Field). has_single_dictionaries field.data_type) fields
single_of_struct fields =
    ap (λ (inner : Columned). inner.has_single) (columned_is (Struct fields) (Fields (map type_of_field fields)) (inside_struct fields))
    ∙ list_all-map (λ (inner : Columned). inner.has_single) columned (map type_of_field fields)
    ∙ list_all-map (λ (inner : DataType). (columned inner).has_single) type_of_field fields

pub single_of_values : (data_type : DataType) → inside_of data_type ≡ Values → has_single_dictionaries data_type ≡ true
single_of_values data_type is = ap (λ (inner : Columned). inner.has_single) (columned_is data_type Values is)

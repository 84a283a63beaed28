-- The type of counts has as many columns as the type of a field, all of numbers, where each dictionary has one column.
use Rattle.std.proofs.Common.{◌≡◌, refl, sym, ◌∙◌, ap, true, List, [], ◌∷◌, ◌++◌, length, map, arith}
use Rattle.std.specs.Prelude.{◌==◌, flat_map, sum_by}
use Rattle.std.specs.List.{AllByRecursion, list_all}
use Rattle.std.proofs.lemmas.Bool.{and_parts, eqb-true}
use Rattle.std.proofs.lemmas.List.{length-append, map-append}
use Rattle.std.proofs.lemmas.List.Sums.{sum_by-cons}
use Rattle.columns_core.specs.Types.{Layer}
use Rattle.columns_core.specs.declared.data_type.DataType.{DataType, UInt64, fold_out-DataType, map-DataType, out-DataType}
use Rattle.columns_core.specs.declared.data_type.DataType.TheOpen.{DataType-F}
use Rattle.columns_core.specs.declared.data_type.Field.{Field}
use Rattle.parquet_statistics.specs.CountType.{count_field, count_type, count_type_at, same_field}
use Rattle.parquet_statistics.specs.LeafTypes.{Columned, Inside, Values, Entries, Items, Pairs, Fields, columned, columned_in, has_single_dictionaries, leaf_types}
use Rattle.parquet_statistics.proofs.ColumnCounts.{columned_is, leaf_count}
use Rattle.parquet_statistics.proofs.CountLemmas.{counted, counted_inside, inside_uint}
use Rattle.parquet_statistics.proofs.LayerLemmas.{AllInside, every_type, inside_layer, inside_of, map_inside, type_of_field, types_by, types_of_values, types_out}

-- ---- how many columns

abbrev IsCounted : DataType → Type 0
IsCounted data_type = leaf_count data_type ≡ length (leaf_types data_type)

sums : (types : List DataType) → AllByRecursion IsCounted types → sum_by (λ (inner : Columned). inner.leaf_count) (map columned types) ≡ length (flat_map (λ types. types) (map leaf_types types))
sums [] all = refl
sums (data_type ∷ types) all =
    let rest = sums types all.1 in
    omega (arith, sum_by-cons (λ (inner : Columned). inner.leaf_count) (columned data_type) (map columned types), length-append (leaf_types data_type) (flat_map (λ types. types) (map leaf_types types)), all.0, rest)

module _ (data_type : DataType) (inside : Inside DataType) (is : inside_of data_type ≡ inside) where
  types_is : leaf_types data_type ≡ types_by data_type inside
  types_is = types_out data_type ∙ ap (types_by data_type) is

  count_is : leaf_count data_type ≡ (columned_in (map_inside columned inside)).leaf_count
  count_is = ap (λ (own : Columned). own.leaf_count) (columned_is data_type inside is)

  single_is : has_single_dictionaries data_type ≡ (columned_in (map_inside columned inside)).has_single
  single_is = ap (λ (own : Columned). own.has_single) (columned_is data_type inside is)

counted_by : (data_type : DataType) (inside : Inside DataType) → inside_of data_type ≡ inside → AllInside IsCounted inside → IsCounted data_type
counted_by data_type Values is all = count_is data_type Values is ∙ ap length (sym (types_is data_type Values is))
counted_by data_type (Entries entries) is all = count_is data_type (Entries entries) is ∙ all ∙ ap length (sym (types_is data_type (Entries entries) is))
counted_by data_type (Items items) is all = count_is data_type (Items items) is ∙ all ∙ ap length (sym (types_is data_type (Items items) is))
counted_by data_type (Pairs pairs) is all = count_is data_type (Pairs pairs) is ∙ all ∙ ap length (sym (types_is data_type (Pairs pairs) is))
counted_by data_type (Fields fields) is all = count_is data_type (Fields fields) is ∙ sums fields all ∙ ap length (sym (types_is data_type (Fields fields) is))

is_counted : (data_type : DataType) → IsCounted data_type
is_counted data_type = every_type IsCounted (λ own all. counted_by own (inside_of own) refl all) data_type

-- ---- the columns of counts

abbrev numbers : List DataType → List DataType
numbers types = map (λ _. UInt64) types

abbrev HasNumbers : DataType → Type 0
HasNumbers data_type = has_single_dictionaries data_type ≡ true → leaf_types (count_type data_type) ≡ numbers (leaf_types data_type)

number_types : leaf_types UInt64 ≡ UInt64 ∷ []
number_types = types_of_values UInt64 inside_uint

one_number : (types : List DataType) → length types ≡ 1 → numbers types ≡ UInt64 ∷ []
one_number [] e = absurd (omega (arith, e))
one_number (data_type ∷ []) e = refl
one_number (data_type ∷ other ∷ types) e = absurd (omega (arith, e))

count_here : (data_type : DataType) (layer : Layer) → out-DataType data_type ≡ layer → count_type data_type ≡ count_type_at (map-DataType DataType Field DataType Field count_type count_field layer)
count_here data_type layer is =
    fold_out-DataType DataType Field count_type_at same_field data_type ∙ ap (λ (layer : Layer). count_type_at (map-DataType DataType Field DataType Field count_type count_field layer)) is

of_number : (data_type : DataType) → count_type data_type ≡ UInt64 → length (leaf_types data_type) ≡ 1 → leaf_types (count_type data_type) ≡ numbers (leaf_types data_type)
of_number data_type is one = ap leaf_types is ∙ number_types ∙ sym (one_number (leaf_types data_type) one)

of_dictionary : (data_type value : DataType) → inside_of data_type ≡ Entries value → count_type data_type ≡ UInt64 → HasNumbers data_type
of_dictionary data_type value is counts single =
    let both = and_parts (has_single_dictionaries value) (leaf_count value == 1) (sym (single_is data_type (Entries value) is) ∙ single) in
    of_number data_type counts (ap length (types_is data_type (Entries value) is) ∙ sym (is_counted value) ∙ eqb-true (leaf_count value) 1 both.1)

counted_types : (data_type : DataType) (inside : Inside DataType) → inside_of data_type ≡ inside → leaf_types (count_type data_type) ≡ types_by (count_type data_type) (counted inside)
counted_types data_type inside is = types_is (count_type data_type) (counted inside) (counted_inside data_type ∙ ap counted is)

each_numbers : (types : List DataType) → AllByRecursion HasNumbers types → list_all (λ (own : Columned). own.has_single) (map columned types) ≡ true
    → flat_map (λ types. types) (map leaf_types (map count_type types)) ≡ numbers (flat_map (λ types. types) (map leaf_types types))
each_numbers [] all single = refl
each_numbers (data_type ∷ types) all single =
    let both = and_parts (has_single_dictionaries data_type) (list_all (λ (own : Columned). own.has_single) (map columned types)) single in
    (λ i. all.0 both.0 i ++ each_numbers types all.1 both.1 i)
    ∙ sym (map-append (λ _. UInt64) (leaf_types data_type) (flat_map (λ types. types) (map leaf_types types)))

by_layer : (data_type : DataType) (layer : Layer) → out-DataType data_type ≡ layer → AllInside HasNumbers (inside_layer layer) → HasNumbers data_type
by_layer data_type (DataType-F.Dictionary key value ordered) is all single = of_dictionary data_type value (ap inside_layer is) (count_here data_type (DataType-F.Dictionary key value ordered) is) single
by_layer data_type (DataType-F.List field) is all single =
    let inside = ap inside_layer is in
    counted_types data_type (Items field.data_type) inside ∙ all (sym (single_is data_type (Items field.data_type) inside) ∙ single) ∙ ap numbers (sym (types_is data_type (Items field.data_type) inside))
by_layer data_type (DataType-F.LargeList field) is all single =
    let inside = ap inside_layer is in
    counted_types data_type (Items field.data_type) inside ∙ all (sym (single_is data_type (Items field.data_type) inside) ∙ single) ∙ ap numbers (sym (types_is data_type (Items field.data_type) inside))
by_layer data_type (DataType-F.Map field is_sorted) is all single =
    let inside = ap inside_layer is in
    counted_types data_type (Pairs field.data_type) inside ∙ all (sym (single_is data_type (Pairs field.data_type) inside) ∙ single) ∙ ap numbers (sym (types_is data_type (Pairs field.data_type) inside))
by_layer data_type (DataType-F.Struct fields) is all single =
    let inside = ap inside_layer is in
    let types = map type_of_field fields in
    counted_types data_type (Fields types) inside ∙ each_numbers types all (sym (single_is data_type (Fields types) inside) ∙ single) ∙ ap numbers (sym (types_is data_type (Fields types) inside))
by_layer data_type _ is all single = of_number data_type (count_here data_type _ is) (ap length (types_is data_type Values (ap inside_layer is)))

pub has_numbers : (data_type : DataType) → HasNumbers data_type
has_numbers data_type = every_type HasNumbers (λ own all. by_layer own (out-DataType own) refl all) data_type

-- as many numbers as there are columns told of
pub as_many_numbers : {X : Type 0} (types : List DataType) (columns : List X) → length columns ≡ length types → numbers types ≡ map (λ _. UInt64) columns
as_many_numbers [] [] e = refl
as_many_numbers [] (column ∷ columns) e = absurd (omega (arith, e))
as_many_numbers (data_type ∷ types) [] e = absurd (omega (arith, e))
as_many_numbers (data_type ∷ types) (column ∷ columns) e = ap (λ rest. UInt64 ∷ rest) (as_many_numbers types columns (omega (arith, e)))

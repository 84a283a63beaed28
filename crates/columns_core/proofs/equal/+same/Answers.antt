use Rattle.std.proofs.Common.{◌≡◌, ◌∙◌, ap, arith}
use Rattle.std.proofs.lemmas.Grind.{common_steps}
use Rattle.columns_core.proofs.ShapeLemmas.{as_it_is, both, by_inside, not_it, one_alone}
use Rattle.columns_core.proofs.TypeShapes.{same_fields, same_item, same_large_item, same_pair, same_value}
use Rattle.columns_core.specs.declared.data_type.DataType.{Dictionary, List as ListType, LargeList, Struct, Map}
use Rattle.columns_core.proofs.equal.+same.Goals as goal

pub is_same_type-returns-in-Null-matches : goal.is_same_type-returns-in-Null-matches
is_same_type-returns-in-Null-matches t c = both c.in-Null.is c.in-Null-matches.is

pub is_same_type-returns-in_default : goal.is_same_type-returns-in_default
is_same_type-returns-in_default t c = one_alone c.in-Null.is c.in_default.not-Null

pub is_same_type-returns-in-Boolean-matches : goal.is_same_type-returns-in-Boolean-matches
is_same_type-returns-in-Boolean-matches t c = both c.in-Boolean.is c.in-Boolean-matches.is

pub is_same_type-returns-in_default-matches : goal.is_same_type-returns-in_default-matches
is_same_type-returns-in_default-matches t c = one_alone c.in-Boolean.is c.in_default-matches.not-Boolean

pub is_same_type-returns-in-Int8-matches : goal.is_same_type-returns-in-Int8-matches
is_same_type-returns-in-Int8-matches t c = both c.in-Int8.is c.in-Int8-matches.is

pub is_same_type-returns-in_default-matches-2 : goal.is_same_type-returns-in_default-matches-2
is_same_type-returns-in_default-matches-2 t c = one_alone c.in-Int8.is c.in_default-matches-2.not-Int8

pub is_same_type-returns-in-Int16-matches : goal.is_same_type-returns-in-Int16-matches
is_same_type-returns-in-Int16-matches t c = both c.in-Int16.is c.in-Int16-matches.is

pub is_same_type-returns-in_default-matches-3 : goal.is_same_type-returns-in_default-matches-3
is_same_type-returns-in_default-matches-3 t c = one_alone c.in-Int16.is c.in_default-matches-3.not-Int16

pub is_same_type-returns-in-Int32-matches : goal.is_same_type-returns-in-Int32-matches
is_same_type-returns-in-Int32-matches t c = both c.in-Int32.is c.in-Int32-matches.is

pub is_same_type-returns-in_default-matches-4 : goal.is_same_type-returns-in_default-matches-4
is_same_type-returns-in_default-matches-4 t c = one_alone c.in-Int32.is c.in_default-matches-4.not-Int32

pub is_same_type-returns-in-Int64-matches : goal.is_same_type-returns-in-Int64-matches
is_same_type-returns-in-Int64-matches t c = both c.in-Int64.is c.in-Int64-matches.is

pub is_same_type-returns-in_default-matches-5 : goal.is_same_type-returns-in_default-matches-5
is_same_type-returns-in_default-matches-5 t c = one_alone c.in-Int64.is c.in_default-matches-5.not-Int64

pub is_same_type-returns-in-UInt8-matches : goal.is_same_type-returns-in-UInt8-matches
is_same_type-returns-in-UInt8-matches t c = both c.in-UInt8.is c.in-UInt8-matches.is

pub is_same_type-returns-in_default-matches-6 : goal.is_same_type-returns-in_default-matches-6
is_same_type-returns-in_default-matches-6 t c = one_alone c.in-UInt8.is c.in_default-matches-6.not-UInt8

pub is_same_type-returns-in-UInt16-matches : goal.is_same_type-returns-in-UInt16-matches
is_same_type-returns-in-UInt16-matches t c = both c.in-UInt16.is c.in-UInt16-matches.is

pub is_same_type-returns-in_default-matches-7 : goal.is_same_type-returns-in_default-matches-7
is_same_type-returns-in_default-matches-7 t c = one_alone c.in-UInt16.is c.in_default-matches-7.not-UInt16

pub is_same_type-returns-in-UInt32-matches : goal.is_same_type-returns-in-UInt32-matches
is_same_type-returns-in-UInt32-matches t c = both c.in-UInt32.is c.in-UInt32-matches.is

pub is_same_type-returns-in_default-matches-8 : goal.is_same_type-returns-in_default-matches-8
is_same_type-returns-in_default-matches-8 t c = one_alone c.in-UInt32.is c.in_default-matches-8.not-UInt32

pub is_same_type-returns-in-UInt64-matches : goal.is_same_type-returns-in-UInt64-matches
is_same_type-returns-in-UInt64-matches t c = both c.in-UInt64.is c.in-UInt64-matches.is

pub is_same_type-returns-in_default-matches-9 : goal.is_same_type-returns-in_default-matches-9
is_same_type-returns-in_default-matches-9 t c = one_alone c.in-UInt64.is c.in_default-matches-9.not-UInt64

pub is_same_type-returns-in-Date32-matches : goal.is_same_type-returns-in-Date32-matches
is_same_type-returns-in-Date32-matches t c = both c.in-Date32.is c.in-Date32-matches.is

pub is_same_type-returns-in_default-matches-10 : goal.is_same_type-returns-in_default-matches-10
is_same_type-returns-in_default-matches-10 t c = one_alone c.in-Date32.is c.in_default-matches-10.not-Date32

pub is_same_type-returns-in-Date64-matches : goal.is_same_type-returns-in-Date64-matches
is_same_type-returns-in-Date64-matches t c = both c.in-Date64.is c.in-Date64-matches.is

pub is_same_type-returns-in_default-matches-11 : goal.is_same_type-returns-in_default-matches-11
is_same_type-returns-in_default-matches-11 t c = one_alone c.in-Date64.is c.in_default-matches-11.not-Date64

pub is_same_type-returns-in-Utf8-matches : goal.is_same_type-returns-in-Utf8-matches
is_same_type-returns-in-Utf8-matches t c = both c.in-Utf8.is c.in-Utf8-matches.is

pub is_same_type-returns-in_default-matches-12 : goal.is_same_type-returns-in_default-matches-12
is_same_type-returns-in_default-matches-12 t c = one_alone c.in-Utf8.is c.in_default-matches-12.not-Utf8

pub is_same_type-returns-in-LargeUtf8-matches : goal.is_same_type-returns-in-LargeUtf8-matches
is_same_type-returns-in-LargeUtf8-matches t c = both c.in-LargeUtf8.is c.in-LargeUtf8-matches.is

pub is_same_type-returns-in_default-matches-13 : goal.is_same_type-returns-in_default-matches-13
is_same_type-returns-in_default-matches-13 t c = one_alone c.in-LargeUtf8.is c.in_default-matches-13.not-LargeUtf8

pub is_same_type-returns-in-Binary-matches : goal.is_same_type-returns-in-Binary-matches
is_same_type-returns-in-Binary-matches t c = both c.in-Binary.is c.in-Binary-matches.is

pub is_same_type-returns-in_default-matches-14 : goal.is_same_type-returns-in_default-matches-14
is_same_type-returns-in_default-matches-14 t c = one_alone c.in-Binary.is c.in_default-matches-14.not-Binary

pub is_same_type-returns-in-LargeBinary-matches : goal.is_same_type-returns-in-LargeBinary-matches
is_same_type-returns-in-LargeBinary-matches t c = both c.in-LargeBinary.is c.in-LargeBinary-matches.is

pub is_same_type-returns-in_default-matches-15 : goal.is_same_type-returns-in_default-matches-15
is_same_type-returns-in_default-matches-15 t c = one_alone c.in-LargeBinary.is c.in_default-matches-15.not-LargeBinary

pub is_same_type-returns-in-Timestamp : goal.is_same_type-returns-in-Timestamp
is_same_type-returns-in-Timestamp t c = as_it_is c.in-Timestamp.is c.is_timestamp.ensures

pub is_same_type-returns-in-Decimal : goal.is_same_type-returns-in-Decimal
is_same_type-returns-in-Decimal t c = as_it_is c.in-Decimal.is c.is_decimal.ensures

pub is_same_type-returns-in-Time32 : goal.is_same_type-returns-in-Time32
is_same_type-returns-in-Time32 t c = as_it_is c.in-Time32.is c.is_time32.ensures

pub is_same_type-returns-in-Time64 : goal.is_same_type-returns-in-Time64
is_same_type-returns-in-Time64 t c = as_it_is c.in-Time64.is c.is_time64.ensures

pub is_same_type-returns-in-Duration : goal.is_same_type-returns-in-Duration
is_same_type-returns-in-Duration t c = as_it_is c.in-Duration.is c.is_duration.ensures

pub is_same_type-returns-in-Interval : goal.is_same_type-returns-in-Interval
is_same_type-returns-in-Interval t c = as_it_is c.in-Interval.is c.is_interval.ensures

pub is_same_type-returns-in-FixedSizeBinary : goal.is_same_type-returns-in-FixedSizeBinary
is_same_type-returns-in-FixedSizeBinary t c = as_it_is c.in-FixedSizeBinary.is c.is_fixed_size_binary.ensures

pub is_dictionary-returns-in_default : goal.is_dictionary-returns-in_default
is_dictionary-returns-in_default t c = not_it (c.in_default.not-Dictionary _ _ _)

pub is_list-returns-in_default : goal.is_list-returns-in_default
is_list-returns-in_default t c = not_it (c.in_default.not-List _)

pub is_large_list-returns-in_default : goal.is_large_list-returns-in_default
is_large_list-returns-in_default t c = not_it (c.in_default.not-LargeList _)

pub is_struct-returns-in_default : goal.is_struct-returns-in_default
is_struct-returns-in_default t c = not_it (c.in_default.not-Struct _)

pub is_map-returns-in_default : goal.is_map-returns-in_default
is_map-returns-in_default t c = not_it (c.in_default.not-Map _ _)

pub is_list-returns-in-List : goal.is_list-returns-in-List
is_list-returns-in-List t c = by_inside ListType same_item c.is_same_field.ensures c.get.ensures c.in-List.is

pub is_large_list-returns-in-LargeList : goal.is_large_list-returns-in-LargeList
is_large_list-returns-in-LargeList t c = by_inside LargeList same_large_item c.is_same_field.ensures c.get.ensures c.in-LargeList.is

pub is_struct-returns-in-Struct : goal.is_struct-returns-in-Struct
is_struct-returns-in-Struct t c = by_inside Struct same_fields c.is_same_fields.ensures c.as_slice.ensures c.in-Struct.is

pub is_map-returns-then-is_sorted-other_is_sorted : goal.is_map-returns-then-is_sorted-other_is_sorted
is_map-returns-then-is_sorted-other_is_sorted t c =
    let sorted : c.in-Map.other_is_sorted ≡ c.args.is_sorted = grind (arith, common_steps) in
    by_inside (λ field. Map field c.args.is_sorted) (same_pair c.args.is_sorted) c.is_same_field.ensures c.get.ensures (c.in-Map.is ∙ ap (λ is_sorted. Map c.in-Map.other is_sorted) sorted)

pub is_dictionary-returns-then-is_ordered-other_is_ordered : goal.is_dictionary-returns-then-is_ordered-other_is_ordered
is_dictionary-returns-then-is_ordered-other_is_ordered t c =
    let ordered : c.in-Dictionary.other_is_ordered ≡ c.args.is_ordered = grind (arith, common_steps) in
    let key : c.in-Dictionary.other_key ≡ c.args.key = grind (arith, common_steps) in
    by_inside (λ value. Dictionary c.args.key value c.args.is_ordered) (same_value c.args.key c.args.is_ordered) c.is_same_type.ensures c.get.ensures
    (c.in-Dictionary.is ∙ (λ i. Dictionary (key i) c.in-Dictionary.other (ordered i)))

pub is_dictionary-returns-else-is_ordered-other_is_ordered : goal.is_dictionary-returns-else-is_ordered-other_is_ordered
is_dictionary-returns-else-is_ordered-other_is_ordered t c = grind (arith, common_steps)

pub is_map-returns-else-is_sorted-other_is_sorted : goal.is_map-returns-else-is_sorted-other_is_sorted
is_map-returns-else-is_sorted-other_is_sorted t c = grind (arith, common_steps)

pub is_same_fields-returns-then-a-b : goal.is_same_fields-returns-then-a-b
is_same_fields-returns-then-a-b t c = grind (arith, common_steps)

pub is_same_fields-loop-one-init : goal.is_same_fields-loop-one-init
is_same_fields-loop-one-init t c = grind (arith, common_steps)

pub is_same_fields-returns-then-not-is_same_field : goal.is_same_fields-returns-then-not-is_same_field
is_same_fields-returns-then-not-is_same_field t c = grind (arith, common_steps)

pub is_same_fields-loop-one-preserved : goal.is_same_fields-loop-one-preserved
is_same_fields-loop-one-preserved t c = grind (arith, common_steps)

pub is_same_fields-returns : goal.is_same_fields-returns
is_same_fields-returns t c = grind (arith, common_steps)

pub is_same_type-returns-in-Dictionary : goal.is_same_type-returns-in-Dictionary
is_same_type-returns-in-Dictionary t c = grind (arith, common_steps)

pub is_same_type-returns-in-List : goal.is_same_type-returns-in-List
is_same_type-returns-in-List t c = grind (arith, common_steps)

pub is_same_type-returns-in-LargeList : goal.is_same_type-returns-in-LargeList
is_same_type-returns-in-LargeList t c = grind (arith, common_steps)

pub is_same_type-returns-in-Struct : goal.is_same_type-returns-in-Struct
is_same_type-returns-in-Struct t c = grind (arith, common_steps)

pub is_same_type-returns-in-Map : goal.is_same_type-returns-in-Map
is_same_type-returns-in-Map t c = grind (arith, common_steps)

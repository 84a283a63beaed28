use Rattle.std.proofs.Common.{◌≡◌, ◌∙◌, Bor, List, ap, ap₂, arith, length, map, subst, sym}
use Rattle.std.specs.Global.{Global}
use Rattle.std.specs.Prelude.{Vec}
use Rattle.std.proofs.lemmas.List.{length-map}
use Rattle.std.proofs.lemmas.Result.{err_from_is_err_and}
use Rattle.columns_core.specs.declared.cell.Cell.{Cell}
use Rattle.columns_core.specs.declared.data_type.DataType.{DataType}
use Rattle.parquet_meta.specs.declared.metadata.Ends.{Ends}
use Rattle.parquet_statistics.specs.CountType.{count_type}
use Rattle.parquet_statistics.specs.Deserialized.{byte_causes, causes_of_arrays, columns_in, deserialize_causes, side_causes_of_columns, told_of_field}
use Rattle.parquet_statistics.specs.LeafTypes.{leaf_types}
use Rattle.parquet_statistics.specs.Parts.{AreEachReady, HasSlots}
use Rattle.parquet_statistics.proofs.FieldLemmas.{are_statistics, byte_part, comes_more, counts_are_numbers, field_ready, free_arrays, has_count_slots, has_end_slots, length_part, no_causes, ok_so}
use Rattle.parquet_statistics.proofs.ToldLemmas.{IsPartOf, as_many_told, told_of_part}
use Rattle.parquet_statistics.proofs.field_statistics.statistics_of_groups.Goals as goal

abbrev type : Bor DataType → DataType
type t = t.now

abbrev items : Vec (Ends Cell) Global → List (Ends Cell)
items column = column.items

pub check_bytes-requires : goal.check_bytes-requires
check_bytes-requires c =
    let field = c.args.field.now in
    record {
      even = omega (
        arith,
        ap length c.deref-2.ensures.value,
        ap length c.deref-3.ensures.value,
        ap length c.in_ok-types.ensures.types,
        length-map c.in_ok-types.types.items type,
        ap length c.in_ok-told.ensures.told,
        length-map c.in_ok-told.told.items items,
        as_many_told (leaf_types field.data_type) (map (columns_in field) c.args.row_groups.now),
      );
    }

pub returns-in_err-check_bytes-clause-cause : goal.returns-in_err-check_bytes-clause-cause
returns-in_err-check_bytes-clause-cause c =
    let p = err_from_is_err_and c.from_residual-in_err-check_bytes.result c.from_residual-in_err-check_bytes.ensures.1 in
    let field = c.args.field.now in
    let groups = c.args.row_groups.now in
    let some = side_causes_of_columns (map type c.deref-2.result.now) (map items c.deref-3.result.now) in
    let same : some ≡ byte_causes field groups =
    ap₂ side_causes_of_columns (ap (map type) c.deref-2.ensures.value ∙ c.in_ok-types.ensures.types) (ap (map items) c.deref-3.ensures.value ∙ c.in_ok-told.ensures.told) in
    rw (p.1, p.2)
    (told_of_part some (deserialize_causes field groups) c.in_err-check_bytes.field-0.0
    (subst (λ some. IsPartOf some (deserialize_causes field groups)) (sym same) (byte_part field groups c.in_ok-types.ensures.ok c.in_ok-told.ensures.ok))
    c.in_err-check_bytes.ensures.cause)

pub arrays_of_field-requires-clause-ready : goal.arrays_of_field-requires-clause-ready
arrays_of_field-requires-clause-ready c =
    let field = c.args.field.now in
    let groups = c.args.row_groups.now in
    let bytes : side_causes_of_columns (map type c.deref-2.result.now) (map items c.deref-3.result.now) ≡ byte_causes field groups =
    ap₂ side_causes_of_columns (ap (map type) c.deref-2.ensures.value ∙ c.in_ok-types.ensures.types) (ap (map items) c.deref-3.ensures.value ∙ c.in_ok-told.ensures.told) in
    let types = ap (map type) c.deref-4.ensures.value ∙ c.in_ok-types.ensures.types in
    let told = ap (map items) c.deref-5.ensures.value ∙ c.in_ok-told.ensures.told in
    subst (λ types. AreEachReady types (map items c.deref-5.result.now)) (sym types)
    (subst (λ told. AreEachReady (leaf_types field.data_type) told) (sym told) (field_ready field groups c.in_ok-types.ensures.ok (sym bytes ∙ c.in_ok-check_bytes.ensures.ok)))

pub arrays_of_field-requires-clause-ends : goal.arrays_of_field-requires-clause-ends
arrays_of_field-requires-clause-ends c =
    let field = c.args.field.now in
    subst (HasSlots field.data_type) (sym (ap (map items) c.deref-5.ensures.value ∙ c.in_ok-told.ensures.told)) (has_end_slots field c.args.row_groups.now c.requires.fits c.in_ok-told.ensures.ok)

pub arrays_of_field-requires-clause-counts : goal.arrays_of_field-requires-clause-counts
arrays_of_field-requires-clause-counts c =
    let field = c.args.field.now in
    subst (HasSlots (count_type field.data_type)) (sym (ap (map items) c.deref-5.ensures.value ∙ c.in_ok-told.ensures.told)) (has_count_slots field c.args.row_groups.now c.requires.fits c.in_ok-told.ensures.ok)

pub arrays_of_field-requires-clause-counted : goal.arrays_of_field-requires-clause-counted
arrays_of_field-requires-clause-counted c =
    let field = c.args.field.now in
    let told = c.deref-5.result.now in
    let as_many : length told ≡ length (leaf_types field.data_type) =
    omega (arith, length-map told items, ap length (ap (map items) c.deref-5.ensures.value ∙ c.in_ok-told.ensures.told), as_many_told (leaf_types field.data_type) (map (columns_in field) c.args.row_groups.now)) in
    counts_are_numbers field.data_type told c.in_ok-types.ensures.ok as_many

pub returns-clause-arrays : goal.returns-clause-arrays
returns-clause-arrays c =
    are_statistics c.arrays_of_field.result c.args.field.now c.args.row_groups.now (map items c.deref-5.result.now) (ap (map items) c.deref-5.ensures.value ∙ c.in_ok-told.ensures.told) c.arrays_of_field.ensures.arrays

pub returns-clause-ok : goal.returns-clause-ok
returns-clause-ok c =
    let field = c.args.field.now in
    let groups = c.args.row_groups.now in
    let bytes : side_causes_of_columns (map type c.deref-2.result.now) (map items c.deref-3.result.now) ≡ byte_causes field groups =
    ap₂ side_causes_of_columns (ap (map type) c.deref-2.ensures.value ∙ c.in_ok-types.ensures.types) (ap (map items) c.deref-3.ensures.value ∙ c.in_ok-told.ensures.told) in
    let told : map items c.deref-5.result.now ≡ told_of_field field groups = ap (map items) c.deref-5.ensures.value ∙ c.in_ok-told.ensures.told in
    ok_so c.arrays_of_field.result _ _
    (λ none. no_causes field groups c.in_ok-types.ensures.ok c.in_ok-told.ensures.ok (sym bytes ∙ c.in_ok-check_bytes.ensures.ok) (ap (causes_of_arrays field.data_type) (sym told) ∙ none))
    (free_arrays c.arrays_of_field.result field.data_type (map items c.deref-5.result.now) c.arrays_of_field.ensures.arrays)

pub returns-clause-cause : goal.returns-clause-cause
returns-clause-cause c =
    let field = c.args.field.now in
    let groups = c.args.row_groups.now in
    let told : map items c.deref-5.result.now ≡ told_of_field field groups = ap (map items) c.deref-5.ensures.value ∙ c.in_ok-told.ensures.told in
    comes_more c.arrays_of_field.result (causes_of_arrays field.data_type (map items c.deref-5.result.now)) (deserialize_causes field groups)
    (subst (λ told. IsPartOf (causes_of_arrays field.data_type told) (deserialize_causes field groups)) (sym told) (length_part field groups c.in_ok-types.ensures.ok c.in_ok-told.ensures.ok))
    c.arrays_of_field.ensures.cause

use Rattle.std.proofs.Common.{◌≡◌, ◌∙◌, ap, length, map, refl, sym}
use Rattle.std.specs.Vec.Iter.{into_iter_items, into_iter_len}
use Rattle.std.proofs.lemmas.Iterator.Adapters.{YieldsList-from_vec}
use Rattle.std.proofs.lemmas.Iterator.Consumers.{YieldsList-turn}
use Rattle.std.proofs.lemmas.Result.{err_from_is_err_and}
use Rattle.columns_core.specs.Array.{cells, column_of}
use Rattle.parquet_statistics.specs.Made.{dictionary_made, list_made, made_array, made_by, made_refusals, made_shown, map_made, struct_made}
use Rattle.parquet_statistics.specs.declared.dyn_mutable.DynMutable.{DynMutable, Dictionary, List as ListBuilder, Map, Struct}
use Rattle.parquet_statistics.proofs.BuilderLemmas.{made_of_flat}
use Rattle.parquet_statistics.proofs.KeyedLemmas.{not_flat, not_list, not_map, not_struct}
use Rattle.parquet_statistics.proofs.MadeLemmas.{as_free, as_keyed, as_made, as_refused_made, dictionary_inside, dictionary_over, list_inside, list_over, map_inside, map_over, one_refused, struct_inside, struct_over}
use Rattle.parquet_statistics.proofs.ShapeLemmas.{on_ok, so_ok}
use Rattle.parquet_statistics.proofs.+as_box.Goals as goal

pub as_box::arrays_of-returns-in_err-as_box-clause-err : goal.as_box::arrays_of-returns-in_err-as_box-clause-err
as_box::arrays_of-returns-in_err-as_box-clause-err t c =
    let p = err_from_is_err_and c.from_residual.result c.from_residual.ensures.1 in
    let builders = c.args.builders.items in
    let all : into_iter_items c.into_iter-builder-iterator.result ≡ builders = cc in
    let many : into_iter_len c.into_iter-builder-iterator.result ≡ length builders = cc in
    let turn = YieldsList-turn (YieldsList-from_vec builders all many) c.loop-builder.yielded c.loop-builder.builder-iterator c.loop-builder.yielded_by c.next.result c.next.new.self c.in-Some.builder c.in-Some.is c.next.ensures.steps in
    rw (p.1, p.2) (one_refused builders (length c.loop-builder.yielded) c.in-Some.builder turn.0 turn.1 c.in_err-as_box.field-0.0 c.in_err-as_box.ensures.err)

pub dyn_mutable::DynMutable::as_box-returns-in-Flat-clause-array : goal.dyn_mutable::DynMutable::as_box-returns-in-Flat-clause-array
dyn_mutable::DynMutable::as_box-returns-in-Flat-clause-array t c =
    let made = ap (λ (own : DynMutable). made_shown (made_by own)) c.in-Flat.is ∙ ap made_shown (made_of_flat c.in-Flat.builder) in
    so_ok c.into_array.result (λ array. column_of array ≡ c.in-Flat.builder) (λ array. column_of array ≡ made_shown (made_by c.args.self)) (λ array shown. shown ∙ sym made) c.into_array.ensures.array

pub dyn_mutable::DynMutable::as_box-returns-in-Flat-clause-ok : goal.dyn_mutable::DynMutable::as_box-returns-in-Flat-clause-ok
dyn_mutable::DynMutable::as_box-returns-in-Flat-clause-ok t c =
    on_ok c.into_array.result _ (ap (λ (own : DynMutable). made_refusals (made_by own)) c.in-Flat.is ∙ ap made_refusals (made_of_flat c.in-Flat.builder))

pub dyn_mutable::DynMutable::as_box-returns-in-Flat-clause-keys : goal.dyn_mutable::DynMutable::as_box-returns-in-Flat-clause-keys
dyn_mutable::DynMutable::as_box-returns-in-Flat-clause-keys t c keyed = not_flat c.args.self keyed c.in-Flat.builder c.in-Flat.is

pub dyn_mutable::DynMutable::as_box-returns-in-List-clause-keys : goal.dyn_mutable::DynMutable::as_box-returns-in-List-clause-keys
dyn_mutable::DynMutable::as_box-returns-in-List-clause-keys t c keyed = not_list c.args.self keyed c.in-List.items c.in-List.is

pub dyn_mutable::DynMutable::as_box-returns-in-Map-clause-keys : goal.dyn_mutable::DynMutable::as_box-returns-in-Map-clause-keys
dyn_mutable::DynMutable::as_box-returns-in-Map-clause-keys t c keyed = not_map c.args.self keyed c.in-Map.pairs c.in-Map.is

pub dyn_mutable::DynMutable::as_box-returns-in-Struct-clause-keys : goal.dyn_mutable::DynMutable::as_box-returns-in-Struct-clause-keys
dyn_mutable::DynMutable::as_box-returns-in-Struct-clause-keys t c keyed = not_struct c.args.self keyed c.in-Struct.fields c.in-Struct.is

pub dyn_mutable::DynMutableDictionary::as_box-returns-in_err-entries-clause-err : goal.dyn_mutable::DynMutableDictionary::as_box-returns-in_err-entries-clause-err
dyn_mutable::DynMutableDictionary::as_box-returns-in_err-entries-clause-err t c =
    let p = err_from_is_err_and c.from_residual.result c.from_residual.ensures.1 in
    rw (p.1, p.2) (dictionary_inside c.into_inner.result c.in_err-entries.field-0.0 c.in_err-entries.ensures.err c.args.self c.into_inner.ensures)

pub dyn_mutable::DynMutableDictionary::as_box-returns-clause-array : goal.dyn_mutable::DynMutableDictionary::as_box-returns-clause-array
dyn_mutable::DynMutableDictionary::as_box-returns-clause-array t c =
    as_made c.dictionary_of.result (dictionary_made c.args.self.data_type (made_array c.in_ok-entries.entries)) (made_by (Dictionary c.args.self))
    (dictionary_over c.into_inner.result c.in_ok-entries.entries c.in_ok-entries.ensures.array c.in_ok-entries.ensures.ok c.args.self c.into_inner.ensures) c.dictionary_of.ensures.array

pub dyn_mutable::DynMutableDictionary::as_box-returns-clause-keys : goal.dyn_mutable::DynMutableDictionary::as_box-returns-clause-keys
dyn_mutable::DynMutableDictionary::as_box-returns-clause-keys t c =
    as_keyed c.dictionary_of.result (dictionary_made c.args.self.data_type (made_array c.in_ok-entries.entries)) (made_by (Dictionary c.args.self)) (cells c.in_ok-entries.entries)
    (dictionary_over c.into_inner.result c.in_ok-entries.entries c.in_ok-entries.ensures.array c.in_ok-entries.ensures.ok c.args.self c.into_inner.ensures) refl c.dictionary_of.ensures.keys

pub dyn_mutable::DynMutableDictionary::as_box-returns-clause-ok : goal.dyn_mutable::DynMutableDictionary::as_box-returns-clause-ok
dyn_mutable::DynMutableDictionary::as_box-returns-clause-ok t c =
    as_free c.dictionary_of.result (dictionary_made c.args.self.data_type (made_array c.in_ok-entries.entries)) (made_by (Dictionary c.args.self))
    (dictionary_over c.into_inner.result c.in_ok-entries.entries c.in_ok-entries.ensures.array c.in_ok-entries.ensures.ok c.args.self c.into_inner.ensures) c.dictionary_of.ensures.ok

pub dyn_mutable::DynMutableDictionary::as_box-returns-clause-err : goal.dyn_mutable::DynMutableDictionary::as_box-returns-clause-err
dyn_mutable::DynMutableDictionary::as_box-returns-clause-err t c =
    as_refused_made c.dictionary_of.result (dictionary_made c.args.self.data_type (made_array c.in_ok-entries.entries)) (made_by (Dictionary c.args.self))
    (dictionary_over c.into_inner.result c.in_ok-entries.entries c.in_ok-entries.ensures.array c.in_ok-entries.ensures.ok c.args.self c.into_inner.ensures) c.dictionary_of.ensures.err

pub dyn_mutable::DynMutableListArray::as_box-returns-in_err-items-clause-err : goal.dyn_mutable::DynMutableListArray::as_box-returns-in_err-items-clause-err
dyn_mutable::DynMutableListArray::as_box-returns-in_err-items-clause-err t c =
    let p = err_from_is_err_and c.from_residual.result c.from_residual.ensures.1 in
    rw (p.1, p.2) (list_inside c.into_inner.result c.in_err-items.field-0.0 c.in_err-items.ensures.err c.args.self c.into_inner.ensures)

pub dyn_mutable::DynMutableListArray::as_box-returns-clause-array : goal.dyn_mutable::DynMutableListArray::as_box-returns-clause-array
dyn_mutable::DynMutableListArray::as_box-returns-clause-array t c =
    as_made c.lists_of_one.result (list_made c.args.self.data_type (made_array c.in_ok-items.items)) (made_by (ListBuilder c.args.self))
    (list_over c.into_inner.result c.in_ok-items.items c.in_ok-items.ensures.array c.in_ok-items.ensures.ok c.args.self c.into_inner.ensures) c.lists_of_one.ensures.array

pub dyn_mutable::DynMutableListArray::as_box-returns-clause-ok : goal.dyn_mutable::DynMutableListArray::as_box-returns-clause-ok
dyn_mutable::DynMutableListArray::as_box-returns-clause-ok t c =
    as_free c.lists_of_one.result (list_made c.args.self.data_type (made_array c.in_ok-items.items)) (made_by (ListBuilder c.args.self))
    (list_over c.into_inner.result c.in_ok-items.items c.in_ok-items.ensures.array c.in_ok-items.ensures.ok c.args.self c.into_inner.ensures) c.lists_of_one.ensures.ok

pub dyn_mutable::DynMutableListArray::as_box-returns-clause-err : goal.dyn_mutable::DynMutableListArray::as_box-returns-clause-err
dyn_mutable::DynMutableListArray::as_box-returns-clause-err t c =
    as_refused_made c.lists_of_one.result (list_made c.args.self.data_type (made_array c.in_ok-items.items)) (made_by (ListBuilder c.args.self))
    (list_over c.into_inner.result c.in_ok-items.items c.in_ok-items.ensures.array c.in_ok-items.ensures.ok c.args.self c.into_inner.ensures) c.lists_of_one.ensures.err

pub dyn_mutable::DynMutableMapArray::as_box-returns-in_err-pairs-clause-err : goal.dyn_mutable::DynMutableMapArray::as_box-returns-in_err-pairs-clause-err
dyn_mutable::DynMutableMapArray::as_box-returns-in_err-pairs-clause-err t c =
    let p = err_from_is_err_and c.from_residual.result c.from_residual.ensures.1 in
    rw (p.1, p.2) (map_inside c.into_inner.result c.in_err-pairs.field-0.0 c.in_err-pairs.ensures.err c.args.self c.into_inner.ensures)

pub dyn_mutable::DynMutableMapArray::as_box-returns-clause-array : goal.dyn_mutable::DynMutableMapArray::as_box-returns-clause-array
dyn_mutable::DynMutableMapArray::as_box-returns-clause-array t c =
    as_made c.map_of_all.result (map_made c.args.self.data_type (made_array c.in_ok-pairs.pairs)) (made_by (Map c.args.self))
    (map_over c.into_inner.result c.in_ok-pairs.pairs c.in_ok-pairs.ensures.array c.in_ok-pairs.ensures.ok c.args.self c.into_inner.ensures) c.map_of_all.ensures.array

pub dyn_mutable::DynMutableMapArray::as_box-returns-clause-ok : goal.dyn_mutable::DynMutableMapArray::as_box-returns-clause-ok
dyn_mutable::DynMutableMapArray::as_box-returns-clause-ok t c =
    as_free c.map_of_all.result (map_made c.args.self.data_type (made_array c.in_ok-pairs.pairs)) (made_by (Map c.args.self))
    (map_over c.into_inner.result c.in_ok-pairs.pairs c.in_ok-pairs.ensures.array c.in_ok-pairs.ensures.ok c.args.self c.into_inner.ensures) c.map_of_all.ensures.ok

pub dyn_mutable::DynMutableMapArray::as_box-returns-clause-err : goal.dyn_mutable::DynMutableMapArray::as_box-returns-clause-err
dyn_mutable::DynMutableMapArray::as_box-returns-clause-err t c =
    as_refused_made c.map_of_all.result (map_made c.args.self.data_type (made_array c.in_ok-pairs.pairs)) (made_by (Map c.args.self))
    (map_over c.into_inner.result c.in_ok-pairs.pairs c.in_ok-pairs.ensures.array c.in_ok-pairs.ensures.ok c.args.self c.into_inner.ensures) c.map_of_all.ensures.err

pub dyn_mutable::DynMutableStructArray::as_box-returns-in_err-columns-clause-err : goal.dyn_mutable::DynMutableStructArray::as_box-returns-in_err-columns-clause-err
dyn_mutable::DynMutableStructArray::as_box-returns-in_err-columns-clause-err t c =
    let p = err_from_is_err_and c.from_residual.result c.from_residual.ensures.1 in
    rw (p.1, p.2) (struct_inside c.args.self c.in_err-columns.field-0.0 c.in_err-columns.ensures.err)

pub dyn_mutable::DynMutableStructArray::as_box-returns-clause-array : goal.dyn_mutable::DynMutableStructArray::as_box-returns-clause-array
dyn_mutable::DynMutableStructArray::as_box-returns-clause-array t c =
    as_made c.side_by_side.result (struct_made c.args.self.data_type (map made_array c.in_ok-columns.columns.items)) (made_by (Struct c.args.self))
    (struct_over c.args.self c.in_ok-columns.columns.items c.in_ok-columns.ensures.arrays) c.side_by_side.ensures.array

pub dyn_mutable::DynMutableStructArray::as_box-returns-clause-ok : goal.dyn_mutable::DynMutableStructArray::as_box-returns-clause-ok
dyn_mutable::DynMutableStructArray::as_box-returns-clause-ok t c =
    as_free c.side_by_side.result (struct_made c.args.self.data_type (map made_array c.in_ok-columns.columns.items)) (made_by (Struct c.args.self))
    (struct_over c.args.self c.in_ok-columns.columns.items c.in_ok-columns.ensures.arrays) c.side_by_side.ensures.ok

pub dyn_mutable::DynMutableStructArray::as_box-returns-clause-err : goal.dyn_mutable::DynMutableStructArray::as_box-returns-clause-err
dyn_mutable::DynMutableStructArray::as_box-returns-clause-err t c =
    as_refused_made c.side_by_side.result (struct_made c.args.self.data_type (map made_array c.in_ok-columns.columns.items)) (made_by (Struct c.args.self))
    (struct_over c.args.self c.in_ok-columns.columns.items c.in_ok-columns.ensures.arrays) c.side_by_side.ensures.err

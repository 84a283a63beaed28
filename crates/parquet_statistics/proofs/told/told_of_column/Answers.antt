use Rattle.std.proofs.Common.{◌∙◌, ◌+◌, ◌++◌, Bor, List, [], ◌∷◌, ap, append_assoc, arith, drop, length, map, sym, take}
use Rattle.std.specs.Global.{Global}
use Rattle.std.specs.Prelude.{Vec, flat_map}
use Rattle.std.proofs.lemmas.List.{length-map, map-append}
use Rattle.std.proofs.lemmas.Result.{err_from_is_err_and}
use Rattle.parquet_meta.specs.declared.metadata.ColumnChunkMetaData.{ColumnChunkMetaData}
use Rattle.column_ends.specs.Converted.{group_causes}
use Rattle.parquet_statistics.specs.Deserialized.{told_in}
use Rattle.parquet_statistics.specs.Parts.{columns_in_place}
use Rattle.parquet_statistics.proofs.ToldLemmas.{flat_both, part_front, place_next, told_of_part, wide_here}
use Rattle.parquet_statistics.proofs.told.told_of_column.Goals as goal

abbrev Column : Type 0
Column = Bor ColumnChunkMetaData

abbrev now : Column → ColumnChunkMetaData
now column = column.now

abbrev shown : Vec Column Global → List ColumnChunkMetaData
shown columns = map now columns.items

pub told_in_place-requires : goal.told_in_place-requires
told_in_place-requires c = record {
  within = omega (
    arith,
    ap length c.deref.ensures.value,
    length-map c.columns-item.result.items now,
    wide_here shown c.args.groups.now c.loop-columns.columns-index c.columns-item.result c.loop-columns-test.true c.columns-item.is c.args.place c.requires.wide,
  );
}

pub loop-columns-preserved : goal.loop-columns-preserved
loop-columns-preserved c =
    let type = c.args.data_type.now in
    let place = c.args.place in
    let groups = c.args.groups.now in
    let group = c.columns-item.result in
    let i = c.loop-columns.columns-index in
    let next = place_next shown groups i group c.loop-columns-test.true c.columns-item.is place in
    let rest = columns_in_place place (map shown (drop (i + 1) groups)) in
    let own = take 1 (drop place (shown group)) in
    let here = ap (λ (columns : List Column). take 1 (drop place (map now columns))) (sym c.deref.ensures.value) in
    let ends = c.in_ok-told_in_place.field-0 in
    let so_far = c.loop-columns.told.items in
    record {
      told = c.loop-columns.invariant.told
          ∙ ap (λ columns. so_far ++ map (told_in type) columns) next
          ∙ ap (λ columns. so_far ++ columns) (map-append (told_in type) own rest)
          ∙ ap (λ front. so_far ++ (front ++ map (told_in type) rest)) (ap (map (told_in type)) here ∙ c.in_ok-told_in_place.ensures.told)
          ∙ sym (append_assoc so_far (ends ∷ []) (map (told_in type) rest))
          ∙ ap (λ items. items ++ map (told_in type) rest) (sym c.in_ok-push.ensures.items);
      none = c.loop-columns.invariant.none
          ∙ ap (flat_map (group_causes type)) next
          ∙ flat_both (group_causes type) own rest
          ∙ ap (λ causes. causes ++ flat_map (group_causes type) rest) (ap (flat_map (group_causes type)) here ∙ c.in_ok-told_in_place.ensures.ok);
    }

pub returns-in_err-told_in_place-clause-cause : goal.returns-in_err-told_in_place-clause-cause
returns-in_err-told_in_place-clause-cause c =
    let p = err_from_is_err_and c.from_residual-in_err-told_in_place.result c.from_residual-in_err-told_in_place.ensures.1 in
    let type = c.args.data_type.now in
    let place = c.args.place in
    let groups = c.args.groups.now in
    let group = c.columns-item.result in
    let i = c.loop-columns.columns-index in
    let next = place_next shown groups i group c.loop-columns-test.true c.columns-item.is place in
    let rest = columns_in_place place (map shown (drop (i + 1) groups)) in
    let own = take 1 (drop place (shown group)) in
    let here = ap (λ (columns : List Column). flat_map (group_causes type) (take 1 (drop place (map now columns)))) c.deref.ensures.value in
    let some = flat_map (group_causes type) (take 1 (drop place (map now c.deref.result.now))) in
    rw (p.1, p.2)
    (told_of_part some (flat_map (group_causes type) (columns_in_place place (map shown groups))) c.in_err-told_in_place.field-0.0
    (part_front some (flat_map (group_causes type) own) (flat_map (group_causes type) rest) (flat_map (group_causes type) (columns_in_place place (map shown groups)))
    (c.loop-columns.invariant.none ∙ ap (flat_map (group_causes type)) next ∙ flat_both (group_causes type) own rest) here)
    c.in_err-told_in_place.ensures.cause)

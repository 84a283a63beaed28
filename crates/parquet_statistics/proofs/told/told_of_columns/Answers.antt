use Rattle.std.proofs.Common.{◌∙◌, ◌+◌, ◌++◌, Bor, List, [], ◌∷◌, ap, append_assoc, drop, length, map, refl, sym}
use Rattle.std.specs.Global.{Global}
use Rattle.std.specs.Prelude.{Vec, flat_map}
use Rattle.std.proofs.lemmas.List.{map-append}
use Rattle.std.proofs.lemmas.Result.{err_from_is_err_and}
use Rattle.columns_core.specs.declared.cell.Cell.{Cell}
use Rattle.columns_core.specs.declared.data_type.DataType.{DataType}
use Rattle.parquet_meta.specs.declared.metadata.ColumnChunkMetaData.{ColumnChunkMetaData}
use Rattle.parquet_meta.specs.declared.metadata.Ends.{Ends}
use Rattle.column_ends.specs.Converted.{group_causes}
use Rattle.parquet_statistics.specs.Deserialized.{told_columns}
use Rattle.parquet_statistics.specs.Parts.{causes_by_column, columns_in_place}
use Rattle.parquet_statistics.proofs.ToldLemmas.{all_wide, causes_next, none_dropped, part_front, told_next, told_of_part}
use Rattle.parquet_statistics.proofs.told.told_of_columns.Goals as goal

abbrev type : Bor DataType → DataType
type t = t.now

abbrev shown : Vec (Bor ColumnChunkMetaData) Global → List ColumnChunkMetaData
shown columns = map (λ (column : Bor ColumnChunkMetaData). column.now) columns.items

abbrev items : Vec (Ends Cell) Global → List (Ends Cell)
items column = column.items

pub loop-place-init : goal.loop-place-init
loop-place-init c =
    let types = map type c.args.types.now in
    let groups = map shown c.args.groups.now in
    record {
      told = ap (told_columns types) (sym (none_dropped groups)) ∙ ap (λ front. map items front ++ told_columns types (map (drop 0) groups)) (sym c.in_ok-told.ensures.items);
      none = ap (causes_by_column types) (sym (none_dropped groups));
    }

pub told_of_column-requires : goal.told_of_column-requires
told_of_column-requires c = record {
  wide = all_wide (length c.args.types.now) c.loop-place.place (map shown c.args.groups.now) c.loop-place-test.true c.requires.even;
}

pub loop-place-preserved : goal.loop-place-preserved
loop-place-preserved c =
    let types = c.args.types.now in
    let place = c.loop-place.place in
    let own = c.index-types-place.result in
    let groups = map shown c.args.groups.now in
    let front = c.loop-place.told.items in
    let column = c.in_ok-told_of_column.field-0 in
    let rest = told_columns (map type (drop (place + 1) types)) (map (drop (place + 1)) groups) in
    record {
      told = c.loop-place.invariant.told
          ∙ ap (λ others. map items front ++ others) (told_next type types place own c.loop-place-test.true c.index-types-place.is groups)
          ∙ ap (λ first. map items front ++ first ∷ rest) (sym c.in_ok-told_of_column.ensures.told)
          ∙ sym (append_assoc (map items front) (items column ∷ []) rest)
          ∙ ap (λ all. all ++ rest) (sym (ap (map items) c.in_ok-push.ensures.items ∙ map-append items front (column ∷ [])));
      none = c.loop-place.invariant.none
          ∙ causes_next type types place own c.loop-place-test.true c.index-types-place.is groups
          ∙ ap (λ causes. causes ++ causes_by_column (map type (drop (place + 1) types)) (map (drop (place + 1)) groups)) c.in_ok-told_of_column.ensures.ok;
    }

pub returns-in_err-told_of_column-clause-cause : goal.returns-in_err-told_of_column-clause-cause
returns-in_err-told_of_column-clause-cause c =
    let p = err_from_is_err_and c.from_residual-in_err-told_of_column.result c.from_residual-in_err-told_of_column.ensures.1 in
    let types = c.args.types.now in
    let place = c.loop-place.place in
    let own = c.index-types-place.result in
    let groups = map shown c.args.groups.now in
    let some = flat_map (group_causes own.now) (columns_in_place place groups) in
    rw (p.1, p.2)
    (told_of_part some (causes_by_column (map type types) groups) c.in_err-told_of_column.field-0.0
    (part_front some some (causes_by_column (map type (drop (place + 1) types)) (map (drop (place + 1)) groups)) (causes_by_column (map type types) groups)
    (c.loop-place.invariant.none ∙ causes_next type types place own c.loop-place-test.true c.index-types-place.is groups) refl)
    c.in_err-told_of_column.ensures.cause)

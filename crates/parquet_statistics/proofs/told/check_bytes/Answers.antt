use Rattle.std.proofs.Common.{◌∙◌, ◌<◌, ◌+◌, Bor, List, ap, arith, drop, length, map}
use Rattle.std.specs.Global.{Global}
use Rattle.std.specs.Prelude.{Vec}
use Rattle.std.proofs.lemmas.Result.{err_from_is_err_and}
use Rattle.columns_core.specs.declared.cell.Cell.{Cell}
use Rattle.columns_core.specs.declared.data_type.DataType.{DataType}
use Rattle.parquet_meta.specs.declared.metadata.Ends.{Ends}
use Rattle.column_ends.specs.Converted.{group_array_causes}
use Rattle.parquet_statistics.specs.Deserialized.{side_causes_of_columns}
use Rattle.parquet_statistics.proofs.ToldLemmas.{part_front, side_next, told_of_part}
use Rattle.parquet_statistics.proofs.told.check_bytes.Goals as goal

abbrev Column : Type 0
Column = Vec (Ends Cell) Global

abbrev type : Bor DataType → DataType
type t = t.now

abbrev items : Column → List (Ends Cell)
items column = column.items

pub returns-in_err-check_column-clause-cause : goal.returns-in_err-check_column-clause-cause
returns-in_err-check_column-clause-cause c =
    let p = err_from_is_err_and c.from_residual.result c.from_residual.ensures.1 in
    let types = c.args.types.now in
    let told = c.args.told.now in
    let i = c.loop-i.i in
    let own = c.index-types-i.result in
    let column = c.index-told-i.result in
    let within : i < length told = omega (arith, c.loop-i-test.true, c.requires.even) in
    let some = group_array_causes own.now c.deref.result.now in
    let rest = side_causes_of_columns (map type (drop (i + 1) types)) (map items (drop (i + 1) told)) in
    rw (p.1, p.2)
    (told_of_part some (side_causes_of_columns (map type types) (map items told)) c.in_err-check_column.field-0.0
    (part_front some (group_array_causes own.now column.items) rest (side_causes_of_columns (map type types) (map items told))
    (c.loop-i.invariant ∙ side_next type items types told i own column c.loop-i-test.true within c.index-types-i.is c.index-told-i.is)
    (ap (group_array_causes own.now) c.deref.ensures.value))
    c.in_err-check_column.ensures.cause)

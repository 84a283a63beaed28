use Rattle.std.proofs.Common.{◌≡◌, ◌∙◌, Bor, List, [], ◌∷◌, Ok, Err, ap, drop, map, subst, sym, take}
use Rattle.std.specs.Prelude.{IfOk, OnOk, Result, Some, flat_map}
use Rattle.std.proofs.lemmas.List.{append-nil}
use Rattle.columns_core.specs.Causes.{ComesOf}
use Rattle.columns_core.specs.declared.cell.Cell.{Cell}
use Rattle.columns_core.specs.declared.data_type.DataType.{DataType}
use Rattle.columns_core.specs.declared.error.Error.{Error}
use Rattle.parquet_meta.specs.declared.metadata.ColumnChunkMetaData.{ColumnChunkMetaData}
use Rattle.parquet_meta.specs.declared.metadata.Ends.{Ends}
use Rattle.column_ends.specs.Converted.{group_causes, group_cells}
use Rattle.parquet_statistics.specs.Deserialized.{told_in}
use Rattle.parquet_statistics.proofs.ToldLemmas.{in_place, told_is}
use Rattle.parquet_statistics.proofs.told.told_in_place.Goals as goal

abbrev now : Bor ColumnChunkMetaData → ColumnChunkMetaData
now column = column.now

told_one : (r : Result (Ends Cell) Error) (data_type : DataType) (column : ColumnChunkMetaData) (front : List ColumnChunkMetaData) → front ≡ column ∷ [] → IfOk r (λ ends. group_cells data_type column ≡ Some ends)
    → IfOk r (λ ends. map (told_in data_type) front ≡ ends ∷ [])
told_one (Ok ends) data_type column front one told = ap (map (told_in data_type)) one ∙ ap (λ own. own ∷ []) (told_is data_type column ends told)
told_one (Err e) data_type column front one told = tt

causes_of_one : (data_type : DataType) (column : ColumnChunkMetaData) (front : List ColumnChunkMetaData) → front ≡ column ∷ [] → flat_map (group_causes data_type) front ≡ group_causes data_type column
causes_of_one data_type column front one = ap (flat_map (group_causes data_type)) one ∙ append-nil (group_causes data_type column)

pub returns : goal.returns
returns c =
    let type = c.args.data_type.now in
    let column = c.index-columns-place.result in
    let front = take 1 (drop c.args.place (map now c.args.columns.now)) in
    let one : front ≡ now column ∷ [] = in_place now c.args.columns.now c.args.place column c.requires.within c.index-columns-place.is in
    let same = sym (causes_of_one type column.now front one) in
    record {
      told = told_one c.statistics_ends.result type column.now front one c.statistics_ends.ensures.ends;
      ok = subst (λ causes. OnOk c.statistics_ends.result (causes ≡ [])) same c.statistics_ends.ensures.ok;
      cause = subst (λ causes. ComesOf c.statistics_ends.result causes) same c.statistics_ends.ensures.cause;
    }

use Rattle.std.proofs.Common.{List, subst, arith, Vec, Global}
use Rattle.std.specs.Prelude.{Ok, Err}
use Rattle.std.proofs.lemmas.Result.{IfErr-weaker, IfOk-weaker, err_from_is_err_and}
use Rattle.columns_core.specs.declared.error.Part.TheVariants as part
use Rattle.parquet_meta.specs.Indexes.{FindsIndexes, field_columns}
use Rattle.parquet_meta.specs.declared.metadata.Index.{Index}
use Rattle.parquet_indexes.specs.FieldStatistics.{causes_of_typed}
use Rattle.parquet_indexes.specs.Told.{statistics_causes}
use Rattle.parquet_indexes.proofs.CarriedLemmas.{index_uncarried, told_carried}
use Rattle.parquet_indexes.proofs.LocationLemmas.{none_there}
use Rattle.parquet_indexes.proofs.TellingLemmas.{fails_by}
use Rattle.parquet_indexes.proofs.TypedLemmas.{by_index, causes_by_index, finds_one, index_refused, no_index, one_index, same_causes}
use Rattle.parquet_indexes.proofs.columns_indexes.read_column.Goals as goal

abbrev view : Vec Index Global → List Index
view indexes = indexes.items

pub returns-in_err-indexes-clause-fails : goal.returns-in_err-indexes-clause-fails
returns-in_err-indexes-clause-fails g c =
    let p = err_from_is_err_and c.from_residual.result c.from_residual.ensures.1 in
    let told = g.S.Source.told c.args.source.now in
    let start = g.S.Source.faults c.args.source.now in
    let now = g.S.Source.faults c.read_raw_indexes.new.source in
    let name = c.args.name.now in
    let column = c.args.column.now in
    let e = c.in_err-indexes.field-0.0 in
    rw (p.1, p.2) (index_refused c.args.data_type.now column view told start now e
    (finds_one view name column told start now (Err e) c.requires.named
    (subst (λ columns. FindsIndexes view (field_columns name columns) told start now (Err e)) c.from_ref.ensures.value
    (subst (λ name. FindsIndexes view (field_columns name c.from_ref.result.now) told start now (Err e)) c.as_str.ensures c.in_err-indexes.ensures.found))))

-- what was found of the column alone
pub returns-in_default-clause-fails : goal.returns-in_default-clause-fails
returns-in_default-clause-fails g c =
    let told = g.S.Source.told c.args.source.now in
    let start = g.S.Source.faults c.args.source.now in
    let now = g.S.Source.faults c.read_raw_indexes.new.source in
    let name = c.args.name.now in
    let column = c.args.column.now in
    let found = finds_one view name column told start now (Ok c.in_ok-indexes.indexes) c.requires.named
    (subst (λ columns. FindsIndexes view (field_columns name columns) told start now (Ok c.in_ok-indexes.indexes)) c.from_ref.ensures.value
    (subst (λ name. FindsIndexes view (field_columns name c.from_ref.result.now) told start now (Ok c.in_ok-indexes.indexes)) c.as_str.ensures c.in_ok-indexes.ensures.found)) in
    no_index c.args.data_type.now column told start now c.in_ok-indexes.indexes.items part.Index (none_there c.in_ok-indexes.indexes.items (omega (arith, c.in_default.ensures.cases.0))) found.2

pub returns-clause-told : goal.returns-clause-told
returns-clause-told g c =
    let told = g.S.Source.told c.args.source.now in
    let start = g.S.Source.faults c.args.source.now in
    let now = g.S.Source.faults c.read_raw_indexes.new.source in
    let name = c.args.name.now in
    let column = c.args.column.now in
    let found = finds_one view name column told start now (Ok c.in_ok-indexes.indexes) c.requires.named
    (subst (λ columns. FindsIndexes view (field_columns name columns) told start now (Ok c.in_ok-indexes.indexes)) c.from_ref.ensures.value
    (subst (λ name. FindsIndexes view (field_columns name c.from_ref.result.now) told start now (Ok c.in_ok-indexes.indexes)) c.as_str.ensures c.in_ok-indexes.ensures.found)) in
    let one = one_index c.args.data_type.now column told c.in_ok-indexes.indexes.items c.pop.new.self.items c.in-Some.index c.in-Some.ensures.items found in
    IfOk-weaker c.told_statistics.result _ _ (λ statistics are. by_index c.args.data_type.now column told c.in-Some.index statistics one.1 are) c.told_statistics.ensures.told

pub returns-clause-ok : goal.returns-clause-ok
returns-clause-ok g c =
    let told = g.S.Source.told c.args.source.now in
    let start = g.S.Source.faults c.args.source.now in
    let now = g.S.Source.faults c.read_raw_indexes.new.source in
    let name = c.args.name.now in
    let column = c.args.column.now in
    let found = finds_one view name column told start now (Ok c.in_ok-indexes.indexes) c.requires.named
    (subst (λ columns. FindsIndexes view (field_columns name columns) told start now (Ok c.in_ok-indexes.indexes)) c.from_ref.ensures.value
    (subst (λ name. FindsIndexes view (field_columns name c.from_ref.result.now) told start now (Ok c.in_ok-indexes.indexes)) c.as_str.ensures c.in_ok-indexes.ensures.found)) in
    let one = one_index c.args.data_type.now column told c.in_ok-indexes.indexes.items c.pop.new.self.items c.in-Some.index c.in-Some.ensures.items found in
    let causes = causes_by_index c.args.data_type.now column told c.in-Some.index one.0 one.1 in
    IfOk-weaker c.told_statistics.result _ _ (λ statistics none. same_causes told (λ file. causes_of_typed file (c.args.data_type.now, column)) (statistics_causes column.descriptor.primitive_type c.args.data_type.now c.in-Some.index) causes none) c.told_statistics.ensures.ok

pub returns-clause-fails : goal.returns-clause-fails
returns-clause-fails g c =
    let told = g.S.Source.told c.args.source.now in
    let start = g.S.Source.faults c.args.source.now in
    let now = g.S.Source.faults c.read_raw_indexes.new.source in
    let name = c.args.name.now in
    let column = c.args.column.now in
    let found = finds_one view name column told start now (Ok c.in_ok-indexes.indexes) c.requires.named
    (subst (λ columns. FindsIndexes view (field_columns name columns) told start now (Ok c.in_ok-indexes.indexes)) c.from_ref.ensures.value
    (subst (λ name. FindsIndexes view (field_columns name c.from_ref.result.now) told start now (Ok c.in_ok-indexes.indexes)) c.as_str.ensures c.in_ok-indexes.ensures.found)) in
    let one = one_index c.args.data_type.now column told c.in_ok-indexes.indexes.items c.pop.new.self.items c.in-Some.index c.in-Some.ensures.items found in
    let causes = causes_by_index c.args.data_type.now column told c.in-Some.index one.0 one.1 in
    IfErr-weaker c.told_statistics.result _ _ (λ e comes. fails_by told start now (λ file. causes_of_typed file (c.args.data_type.now, column)) (statistics_causes column.descriptor.primitive_type c.args.data_type.now c.in-Some.index) e causes comes) c.told_statistics.ensures.cause

pub returns-in_err-indexes-clause-carried : goal.returns-in_err-indexes-clause-carried
returns-in_err-indexes-clause-carried g c =
    let p = err_from_is_err_and c.from_residual.result c.from_residual.ensures.1 in
    let told = g.S.Source.told c.args.source.now in
    let start = g.S.Source.faults c.args.source.now in
    let now = g.S.Source.faults c.read_raw_indexes.new.source in
    let name = c.args.name.now in
    let column = c.args.column.now in
    let e = c.in_err-indexes.field-0.0 in
    rw (p.1, p.2) (index_uncarried c.args.data_type.now column view told start now e
    (finds_one view name column told start now (Err e) c.requires.named
    (subst (λ columns. FindsIndexes view (field_columns name columns) told start now (Err e)) c.from_ref.ensures.value
    (subst (λ name. FindsIndexes view (field_columns name c.from_ref.result.now) told start now (Err e)) c.as_str.ensures c.in_err-indexes.ensures.found))))

pub returns-clause-carried : goal.returns-clause-carried
returns-clause-carried g c =
    told_carried c.args.column.now.descriptor.primitive_type c.args.data_type.now c.in-Some.index c.told_statistics.result c.told_statistics.ensures.ok c.told_statistics.ensures.cause

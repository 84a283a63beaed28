use Rattle.std.proofs.Common.{List, [], ◌∷◌, subst, arith, Vec, Global}
use Rattle.std.specs.Prelude.{Result, Ok, Err}
use Rattle.std.proofs.lemmas.Result.{err_from_is_err_and}
use Rattle.columns_core.specs.declared.error.Error.{Error}
use Rattle.parquet_meta.specs.Indexes.{FindsIndexes, field_columns}
use Rattle.parquet_meta.specs.declared.metadata.Index.{Index}
use Rattle.parquet_scan.proofs.IndexLemmas.{finds_one, gives_one, gives_some, refuses_one}
use Rattle.parquet_scan.proofs.LocationLemmas.{none_of}
use Rattle.parquet_scan.proofs.page_ends.read_index.Goals as goal

pub returns-in_err-indexes-clause-found : goal.returns-in_err-indexes-clause-found
returns-in_err-indexes-clause-found g c =
    let p = err_from_is_err_and c.from_residual.result c.from_residual.ensures.1 in
    let told = g.S.Source.told c.args.source.now in
    let start = g.S.Source.faults c.args.source.now in
    let now = g.S.Source.faults c.read_raw_indexes.new.source in
    let name = c.args.name.now in
    let column = c.args.column.now in
    let view : Vec Index Global → List Index = λ indexes. indexes.items in
    let moved : (r : Result (Vec Index Global) Error) → FindsIndexes view (field_columns c.as_str.result.now c.from_ref.result.now) told start now r → FindsIndexes view (column ∷ []) told start now r = λ r finds.
    finds_one view name column told start now r c.requires.named
    (subst (λ columns. FindsIndexes view (field_columns name columns) told start now r) c.from_ref.ensures.value
    (subst (λ name. FindsIndexes view (field_columns name c.from_ref.result.now) told start now r) c.as_str.ensures finds)) in
    rw (p.1, p.2) (refuses_one view column told start now c.in_err-indexes.field-0.0 (moved (Err c.in_err-indexes.field-0.0) c.in_err-indexes.ensures.found))

pub returns-in_default-clause-found : goal.returns-in_default-clause-found
returns-in_default-clause-found g c =
    let told = g.S.Source.told c.args.source.now in
    let start = g.S.Source.faults c.args.source.now in
    let now = g.S.Source.faults c.read_raw_indexes.new.source in
    let name = c.args.name.now in
    let column = c.args.column.now in
    let view : Vec Index Global → List Index = λ indexes. indexes.items in
    let moved : (r : Result (Vec Index Global) Error) → FindsIndexes view (field_columns c.as_str.result.now c.from_ref.result.now) told start now r → FindsIndexes view (column ∷ []) told start now r = λ r finds.
    finds_one view name column told start now r c.requires.named
    (subst (λ columns. FindsIndexes view (field_columns name columns) told start now r) c.from_ref.ensures.value
    (subst (λ name. FindsIndexes view (field_columns name c.from_ref.result.now) told start now r) c.as_str.ensures finds)) in
    gives_some column told c.in_ok-indexes.indexes.items (none_of c.in_ok-indexes.indexes.items (omega (arith, c.in_default.ensures.cases.0))) (moved (Ok c.in_ok-indexes.indexes) c.in_ok-indexes.ensures.found).2

pub returns-clause-found : goal.returns-clause-found
returns-clause-found g c =
    let told = g.S.Source.told c.args.source.now in
    let start = g.S.Source.faults c.args.source.now in
    let now = g.S.Source.faults c.read_raw_indexes.new.source in
    let name = c.args.name.now in
    let column = c.args.column.now in
    let view : Vec Index Global → List Index = λ indexes. indexes.items in
    let moved : (r : Result (Vec Index Global) Error) → FindsIndexes view (field_columns c.as_str.result.now c.from_ref.result.now) told start now r → FindsIndexes view (column ∷ []) told start now r = λ r finds.
    finds_one view name column told start now r c.requires.named
    (subst (λ columns. FindsIndexes view (field_columns name columns) told start now r) c.from_ref.ensures.value
    (subst (λ name. FindsIndexes view (field_columns name c.from_ref.result.now) told start now r) c.as_str.ensures finds)) in
    gives_one column told c.in_ok-indexes.indexes.items c.pop.new.self.items c.in-Some.index c.in-Some.ensures.items (moved (Ok c.in_ok-indexes.indexes) c.in_ok-indexes.ensures.found)

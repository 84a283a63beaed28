use Rattle.std.proofs.Common.{Bor, ◌∙◌, ap, sym}
use Rattle.std.specs.Prelude.{option_map}
use Rattle.columns_core.specs.declared.data_type.DataType.{DataType}
use Rattle.parquet_meta.specs.declared.metadata.ColumnChunkMetaData.{ColumnChunkMetaData}
use Rattle.parquet_scan.proofs.CallLemmas.{reads_as}
use Rattle.parquet_scan.proofs.PageLemmas.{if_ok}
use Rattle.parquet_scan.proofs.PruningLemmas.{bound_column, bound_runs, named_begins, of_bound}
use Rattle.parquet_scan.proofs.pruning.read_runs.Goals as goal

pub runs_of_pages-requires-clause-named : goal.runs_of_pages-requires-clause-named
runs_of_pages-requires-clause-named g c =
    let group = c.args.group.now in
    let fields = c.args.fields.now in
    let bound = c.args.bound.now in
    let data_type = c.in-Some.data_type.now in
    let column = c.in-Some.column.now in
    let typed = sym c.bounded_column.ensures ∙ ap (option_map (λ (typed : Bor DataType × Bor ColumnChunkMetaData). (typed.0.now, typed.1.now))) c.in-Some.is in
    named_begins group bound.field column (bound_column fields group bound data_type column typed)

pub returns-clause-reads : goal.returns-clause-reads
returns-clause-reads g c =
    let fields = c.args.fields.now in
    let bound = c.args.bound.now in
    let data_type = c.in-Some.data_type.now in
    let column = c.in-Some.column.now in
    let typed = sym c.bounded_column.ensures ∙ ap (option_map (λ (typed : Bor DataType × Bor ColumnChunkMetaData). (typed.0.now, typed.1.now))) c.in-Some.is in
    reads_as c.runs_of_pages.result (of_bound (g.S.Source.told c.args.source.now) fields c.args.group.now bound data_type column c.args.locations.now typed c.requires.told) c.runs_of_pages.ensures.reads

pub returns-clause-runs : goal.returns-clause-runs
returns-clause-runs g c =
    let fields = c.args.fields.now in
    let bound = c.args.bound.now in
    let data_type = c.in-Some.data_type.now in
    let column = c.in-Some.column.now in
    let typed = sym c.bounded_column.ensures ∙ ap (option_map (λ (typed : Bor DataType × Bor ColumnChunkMetaData). (typed.0.now, typed.1.now))) c.in-Some.is in
    if_ok c.runs_of_pages.result
    (λ runs e. bound_runs (g.S.Source.told c.args.source.now) fields c.args.group.now bound data_type column c.args.locations.now runs.items typed c.requires.told e) c.runs_of_pages.ensures.runs

use Rattle.std.proofs.Common.{◌∙◌, ap, map}
use Rattle.std.proofs.lemmas.Result.{err_from_is_err_and}
use Rattle.columns_core.specs.Column.{Column, cell_of}
use Rattle.columns_core.specs.declared.cell.Cell.{Cells}
use Rattle.parquet_statistics.proofs.ColumnLemmas.{struct_cells, struct_free, struct_refused}
use Rattle.parquet_statistics.proofs.as_box.side_by_side.Goals as goal

pub returns-in_err-try_new-clause-err : goal.returns-in_err-try_new-clause-err
returns-in_err-try_new-clause-err c =
    let p = err_from_is_err_and c.from_residual.result c.from_residual.ensures.1 in
    let misfit = c.in_err-try_new.ensures.err in
    rw (p.1, p.2) (struct_refused c.args.data_type c.args.columns.items c.in_err-try_new.field-0.0 misfit.0 misfit.1)

pub returns-clause-array : goal.returns-clause-array
returns-clause-array c =
    ap (λ (column : Column _). (column.data_type, map (cell_of Cells) column.items)) c.in_ok-try_new.ensures.array
    ∙ ap (λ cells. (c.args.data_type, cells)) (struct_cells c.args.data_type c.args.columns.items)

pub returns-clause-ok : goal.returns-clause-ok
returns-clause-ok c = struct_free c.args.data_type c.args.columns.items c.in_ok-try_new.ensures.ok

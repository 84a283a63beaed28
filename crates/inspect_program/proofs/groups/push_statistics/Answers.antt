use Rattle.std.proofs.lemmas.Result.{err_from_is_err_and}
use Rattle.parquet_meta.specs.declared.metadata.Ends.{Ends}
use Rattle.columns_core.specs.declared.cell.Cell.{Cell}
use Rattle.std.proofs.Common.{Err}
use Rattle.inspect_program.proofs.CarriedLemmas.{statistics_carried}
use Rattle.inspect_program.proofs.groups.push_statistics.Goals as goal

pub returns-in_err-ends-clause-carried : goal.returns-in_err-ends-clause-carried
returns-in_err-ends-clause-carried c =
    let p = err_from_is_err_and c.from_residual.result c.from_residual.ensures.1 in
    rw (p.1, p.2) (statistics_carried {T = Ends Cell} c.args.column.now c.args.data_type.now (Err c.in_err-ends.field-0.0) c.requires c.in_err-ends.ensures.cause)

use Rattle.std.proofs.lemmas.Result.{err_from_is_err_and}
use Rattle.parquet_statistics.specs.Parts.{uneven_causes}
use Rattle.parquet_statistics.proofs.ToldLemmas.{one_of_each, told_of_part}
use Rattle.parquet_statistics.proofs.told.columns_of_groups.Goals as goal

pub returns-in_err-columns_of_group-clause-cause : goal.returns-in_err-columns_of_group-clause-cause
returns-in_err-columns_of_group-clause-cause c =
    let p = err_from_is_err_and c.from_residual-in_err-columns_of_group.result c.from_residual-in_err-columns_of_group.ensures.1 in
    let causes = uneven_causes c.args.count c.args.field.now in
    rw (p.1, p.2)
    (told_of_part (causes c.group-item.result) _ c.in_err-columns_of_group.field-0.0
    (one_of_each causes c.args.row_groups.now c.loop-group.group-index c.group-item.result c.loop-group-test.true c.group-item.is)
    c.in_err-columns_of_group.ensures.cause)

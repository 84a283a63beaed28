use Rattle.std.proofs.Common.{subst}
use Rattle.std.proofs.lemmas.Result.{err_from_is_err_and}
use Rattle.columns_core.specs.declared.data_type.Field.{Field}
use Rattle.parquet_scan.specs.Causes.{field_causes}
use Rattle.parquet_scan.proofs.CauseLemmas.{ComesFrom, tells_of_all}
use Rattle.parquet_scan.proofs.groups.check_fields.Goals as goal

pub returns-in_err-check_field-clause-cause : goal.returns-in_err-check_field-clause-cause
returns-in_err-check_field-clause-cause c =
    let p = err_from_is_err_and c.from_residual.result c.from_residual.ensures.1 in
    rw (p.1, p.2) (tells_of_all (field_causes c.args.columns.now) c.args.fields.now c.loop-field.field-index c.field-item.result c.in_err-check_field.field-0.0 c.loop-field-test.true
    (subst (λ (field : Field). ComesFrom (field_causes c.args.columns.now field) c.in_err-check_field.field-0.0) c.field-item.is c.in_err-check_field.ensures.cause))

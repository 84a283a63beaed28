use Rattle.std.proofs.Common.{subst}
use Rattle.std.proofs.lemmas.Result.{err_from_is_err_and}
use Rattle.parquet_indexes.specs.Told.{decimal_page_causes}
use Rattle.parquet_indexes.proofs.ErrorLemmas.{ComesFrom, told_any}
use Rattle.parquet_indexes.proofs.fixed_len_binary.decimal_pages.Goals as goal

pub returns-in_err-decimal_page-clause-cause : goal.returns-in_err-decimal_page-clause-cause
returns-in_err-decimal_page-clause-cause c =
    let p = err_from_is_err_and c.from_residual-in_err-decimal_page.result c.from_residual-in_err-decimal_page.ensures.1 in
    let e = c.in_err-decimal_page.field-0.0 in
    rw (p.1, p.2)
    (told_any e decimal_page_causes c.args.pages.now c.loop-page.page-index c.page-item.result c.loop-page-test.true
    (subst (λ page. ComesFrom e (decimal_page_causes page)) c.page-item.is c.in_err-decimal_page.ensures.cause))

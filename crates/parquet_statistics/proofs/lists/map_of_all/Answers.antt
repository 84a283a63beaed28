use Rattle.std.proofs.Common.{◌∙◌, ◌∷◌, [], ap, false}
use Rattle.std.proofs.lemmas.Result.{err_from_is_err_and}
use Rattle.columns_core.specs.Array.{cells}
use Rattle.columns_core.specs.Nested.{map_type}
use Rattle.parquet_statistics.specs.Made.{most_places}
use Rattle.parquet_statistics.proofs.InsideLemmas.{few_free, lists_refused, many_refused}
use Rattle.parquet_statistics.proofs.SingleLemmas.{all_fit}
use Rattle.parquet_statistics.proofs.lists.map_of_all.Goals as goal

pub returns-in_err-array-in-Ok-clause-err : goal.returns-in_err-array-in-Ok-clause-err
returns-in_err-array-in-Ok-clause-err c =
    let p = err_from_is_err_and c.from_residual.result c.from_residual.ensures.1 in
    let all = c.in-Ok.ensures.places ∙ ap (λ n. 0 ∷ n ∷ []) c.len.ensures in
    rw (p.1, p.2) (lists_refused (map_type c.args.data_type) c.args.pairs (most_places false) c.in-Ok.places (all_fit (cells c.args.pairs) c.in-Ok.places all) c.in_err-array-in-Ok.field-0.0 c.in_err-array-in-Ok.ensures.err)

pub returns-in_ok-array-in-Ok-clause-ok : goal.returns-in_ok-array-in-Ok-clause-ok
returns-in_ok-array-in-Ok-clause-ok c = few_free (map_type c.args.data_type) c.args.pairs (most_places false) c.in_ok-array-in-Ok.ensures.ok.0 c.len.result c.len.ensures c.in-Ok.ensures.fits

pub returns-in-Err-clause-err : goal.returns-in-Err-clause-err
returns-in-Err-clause-err c = many_refused (map_type c.args.data_type) c.args.pairs (most_places false) c.in-Err.e c.len.result c.len.ensures c.in-Err.ensures.err

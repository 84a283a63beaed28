use Rattle.std.proofs.Common.{◌+◌, ◌∙◌, ap}
use Rattle.std.specs.List.{range_with_len}
use Rattle.std.proofs.lemmas.Result.{err_from_is_err_and}
use Rattle.columns_core.specs.Array.{cells}
use Rattle.parquet_statistics.proofs.InsideLemmas.{list_free, list_refused, list_too_long}
use Rattle.parquet_statistics.proofs.SingleLemmas.{each_fits, shown_alone}
use Rattle.parquet_statistics.proofs.lists.listed_by.Goals as goal

pub returns-in_err-array-in-Ok-clause-err : goal.returns-in_err-array-in-Ok-clause-err
returns-in_err-array-in-Ok-clause-err g c =
    let p = err_from_is_err_and c.from_residual.result c.from_residual.ensures.1 in
    let each = c.in-Ok.ensures.places ∙ ap (λ n. range_with_len 0 (n + 1)) c.len.ensures in
    rw (p.1, p.2) (list_refused c.args.data_type c.args.items g.O.Offset.is_large g.O.Offset.greatest c.requires.wide c.requires.most c.in-Ok.places (each_fits (cells c.args.items) c.in-Ok.places each) c.in_err-array-in-Ok.field-0.0 c.in_err-array-in-Ok.ensures.err)

pub returns-in_ok-array-in-Ok-clause-array : goal.returns-in_ok-array-in-Ok-clause-array
returns-in_ok-array-in-Ok-clause-array g c =
    shown_alone (cells c.args.items) c.in-Ok.places (c.in-Ok.ensures.places ∙ ap (λ n. range_with_len 0 (n + 1)) c.len.ensures) c.args.data_type c.in_ok-array-in-Ok.array c.in_ok-array-in-Ok.ensures.array

pub returns-in_ok-array-in-Ok-clause-ok : goal.returns-in_ok-array-in-Ok-clause-ok
returns-in_ok-array-in-Ok-clause-ok g c =
    list_free c.args.data_type c.args.items g.O.Offset.is_large g.O.Offset.greatest c.requires.wide c.requires.most c.in_ok-array-in-Ok.ensures.ok.0 c.len.result c.len.ensures c.in-Ok.ensures.fits

pub returns-in-Err-clause-err : goal.returns-in-Err-clause-err
returns-in-Err-clause-err g c =
    list_too_long c.args.data_type c.args.items g.O.Offset.is_large g.O.Offset.greatest c.requires.wide c.requires.most c.in-Err.e c.len.result c.len.ensures c.in-Err.ensures.err

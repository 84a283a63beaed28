use Rattle.std.proofs.Common.{◌≡◌, ◌∙◌, length, map, ap, true}
use Rattle.std.specs.Prelude.{filter}
use Rattle.std.proofs.lemmas.Bool.{eq-eqb}
use Rattle.std.proofs.lemmas.List.{length-map}
use Rattle.std.proofs.lemmas.Result.{err_from_is_err_and}
use Rattle.parquet_page.specs.Lent.{are_well_shaped, has_parts, is_wanted}
use Rattle.parquet_read.proofs.OpenLemmas.{nulls_refused}
use Rattle.parquet_read.proofs.locations.open_nulls.Goals as goal

pub returns-in_err-reader-clause-err : goal.returns-in_err-reader-clause-err
returns-in_err-reader-clause-err c =
    let p = err_from_is_err_and c.from_residual-in_err-reader.result c.from_residual-in_err-reader.ensures.1 in
    let pages = c.args.pages.items in
    let parts = map (λ body. body.items) c.in_ok-bodies.bodies.items in
    let all : has_parts pages parts ≡ true =
    eq-eqb (length parts) (length (filter is_wanted pages)) (length-map c.in_ok-bodies.bodies.items (λ body. body.items) ∙ c.in_ok-bodies.ensures.bodies ∙ ap (λ own. length (filter is_wanted own)) c.deref.ensures.value) in
    rw (p.1, p.2) (nulls_refused (are_well_shaped pages) (has_parts pages parts) pages c.in_err-reader.field-0.0 all c.in_err-reader.ensures.refusal)

use Rattle.std.proofs.Common.{◌≡◌, ◌∙◌, ◌<◌, ◌^◌, true, ℕ, ap, sym, subst, arith}
use Rattle.std.specs.Prelude.{filter}
use Rattle.std.specs.List.{range_with_len}
use Rattle.parquet_page.specs.Content.{data_content, fit_in, header_values}
use Rattle.parquet_page.specs.Plan.{is_selected}
use Rattle.parquet_page.specs.SliceLeft.{IsWalkOver, rows_left}
use Rattle.parquet_page.specs.ValidityLeft.{optional_left}
use Rattle.parquet_base.specs.Intervals.{rows_of}
use Rattle.page_decoding.specs.FilteredLeft.{intervals_of}
use Rattle.page_decoding.proofs.FilteredLemmas.{begins-page, selected_rows_are}
use Rattle.page_decoding.proofs.filtered_validity.FilteredOptionalPageValidity.try_new.Goals as goal

pub before_all-rows-requires : goal.before_all-rows-requires
before_all-rows-requires c =
    let page = data_content c.args.page.now in
    let own = begins-page page (optional_left c.in_ok-places.places page) c.len.result c.in_ok-places.ensures.places c.in_ok-places.ensures.ok (c.len.ensures page) in
    let F : ℕ → Type 0 = λ n. fit_in n page.selected ≡ true in
    subst F (sym own.many) c.requires

pub returns-clause-page : goal.returns-clause-page
returns-clause-page c =
    let page = data_content c.args.page.now in
    let places = c.in_ok-places.places in
    let rows = c.before_all-rows.result in
    let own = begins-page page (optional_left places page) c.len.result c.in_ok-places.ensures.places c.in_ok-places.ensures.ok (c.len.ensures page) in
    let W : ℕ → Type 0 = λ n. IsWalkOver rows (intervals_of n page.selected) in
    let R : ℕ → Type 0 = λ n. rows_left rows (intervals_of n page.selected) ≡ rows_of (intervals_of n page.selected) in
    let fits : c.len.result < 2 ^ 64 = omega arith in
    record {
      levels = own.some;
      intervals = subst W own.many c.before_all-rows.ensures.walk;
      place = sym c.before_all-rows.ensures.place;
      row = omega (arith, own.long);
      fits = omega (arith, own.many, fits);
      rows =
          subst R own.many c.before_all-rows.ensures.rows
          ∙ selected_rows_are (header_values page.header) page.selected c.requires
          ∙ ap (λ n. filter (is_selected page.selected) (range_with_len 0 n)) (sym own.long);
    }

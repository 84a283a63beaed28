use Rattle.std.proofs.Common.{◌<◌, ◌∙◌, ◌++◌, List, ℕ, length, map, drop, get_or, set, sym, ap, arith}
use Rattle.std.proofs.lemmas.List.{append-nil, drop_all, take_all}
use Rattle.std.proofs.lemmas.List.Edits.{map_over_more}
use Rattle.std.proofs.lemmas.Option.{get_or_from_slice_get, slice_get-get_or}
use Rattle.parquet_page.specs.declared.page.FilteredPage.{FilteredPage}
use Rattle.parquet_read.specs.Opening.{counted_from}
use Rattle.parquet_read.proofs.locations.count_from.Goals as goal

pub loop-page-preserved : goal.loop-page-preserved
loop-page-preserved c =
    let pages = c.loop-page.pages in
    let i = c.loop-page.page-index in
    let page : FilteredPage = get_or pages i c.page-item.result in
    let within : i < length pages = omega arith in
    let counted = λ (n : ℕ). let own : FilteredPage = record { start = n; length = page.length; selected_rows = page.selected_rows; num_rows = page.num_rows } in own in
    ap (λ (n : ℕ). set pages i (counted n)) c.saturating_sub-page.ensures
    ∙ map_over_more (counted_from c.args.start) c.args.pages.now pages i page c.loop-page-test.true c.loop-page.invariant
    (sym (get_or_from_slice_get pages i page page (slice_get-get_or pages i c.page-item.result within)))

pub returns : goal.returns
returns c =
    let pages = c.args.pages.now in
    let i = c.loop-page.page-index in
    let own = counted_from c.args.start in
    c.loop-page.invariant ∙ ap (λ (l : List FilteredPage). map own l ++ drop i pages) (take_all i pages c.loop-page-test.false)
    ∙ ap (λ (l : List FilteredPage). map own pages ++ l) (drop_all i pages c.loop-page-test.false) ∙ append-nil (map own pages)

use Rattle.std.proofs.Common.{◌∙◌, ◌-◌, ◌+◌, ℕ, ap, sym}
use Rattle.std.specs.Prelude.{◌&&◌, filter, nat_le}
use Rattle.std.specs.List.{list_all}
use Rattle.parquet_page.specs.Lent.{is_wanted}
use Rattle.parquet_page.specs.declared.page.FilteredPage.{FilteredPage}
use Rattle.parquet_read.proofs.PlaceLemmas.{lie_placed}
use Rattle.parquet_read.proofs.selected.lie_within.Goals as goal

pub returns : goal.returns
returns c =
    let start = c.args.start in
    let size = c.args.length in
    c.all_lie.ensures ∙ ap (λ (first : ℕ). list_all (λ (entry : FilteredPage). nat_le (entry.start - start + entry.length) size && nat_le first size) (filter is_wanted c.args.pages.now)) c.first_start_from.ensures
    ∙ sym (lie_placed start size c.args.pages.now)

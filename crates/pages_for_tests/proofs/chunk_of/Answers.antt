use Rattle.std.proofs.Common.{◌∙◌, ◌+◌, ◌++◌, ap, append-nil, append_assoc, drop, sym}
use Rattle.std.proofs.lemmas.List.{drop_all, drop_more}
use Rattle.pages_for_tests.specs.Pages.{bytes_of_pages}
use Rattle.pages_for_tests.proofs.chunk_of.Goals as goal

pub loop-page-init : goal.loop-page-init
loop-page-init c = ap (λ bytes. bytes ++ bytes_of_pages c.args.pages.now) c.new-chunk.ensures.items

pub loop-page-preserved : goal.loop-page-preserved
loop-page-preserved c =
    let pages = c.args.pages.now in
    let chunk = c.loop-page.chunk.items in
    let others = drop_more pages c.loop-page.page-index _ c.loop-page-test.true in
    ap (λ bytes. bytes ++ bytes_of_pages (drop (c.loop-page.page-index + 1) pages)) c.in_ok-push_page.ensures ∙ append_assoc chunk _ _
    ∙ ap (λ pages. chunk ++ bytes_of_pages pages) (sym others) ∙ c.loop-page.invariant

pub returns : goal.returns
returns c =
    let chunk = c.loop-page.chunk.items in
    sym (append-nil chunk) ∙ ap (λ pages. chunk ++ bytes_of_pages pages) (sym (drop_all c.loop-page.page-index c.args.pages.now c.loop-page-test.false)) ∙ c.loop-page.invariant

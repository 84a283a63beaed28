use Rattle.std.proofs.Common.{◌≡◌, ℕ, List, ◌+◌, ◌-◌, ◌++◌, Option, min, sym, subst, ap, ◌∙◌, arith, length}
use Rattle.std.specs.Ordering.{nat_cmp, ord_min}
use Rattle.parquet_page.specs.Stored.{Stored}
use Rattle.parquet_plain.specs.Columns.{Written, written_page}
use Rattle.parquet_plain.specs.Description.{page_bytes}
use Rattle.parquet_sample.specs.Parts.{sample_page}
use Rattle.parquet_sample.specs.Writing.{items_from, written_of}
use Rattle.parquet_sample.proofs.PageLemmas.{items_count, items_slice, some_rows}
use Rattle.parquet_sample.proofs.chunk.write_pages.Goals as goal
use Rattle.parquet_write.specs.Parts.{page_told}
use Rattle.parquet_write.specs.declared.facts.PageFacts.{PageFacts}
use Rattle.parquet_write.proofs.LevelLemmas.{lesser-is}
use Rattle.parquet_write.proofs.PagingLemmas.{IsPaging, paging_begins, paging_ends, paging_goes_on}

pub loop-row-init : goal.loop-row-init
loop-row-init c =
    let items : List (Option Stored) = items_from c.args.column c.args.first c.args.rows in
    let out : List ℕ = c.args.out.now.items in
    subst (λ (facts : List PageFacts). IsPaging (written_of c.args.column) items out out facts 0) (sym c.new-pages.ensures.items) (paging_begins (written_of c.args.column) items out)

pub loop-row-preserved : goal.loop-row-preserved
loop-row-preserved c =
    let to : Written = written_of c.args.column in
    let items : List (Option Stored) = items_from c.args.column c.args.first c.args.rows in
    let many = items_count c.args.column c.args.first c.args.rows in
    let start : List ℕ = c.args.out.now.items in
    let out : List ℕ = c.loop-row.out.items in
    let row : ℕ = c.loop-row.row in
    let count : ℕ = c.min-count.result in
    let most : c.page_rows.result ≡ to.page_rows = c.page_rows.ensures in
    let least : count ≡ min to.page_rows (c.args.rows - row) =
    c.min-count.ensures ∙ ap (λ (n : ℕ). ord_min nat_cmp n (c.args.rows - row)) most ∙ lesser-is to.page_rows (c.args.rows - row) in
    let own = ap (written_page to) (sym (items_slice c.args.column c.args.first c.args.rows row count (omega (arith, least)))) in
    let page = ap (λ (k : ℕ). sample_page c.args.column (c.args.first + k) count) c.from.ensures ∙ own in
    let next = paging_goes_on to items start out c.loop-row.pages.items row (row + count) c.write_rows.new.out.items c.in_ok-page.page (some_rows c.args.column) c.loop-row.invariant
    (omega (arith, many)) (omega (arith, many, least)) (c.in_ok-page.ensures.written ∙ ap (λ p. out ++ page_bytes p) page) (c.in_ok-page.ensures.told ∙ ap (page_told (length out) row) page) in
    subst (λ (facts : List PageFacts). IsPaging to items start c.write_rows.new.out.items facts (row + count)) (sym c.in_ok-push.ensures.items) next

pub returns-clause-written : goal.returns-clause-written
returns-clause-written c =
    (paging_ends (written_of c.args.column) (items_from c.args.column c.args.first c.args.rows) c.args.out.now.items c.loop-row.out.items c.loop-row.pages.items c.loop-row.row
    (omega (arith, items_count c.args.column c.args.first c.args.rows)) c.loop-row.invariant).0

pub returns-clause-told : goal.returns-clause-told
returns-clause-told c =
    (paging_ends (written_of c.args.column) (items_from c.args.column c.args.first c.args.rows) c.args.out.now.items c.loop-row.out.items c.loop-row.pages.items c.loop-row.row
    (omega (arith, items_count c.args.column c.args.first c.args.rows)) c.loop-row.invariant).1

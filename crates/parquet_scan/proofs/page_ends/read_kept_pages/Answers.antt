use Rattle.std.proofs.Common.{◌≡◌, ◌∙◌, arith, length, sym}
use Rattle.std.specs.Prelude.{slice_get}
use Rattle.std.proofs.lemmas.Result.{err_from_is_err_and}
use Rattle.columns_core.specs.declared.error.Part.TheVariants as part
use Rattle.parquet_scan.proofs.CallLemmas.{answered, refused}
use Rattle.parquet_scan.proofs.IndexLemmas.{count_refused, ends_refused, index_fine, index_refused, numbered_keeps, pages_kept}
use Rattle.parquet_scan.proofs.page_ends.read_kept_pages.Goals as goal

pub returns-in_err-index-clause-reads : goal.returns-in_err-index-clause-reads
returns-in_err-index-clause-reads g c =
    let p = err_from_is_err_and c.from_residual.result c.from_residual.ensures.1 in
    rw (p.1, p.2) (refused c.in_err-index.ensures.keeps (index_refused c.args.data_type.now (length c.args.rows.now) c.args.column.now (g.S.Source.told c.args.source.now) (g.S.Source.faults c.args.source.now) (g.S.Source.faults c.read_index.new.source)
    c.in_err-index.field-0.0 (sym c.carries_page.ensures ∙ c.if-not-carries_page.false) c.in_err-index.ensures.found))

pub returns-in_err-keep-clause-reads : goal.returns-in_err-keep-clause-reads
returns-in_err-keep-clause-reads g c =
    let p = err_from_is_err_and c.from_residual-in_err-keep.result c.from_residual-in_err-keep.ensures.1 in
    rw (p.1, p.2) (refused c.in_ok-index.ensures.keeps (ends_refused c.args.data_type.now (length c.args.rows.now) c.args.column.now c.in_ok-index.index (g.S.Source.told c.args.source.now) (g.S.Source.faults c.args.source.now) (g.S.Source.faults c.read_index.new.source)
    c.in_err-keep.field-0.0 (sym c.carries_page.ensures ∙ c.if-not-carries_page.false) c.in_ok-index.ensures.found.2 c.in_err-keep.ensures.cause))

pub returns-then-len-rows-clause-reads : goal.returns-then-len-rows-clause-reads
returns-then-len-rows-clause-reads g c =
    let make = numbered_keeps (slice_get c.args.rows.now) c.args.bound.now in
    refused c.in_ok-index.ensures.keeps (count_refused make c.args.data_type.now (length c.args.rows.now) c.args.column.now c.in_ok-index.index c.in_ok-keep.keep.items (g.S.Source.told c.args.source.now) (g.S.Source.faults c.args.source.now)
    (g.S.Source.faults c.read_index.new.source) part.Index (sym c.carries_page.ensures ∙ c.if-not-carries_page.false) c.in_ok-index.ensures.found.2 c.in_ok-keep.ensures.made
    (λ (same : length c.in_ok-keep.keep.items ≡ length c.args.rows.now). c.if-len-rows.true (omega (arith, c.len.ensures, same))))

pub returns-clause-reads : goal.returns-clause-reads
returns-clause-reads g c =
    let make = numbered_keeps (slice_get c.args.rows.now) c.args.bound.now in
    answered c.in_ok-index.ensures.keeps c.in_ok-index.ensures.quiet
    (index_fine make c.args.data_type.now (length c.args.rows.now) c.args.column.now c.in_ok-index.index c.in_ok-keep.keep.items (g.S.Source.told c.args.source.now) (sym c.carries_page.ensures ∙ c.if-not-carries_page.false)
    c.in_ok-index.ensures.found.2 c.in_ok-keep.ensures.made (omega (arith, c.len.ensures, c.if-len-rows.false)) c.in_ok-keep.ensures.ok)

pub returns-clause-kept : goal.returns-clause-kept
returns-clause-kept g c =
    pages_kept c.args.data_type.now c.args.bound.now c.args.rows.now c.args.column.now c.in_ok-index.index c.in_ok-keep.keep.items (g.S.Source.told c.args.source.now)
    c.in_ok-index.ensures.found.2 c.in_ok-keep.ensures.made (omega (arith, c.len.ensures, c.if-len-rows.false))

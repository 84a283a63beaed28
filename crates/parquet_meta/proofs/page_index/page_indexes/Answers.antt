use Rattle.std.proofs.Common.{false, get_or}
use Rattle.std.proofs.lemmas.Result.{err_from_is_err_and}
use Rattle.parquet_meta.proofs.PageIndexLemmas.{starts, begins, goes_on, fails, ends}
use Rattle.parquet_meta.proofs.Steps.{refuses-on}
use Rattle.parquet_meta.proofs.page_index.page_indexes.Goals as goal

pub loop-page-init : goal.loop-page-init
loop-page-init g c = rw c.in_ok-pages.ensures.items (begins (g.F.EndForm.end c.args.form.now) c.args.index.now c.requires)

pub returns-in_err-page_index : goal.returns-in_err-page_index
returns-in_err-page_index g c =
    let here = starts c.args.index.now c.loop-page.page c.value-min.result.now c.value-max.result.now c.loop-page.invariant.even
    (rw c.as_slice-null_pages.ensures at c.loop-page-test.true) c.value-min.ensures c.value-max.ensures in
    let told = rw (c.as_slice-null_pages.ensures, c.null_count-nulls.ensures) at c.in_err-page_index.ensures in
    let p = err_from_is_err_and c.from_residual-in_err-page_index.result c.from_residual-in_err-page_index.ensures.1 in
    rw (p.1, p.2) (refuses-on _ _ _ _ (λ none. fails {A = g.row.T.Denot} (g.F.EndForm.end c.args.form.now) c.args.index.now c.loop-page.page c.loop-page.pages.items (get_or c.args.index.now.null_pages c.loop-page.page false) c.value-min.result.now c.value-max.result.now c.loop-page.invariant here none) told)

pub loop-page-preserved : goal.loop-page-preserved
loop-page-preserved g c =
    let here = starts c.args.index.now c.loop-page.page c.value-min.result.now c.value-max.result.now c.loop-page.invariant.even
    (rw c.as_slice-null_pages.ensures at c.loop-page-test.true) c.value-min.ensures c.value-max.ensures in
    let told = rw (c.as_slice-null_pages.ensures, c.null_count-nulls.ensures) at c.in_ok-page_index.ensures in
    rw c.in_ok-push.ensures.items (goes_on (g.F.EndForm.end c.args.form.now) c.args.index.now c.loop-page.page c.loop-page.pages.items (get_or c.args.index.now.null_pages c.loop-page.page false) c.value-min.result.now c.value-max.result.now c.in_ok-page_index.field-0 c.loop-page.invariant here told)

pub returns : goal.returns
returns g c = rw c.new.ensures (ends (g.F.EndForm.end c.args.form.now) c.args.index.now c.loop-page.page c.loop-page.pages.items c.loop-page.invariant (rw c.as_slice-null_pages.ensures at c.loop-page-test.false))

use Rattle.std.proofs.Common.{◌∙◌, Some, List, length, ap, sym, subst, arith}
use Rattle.std.proofs.lemmas.Result.{err_from_is_err_and}
use Rattle.parquet_base.specs.Intervals.{AreAdjacent, is_kept_page, maximal_runs}
use Rattle.parquet_base.specs.declared.interval.Interval.{Interval}
use Rattle.parquet_base.proofs.SegmentLemmas.{apart_from}
use Rattle.parquet_scan.specs.Pages.{column_index_causes}
use Rattle.parquet_scan.proofs.CallLemmas.{answered, keeps_itself, refused, refuses_as}
use Rattle.parquet_scan.proofs.LocationLemmas.{adjacent_pages, rows_fail}
use Rattle.parquet_scan.proofs.PruningLemmas.{counted_as, kept_runs}
use Rattle.parquet_scan.proofs.ScanLemmas.{fails_by_memory, none_as}
use Rattle.parquet_scan.proofs.pruning.runs_of_pages.Goals as goal
use Rattle.parquet_page.proofs.SelectionLemmas.{pages-length}

pub returns-in_err-rows-clause-reads : goal.returns-in_err-rows-clause-reads
returns-in_err-rows-clause-reads g c =
    let p = err_from_is_err_and c.from_residual.result c.from_residual.ensures.1 in
    let start = g.S.Source.faults c.args.source.now in
    let list = c.args.locations.now in
    rw (p.1, p.2) (refused keeps_itself (fails_by_memory (g.S.Source.told c.args.source.now) start start (λ bytes. column_index_causes c.args.data_type.now (length list) bytes c.args.column.now) c.in_err-rows.field-0.0
    (rows_fail list c.args.num_rows c.in_err-rows.field-0.0 c.requires.shaped c.in_err-rows.ensures.refusal)))

pub returns-in_err-keep-clause-reads : goal.returns-in_err-keep-clause-reads
returns-in_err-keep-clause-reads g c =
    let p = err_from_is_err_and c.from_residual-in_err-keep.result c.from_residual-in_err-keep.ensures.1 in
    let list = c.args.locations.now in
    rw (p.1, p.2) (refuses_as (counted_as (g.S.Source.told c.args.source.now) c.args.data_type.now c.args.column.now (length list) (length c.deref.result.now)
    (omega (arith, pages-length list c.args.num_rows c.in_ok-rows.rows.items c.in_ok-rows.ensures.rows, ap length c.deref.ensures.value))) c.in_err-keep.ensures.reads)

pub page_runs-requires-clause-adjacent : goal.page_runs-requires-clause-adjacent
page_runs-requires-clause-adjacent g c =
    subst (λ (pages : List Interval). AreAdjacent 0 pages c.args.num_rows) (sym c.deref-2.ensures.value)
    (adjacent_pages c.args.locations.now c.args.num_rows c.in_ok-rows.rows.items c.requires.shaped c.in_ok-rows.ensures.rows)

pub page_runs-requires-clause-same_length : goal.page_runs-requires-clause-same_length
page_runs-requires-clause-same_length g c =
    omega (arith, c.in_ok-keep.ensures.length, ap length c.deref.ensures.value, ap length c.deref-2.ensures.value, ap length c.deref-3.ensures.value)

pub returns-clause-reads : goal.returns-clause-reads
returns-clause-reads g c =
    let told = g.S.Source.told c.args.source.now in
    let data_type = c.args.data_type.now in
    let column = c.args.column.now in
    let list = c.args.locations.now in
    let pages = c.deref.result.now in
    answered c.in_ok-keep.ensures.reads.keeps c.in_ok-keep.ensures.reads.quiet
    (none_as told (λ bytes. column_index_causes data_type (length list) bytes column) (λ bytes. column_index_causes data_type (length pages) bytes column)
    (counted_as told data_type column (length list) (length pages) (omega (arith, pages-length list c.args.num_rows c.in_ok-rows.rows.items c.in_ok-rows.ensures.rows, ap length c.deref.ensures.value)))
    c.in_ok-keep.ensures.reads.ok)

pub returns-clause-runs : goal.returns-clause-runs
returns-clause-runs g c =
    let same = c.deref-2.ensures.value ∙ sym c.deref.ensures.value in
    let keep = c.deref-3.ensures.value in
    kept_runs (g.S.Source.told c.args.source.now) c.args.data_type.now c.args.column.now c.args.bound.now c.args.locations.now c.args.num_rows c.deref.result.now c.in_ok-keep.keep.items c.in_ok-page_runs.field-0.items
    (c.in_ok-rows.ensures.rows ∙ ap Some (sym c.deref.ensures.value)) c.in_ok-keep.ensures.kept
    (c.in_ok-page_runs.ensures ∙ (λ i. maximal_runs (is_kept_page (same i) (keep i)) c.args.num_rows))

pub returns-clause-apart : goal.returns-clause-apart
returns-clause-apart g c = apart_from c.in_ok-page_runs.field-0.items (is_kept_page c.deref-2.result.now c.deref-3.result.now) c.args.num_rows c.in_ok-page_runs.ensures

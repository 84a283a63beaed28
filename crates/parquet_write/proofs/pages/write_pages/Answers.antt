use Rattle.std.proofs.Common.{◌≡◌, ◌≤◌, ◌<◌, ℕ, ◌+◌, ◌-◌, List, Option, ap, arith, length, min, refl, subst, sym, ◌∙◌}
use Rattle.std.specs.List.{slice_range}
use Rattle.std.specs.Prelude.{is_none}
use Rattle.std.proofs.lemmas.List.Sums.{count_by-le-length}
use Rattle.parquet_page.specs.Stored.{Stored}
use Rattle.parquet_plain.specs.Columns.{Written, nulls_of}
use Rattle.parquet_plain.proofs.RowLemmas.{length-rows}
use Rattle.parquet_write.specs.Items.{unnamed_column}
use Rattle.parquet_write.specs.declared.facts.PageFacts.{PageFacts}
use Rattle.parquet_write.proofs.AnswerLemmas.{too_large_whole, writes_nothing}
use Rattle.parquet_write.proofs.ItemLemmas.{finds_both, finds_none, nulls-split}
use Rattle.parquet_write.proofs.LevelLemmas.{lesser-is}
use Rattle.parquet_write.proofs.PagingLemmas.{IsPaging, nulls-of-page, paging_begins, paging_ends, paging_goes_on, short_begins, short_ends, short_fails, short_goes_on}
use Rattle.parquet_write.proofs.pages.write_pages.Goals as goal

pub loop-row-init : goal.loop-row-init
loop-row-init g c =
    let items : List (Option Stored) = g.I.Items.items c.args.items.now in
    let to : Written = unnamed_column (g.I.Items.type_ c.args.items.now) (g.I.Items.at_most c.args.items.now) c.args.paging in
    let out : List ℕ = c.args.out.now.items in
    record {
      paging = subst (λ (facts : List PageFacts). IsPaging to items out out facts 0) (sym c.new-pages.ensures.items) (paging_begins to items out);
      short = short_begins to items;
      nulls = refl;
      bounds = finds_none (g.I.Items.at_most c.args.items.now) items 0;
    }

pub returns-in_err-own-clause-written : goal.returns-in_err-own-clause-written
returns-in_err-own-clause-written g c =
    let items : List (Option Stored) = g.I.Items.items c.args.items.now in
    let to : Written = unnamed_column (g.I.Items.type_ c.args.items.now) (g.I.Items.at_most c.args.items.now) c.args.paging in
    let row : ℕ = c.loop-row.row in
    let next : ℕ = row + c.min.result in
    let many : c.rows-rows.result ≡ length items = c.rows-rows.ensures in
    let least : c.min.result ≡ min c.args.paging.page_rows (c.rows-rows.result - row) = c.min.ensures ∙ lesser-is c.args.paging.page_rows (c.rows-rows.result - row) in
    writes_nothing _ _ _ c.from_residual.result _ _ c.from_residual.ensures.1
    (too_large_whole _ _ _ (λ large. short_fails to items row next c.requires (omega arith) (omega arith) large c.loop-row.invariant.short) c.in_err-own.ensures.written.short.cause)

pub overflow_add-nulls : goal.overflow_add-nulls
overflow_add-nulls g c =
    let items : List (Option Stored) = g.I.Items.items c.args.items.now in
    let to : Written = unnamed_column (g.I.Items.type_ c.args.items.now) (g.I.Items.at_most c.args.items.now) c.args.paging in
    let row : ℕ = c.loop-row.row in
    let next : ℕ = row + c.min.result in
    let least : c.min.result ≡ min c.args.paging.page_rows (c.rows-rows.result - row) = c.min.ensures ∙ lesser-is c.args.paging.page_rows (c.rows-rows.result - row) in
    let page : c.in_ok-own.page.nulls ≡ nulls_of (slice_range items row next) = ap (λ (p : PageFacts). p.nulls) c.in_ok-own.ensures.told ∙ nulls-of-page to (slice_range items row next) in
    let all = nulls-split items row next (omega arith) in
    let long : length (slice_range items 0 next) ≡ next - 0 = length-rows 0 next items (omega (arith, c.rows-rows.ensures)) in
    omega (arith, c.from-nulls.ensures, c.loop-row.invariant.nulls, page, all, count_by-le-length (is_none {T = Stored}) (slice_range items 0 next), long)

pub loop-row-preserved : goal.loop-row-preserved
loop-row-preserved g c =
    let items : List (Option Stored) = g.I.Items.items c.args.items.now in
    let at_most = g.I.Items.at_most c.args.items.now in
    let to : Written = unnamed_column (g.I.Items.type_ c.args.items.now) at_most c.args.paging in
    let start : List ℕ = c.args.out.now.items in
    let row : ℕ = c.loop-row.row in
    let next : ℕ = row + c.min.result in
    let many : c.rows-rows.result ≡ length items = c.rows-rows.ensures in
    let least : c.min.result ≡ min c.args.paging.page_rows (c.rows-rows.result - row) = c.min.ensures ∙ lesser-is c.args.paging.page_rows (c.rows-rows.result - row) in
    let lt : row < length items = omega arith in
    let step : next ≡ row + min c.args.paging.page_rows (length items - row) = omega arith in
    let page : c.in_ok-own.page.nulls ≡ nulls_of (slice_range items row next) = ap (λ (p : PageFacts). p.nulls) c.in_ok-own.ensures.told ∙ nulls-of-page to (slice_range items row next) in
    record {
      paging = subst (λ (facts : List PageFacts). IsPaging to items start c.add_page.new.out.items facts next) (sym c.in_ok-push.ensures.items)
          (paging_goes_on to items start c.loop-row.out.items c.loop-row.pages.items row next c.add_page.new.out.items c.in_ok-own.page c.requires c.loop-row.invariant.paging lt step
          c.in_ok-own.ensures.written.written c.in_ok-own.ensures.told);
      short = short_goes_on to items row next c.requires lt step c.in_ok-own.ensures.written.short.fits c.loop-row.invariant.short;
      nulls = omega (arith, c.from-nulls.ensures, c.loop-row.invariant.nulls, page, nulls-split items row next (omega arith));
      bounds = finds_both at_most items row next c.loop-row.bounds c.in_ok-own.own c.joined-bounds.result (g.met.I.Items.ordered c.args.items.now) (omega arith) c.loop-row.invariant.bounds
          c.in_ok-own.ensures.bounds c.joined-bounds.ensures.there c.joined-bounds.ensures.joined;
    }

pub returns-clause-written : goal.returns-clause-written
returns-clause-written g c =
    let items : List (Option Stored) = g.I.Items.items c.args.items.now in
    let to : Written = unnamed_column (g.I.Items.type_ c.args.items.now) (g.I.Items.at_most c.args.items.now) c.args.paging in
    let done : length items ≤ c.loop-row.row = omega (arith, c.rows-rows.ensures) in
    record {
      written = (paging_ends to items c.args.out.now.items c.loop-row.out.items c.loop-row.pages.items c.loop-row.row done c.loop-row.invariant.paging).0;
      short = record { fits = short_ends to items c.loop-row.row done c.loop-row.invariant.short; cause = tt };
    }

pub returns-clause-told : goal.returns-clause-told
returns-clause-told g c =
    let items : List (Option Stored) = g.I.Items.items c.args.items.now in
    let to : Written = unnamed_column (g.I.Items.type_ c.args.items.now) (g.I.Items.at_most c.args.items.now) c.args.paging in
    (paging_ends to items c.args.out.now.items c.loop-row.out.items c.loop-row.pages.items c.loop-row.row (omega (arith, c.rows-rows.ensures)) c.loop-row.invariant.paging).1

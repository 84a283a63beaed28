use Rattle.std.proofs.Common.{◌≡◌, ◌<◌, ◌∙◌, ap, subst, sym, true, false, List, ℕ, Bool, [], length, arith}
use Rattle.std.specs.Prelude.{Option, ◌&&◌, IfOk, IfSome, Some, None}
use Rattle.std.proofs.lemmas.Bool.{true≢false}
use Rattle.columns_core.specs.declared.data_type.Field.{Field}
use Rattle.parquet_base.specs.Intervals.{AreApart, maximal_runs}
use Rattle.parquet_base.proofs.SegmentLemmas.{runs_apart}
use Rattle.parquet_base.specs.declared.interval.Interval.{Interval}
use Rattle.parquet_meta.specs.declared.metadata.RowGroupMetaData.{RowGroupMetaData}
use Rattle.parquet_scan.specs.declared.bound.Bound.{Bound}
use Rattle.parquet_scan.specs.Counting.{AreLocated}
use Rattle.parquet_scan.specs.Request.{Request}
use Rattle.parquet_scan.specs.Rows.{pages_keep}
use Rattle.parquet_scan.proofs.KeptLemmas.{none_first, pages_first, whole_first}
use Rattle.parquet_scan.proofs.PageLemmas.{if_ok}
use Rattle.parquet_scan.proofs.ScanLemmas.{no_runs}
use Rattle.parquet_scan.proofs.kept.kept_runs.Goals as goal

none_kept : (told : Option (List ℕ)) (by_pages : Bool) (fields : List Field) (bounds : List Bound) (group : RowGroupMetaData) (counts : Bool) (runs : List Interval) → runs ≡ [] → counts ≡ false
    → IfSome told (λ bytes. runs ≡ maximal_runs (λ row. counts && pages_keep by_pages fields bounds bytes group row) group.num_rows)
none_kept None by_pages fields bounds group counts runs e ruled_out = tt
none_kept (Some bytes) by_pages fields bounds group counts runs e ruled_out =
    e ∙ sym (no_runs group.num_rows) ∙ ap (λ b. maximal_runs (λ row. b && pages_keep by_pages fields bounds bytes group row) group.num_rows) (sym ruled_out)

all_kept : (told : Option (List ℕ)) (fields : List Field) (bounds : List Bound) (group : RowGroupMetaData) (by_pages counts : Bool) (runs : List Interval) → runs ≡ maximal_runs (λ row. true) group.num_rows → counts ≡ true → by_pages ≡ false
    → IfSome told (λ bytes. runs ≡ maximal_runs (λ row. counts && pages_keep by_pages fields bounds bytes group row) group.num_rows)
all_kept None fields bounds group by_pages counts runs e counting whole = tt
all_kept (Some bytes) fields bounds group by_pages counts runs e counting whole =
    e ∙ (λ i. maximal_runs (λ row. sym counting i && pages_keep (sym whole i) fields bounds bytes group row) group.num_rows)

pub returns-then-not-counts-clause-kept : goal.returns-then-not-counts-clause-kept
returns-then-not-counts-clause-kept g c = none_kept (g.S.Source.told c.args.source.now) c.args.by_pages c.args.request.now.fields c.args.request.now.bounds c.args.group.now c.args.counts c.new.result.items c.new.ensures.items c.if-not-counts.true

pub returns-then-by_pages-clause-kept : goal.returns-then-by_pages-clause-kept
returns-then-by_pages-clause-kept g c =
    let told = g.S.Source.told c.args.source.now in
    let group = c.args.group.now in
    let Kept : Request → Bool → Bool → Type 0 = λ request counts by_pages.
    IfOk c.kept_by_pages.result (λ found. IfSome told (λ bytes. found.0.items ≡ maximal_runs (λ row. counts && pages_keep by_pages request.fields request.bounds bytes group row) group.num_rows)) in
    subst (λ counts. Kept c.args.request.now counts c.args.by_pages) (sym c.if-not-counts.false) (subst (Kept c.args.request.now true) (sym c.if-by_pages.true) (subst (λ request. Kept request true true) c.request.view_is c.kept_by_pages.ensures.kept))

pub returns-clause-kept : goal.returns-clause-kept
returns-clause-kept g c =
    all_kept (g.S.Source.told c.args.source.now) c.args.request.now.fields c.args.request.now.bounds c.args.group.now c.args.by_pages c.args.counts c.in_ok-runs.runs.items c.in_ok-runs.ensures c.if-not-counts.false c.if-by_pages.false

pub returns-then-not-counts-clause-first : goal.returns-then-not-counts-clause-first
returns-then-not-counts-clause-first g c = none_first c.args.by_pages c.new.result.items c.new.ensures.items

pub returns-then-by_pages-clause-first : goal.returns-then-by_pages-clause-first
returns-then-by_pages-clause-first g c = if_ok c.kept_by_pages.result (λ found e. pages_first c.args.by_pages found.0.items c.if-by_pages.true) c.kept_by_pages.ensures.apart

pub returns-clause-first : goal.returns-clause-first
returns-clause-first g c = whole_first c.args.by_pages c.in_ok-runs.runs.items c.args.group.now.num_rows c.in_ok-runs.ensures

pub returns-clause-apart : goal.returns-clause-apart
returns-clause-apart g c = subst (λ runs. AreApart 0 runs c.args.group.now.num_rows) (sym c.in_ok-runs.ensures) (runs_apart (λ row. true) c.args.group.now.num_rows)

pub returns-then-not-counts-clause-located : goal.returns-then-not-counts-clause-located
returns-then-not-counts-clause-located g c pruned some = absurd (omega (arith, some, ap length c.new.ensures.items))

pub returns-then-by_pages-clause-located : goal.returns-then-by_pages-clause-located
returns-then-by_pages-clause-located g c =
    let told = g.S.Source.told c.args.source.now in
    let group = c.args.group.now in
    let located = subst (λ (request : Request). IfOk c.kept_by_pages.result (λ found. 0 < length found.0.items → AreLocated told request.fields group found.1)) c.request.view_is c.kept_by_pages.ensures.located in
    if_ok c.kept_by_pages.result (λ found are pruned some. are some) located

pub returns-clause-located : goal.returns-clause-located
returns-clause-located g c pruned some = absurd (true≢false (sym pruned ∙ c.if-by_pages.false))

use Rattle.std.proofs.Common.{◌≡◌, ◌<◌, ◌∙◌, List, ℕ, All, length, map, ap, sym, subst, Vec, Global}
use Rattle.std.specs.Prelude.{Option, IfSome, flat_map}
use Rattle.std.specs.List.{list_all}
use Rattle.std.proofs.lemmas.Result.{err_from_is_err_and}
use Rattle.columns_core.specs.Causes.{Cause}
use Rattle.parquet_base.specs.Intervals.{AreApart, covers, maximal_runs}
use Rattle.parquet_base.proofs.SegmentLemmas.{runs_apart}
use Rattle.parquet_base.specs.declared.interval.Interval.{Interval}
use Rattle.parquet_meta.specs.declared.metadata.PageLocation.{PageLocation}
use Rattle.parquet_page.specs.Locations.{has_shape}
use Rattle.parquet_scan.specs.Causes.{index_causes_of_bound, offset_causes_of_field}
use Rattle.parquet_scan.specs.Counting.{AreLocated}
use Rattle.parquet_scan.specs.Rows.{bound_keeps, field_locations}
use Rattle.parquet_scan.proofs.CallLemmas.{answered_both, refuses, refuses_first}
use Rattle.parquet_scan.proofs.PruningLemmas.{all_runs, are_located}
use Rattle.parquet_scan.proofs.ScanLemmas.{in_first, in_second}
use Rattle.parquet_scan.proofs.pruning.kept_by_pages.Goals as goal

pub read_all_runs-requires-clause-length : goal.read_all_runs-requires-clause-length
read_all_runs-requires-clause-length g c = ap length c.as_slice.ensures ∙ c.in_ok-locations.ensures.length

pub read_all_runs-requires-clause-shaped : goal.read_all_runs-requires-clause-shaped
read_all_runs-requires-clause-shaped g c = ap (list_all (λ list. has_shape list c.args.group.now.num_rows)) c.as_slice.ensures ∙ c.in_ok-locations.ensures.shaped

pub read_all_runs-requires-clause-told : goal.read_all_runs-requires-clause-told
read_all_runs-requires-clause-told g c =
    let group = c.args.group.now in
    let fields = c.args.fields.now in
    subst (λ (told : Option (List ℕ)). IfSome told (λ bytes. map (λ field. field_locations bytes group field.name) fields ≡ c.as_slice.result.now)) (sym c.in_ok-locations.ensures.reads.keeps.same)
    (subst (λ (lists : List (List PageLocation)). IfSome (g.S.Source.told c.args.source.now) (λ bytes. map (λ field. field_locations bytes group field.name) fields ≡ lists)) (sym c.as_slice.ensures) c.in_ok-locations.ensures.locations)

pub returns-in_err-locations-clause-reads : goal.returns-in_err-locations-clause-reads
returns-in_err-locations-clause-reads g c =
    let p = err_from_is_err_and c.from_residual.result c.from_residual.ensures.1 in
    let told = g.S.Source.told c.args.source.now in
    let group = c.args.group.now in
    let fields = c.args.fields.now in
    let bounds = c.args.bounds.now in
    let first : List ℕ → List Cause = λ bytes. flat_map (offset_causes_of_field bytes group) fields in
    let second : List ℕ → List Cause = λ bytes. flat_map (index_causes_of_bound fields bytes group) bounds in
    rw (p.1, p.2) (refuses_first c.in_err-locations.ensures.reads (in_first told first second))

pub returns-in_err-lists-clause-reads : goal.returns-in_err-lists-clause-reads
returns-in_err-lists-clause-reads g c =
    let p = err_from_is_err_and c.from_residual-in_err-lists.result c.from_residual-in_err-lists.ensures.1 in
    let told = g.S.Source.told c.args.source.now in
    let group = c.args.group.now in
    let fields = c.args.fields.now in
    let bounds = c.args.bounds.now in
    let first : List ℕ → List Cause = λ bytes. flat_map (offset_causes_of_field bytes group) fields in
    let second : List ℕ → List Cause = λ bytes. flat_map (index_causes_of_bound fields bytes group) bounds in
    rw (p.1, p.2) (refuses c.in_ok-locations.ensures.reads.keeps c.in_err-lists.ensures.reads (in_second told first second))

pub runs_of_all-requires : goal.runs_of_all-requires
runs_of_all-requires g c = subst (λ (lists : List (Vec Interval Global)). All (λ list. AreApart 0 list.items c.args.group.now.num_rows) lists) (sym c.deref.ensures.value) c.in_ok-lists.ensures.apart

pub returns-clause-reads : goal.returns-clause-reads
returns-clause-reads g c = answered_both c.in_ok-locations.ensures.reads c.in_ok-lists.ensures.reads

pub returns-clause-kept : goal.returns-clause-kept
returns-clause-kept g c =
    let told = g.S.Source.told c.args.source.now in
    let group = c.args.group.now in
    let fields = c.args.fields.now in
    let bounds = c.args.bounds.now in
    let items : Vec Interval Global → List Interval = λ list. list.items in
    let are = subst (λ (told : Option (List ℕ)). IfSome told (λ bytes. map (λ bound. maximal_runs (λ row. bound_keeps fields bytes group row bound) group.num_rows) bounds ≡ map items c.in_ok-lists.lists.items)) c.in_ok-locations.ensures.reads.keeps.same c.in_ok-lists.ensures.runs in
    all_runs told fields group bounds items c.in_ok-lists.lists.items c.in_ok-runs.runs.items are
    (c.in_ok-runs.ensures ∙ ap (λ (lists : List (Vec Interval Global)). maximal_runs (λ row. list_all (λ list. covers list.items row) lists) group.num_rows) c.deref.ensures.value)

pub returns-clause-apart : goal.returns-clause-apart
returns-clause-apart g c =
    let rows = c.args.group.now.num_rows in
    subst (λ runs. AreApart 0 runs rows) (sym c.in_ok-runs.ensures) (runs_apart (λ row. list_all (λ list. covers list.items row) c.deref.result.now) rows)

pub returns-clause-located : goal.returns-clause-located
returns-clause-located g c some =
    let told = g.S.Source.told c.args.source.now in
    let fields = c.args.fields.now in
    let group = c.args.group.now in
    let same = c.held_for-located.ensures (subst (λ runs. 0 < length runs) (sym c.deref-2.ensures.value) some) in
    subst (AreLocated told fields group) (sym same) (are_located told fields group c.in_ok-locations.locations c.in_ok-locations.ensures.locations c.in_ok-locations.ensures.shaped c.in_ok-locations.ensures.length)

use Rattle.std.proofs.Common.{◌≡◌, ◌∙◌, ◌++◌, ◌+◌, rules, [], ◌∷◌, All, List, ℕ, map, drop, ap, sym, subst, arith, Vec, Global}
use Rattle.std.specs.Prelude.{Option, IfSome}
use Rattle.std.proofs.lemmas.List.{map-append}
use Rattle.std.proofs.lemmas.List.Elements.{All-push}
use Rattle.std.proofs.lemmas.Result.{err_from_is_err_and}
use Rattle.parquet_base.specs.Intervals.{AreApart, maximal_runs}
use Rattle.parquet_base.specs.declared.interval.Interval.{Interval}
use Rattle.parquet_scan.specs.Causes.{index_causes_of_bound}
use Rattle.parquet_meta.specs.declared.metadata.PageLocation.{PageLocation}
use Rattle.parquet_scan.specs.Costs.{index_bytes_of}
use Rattle.parquet_scan.specs.Request.{is_legal_bound_of}
use Rattle.parquet_scan.specs.Rows.{bound_keeps, field_locations}
use Rattle.parquet_scan.proofs.CallLemmas.{refuses}
use Rattle.parquet_scan.proofs.CostLemmas.{none_left, sum_left}
use Rattle.parquet_scan.proofs.PruningLemmas.{all_at, locations_at}
use Rattle.parquet_scan.proofs.ScanLemmas.{in_item, made_more, none_more}
use Rattle.parquet_scan.proofs.pruning.read_all_runs.Goals as goal

pub returns-in_err-read_runs-clause-reads : goal.returns-in_err-read_runs-clause-reads
returns-in_err-read_runs-clause-reads g c =
    let p = err_from_is_err_and c.from_residual.result c.from_residual.ensures.1 in
    let group = c.args.group.now in
    rw (p.1, p.2) (refuses c.loop-bound.invariant.keeps c.in_err-read_runs.ensures.reads
    (in_item (g.S.Source.told c.args.source.now) (λ bytes. index_causes_of_bound c.args.fields.now bytes group) c.args.bounds.now c.loop-bound.bound-index c.bound-item.result c.loop-bound-test.true c.bound-item.is))

pub loop-bound-preserved : goal.loop-bound-preserved
loop-bound-preserved g c =
    let told = g.S.Source.told c.args.source.now in
    let group = c.args.group.now in
    let bounds = c.args.bounds.now in
    let i = c.loop-bound.bound-index in
    let bound = c.bound-item.result in
    let list = c.in_ok-read_runs.field-0 in
    let items : Vec Interval Global → List Interval = λ list. list.items in
    let own = subst (λ (told : Option (List ℕ)). IfSome told (λ bytes. index_causes_of_bound c.args.fields.now bytes group bound ≡ [])) c.loop-bound.invariant.keeps.same c.in_ok-read_runs.ensures.reads.ok in
    let are = subst (λ (told : Option (List ℕ)). IfSome told (λ bytes. maximal_runs (λ row. bound_keeps c.args.fields.now bytes group row bound) group.num_rows ≡ list.items)) c.loop-bound.invariant.keeps.same c.in_ok-read_runs.ensures.runs in
    record {
      keeps = search rules;
      quiet = c.in_ok-read_runs.ensures.reads.quiet ∙ c.loop-bound.invariant.quiet;
      none = none_more told (λ bytes. index_causes_of_bound c.args.fields.now bytes group) bounds i bound c.loop-bound-test.true c.bound-item.is c.loop-bound.invariant.none own;
      runs = subst (λ (lists : List (List Interval)). IfSome told (λ bytes. map (λ bound. maximal_runs (λ row. bound_keeps c.args.fields.now bytes group row bound) group.num_rows) bounds
          ≡ lists ++ map (λ bound. maximal_runs (λ row. bound_keeps c.args.fields.now bytes group row bound) group.num_rows) (drop (i + 1) bounds)))
          (sym (ap (map items) c.in_ok-push.ensures.items ∙ map-append items c.loop-bound.lists.items (list ∷ [])))
          (made_more told (λ bytes bound. maximal_runs (λ row. bound_keeps c.args.fields.now bytes group row bound) group.num_rows) bounds i bound (map items c.loop-bound.lists.items) list.items c.loop-bound-test.true c.bound-item.is c.loop-bound.invariant.runs are);
      taken = omega (arith, c.loop-bound.invariant.taken, c.in_ok-read_runs.ensures.taken, sum_left (index_bytes_of group) bounds i bound c.loop-bound-test.true c.bound-item.is);
      apart = subst (λ (lists : List (Vec Interval Global)). All (λ list. AreApart 0 list.items group.num_rows) lists) (sym c.in_ok-push.ensures.items)
          (All-push (λ list. AreApart 0 list.items group.num_rows) c.loop-bound.lists.items list c.loop-bound.invariant.apart c.in_ok-read_runs.ensures.apart);
    }

pub place_of-requires : goal.place_of-requires
place_of-requires g c =
    record { legal = ap (is_legal_bound_of c.args.fields.now) c.bound-item.is ∙ all_at (is_legal_bound_of c.args.fields.now) c.args.bounds.now c.loop-bound.bound-index c.bound-item.result c.requires.legal c.loop-bound-test.true }

pub read_runs-requires-clause-told : goal.read_runs-requires-clause-told
read_runs-requires-clause-told g c =
    let told = g.S.Source.told c.args.source.now in
    let group = c.args.group.now in
    let bound = c.bound-item.result in
    let list = c.index-locations-place_of.result in
    subst (λ (told : Option (List ℕ)). IfSome told (λ bytes. field_locations bytes group bound.field ≡ c.as_slice-of_column.result.now)) (sym c.loop-bound.invariant.keeps.same)
    (subst (λ (list : List PageLocation). IfSome told (λ bytes. field_locations bytes group bound.field ≡ list)) (sym (c.as_slice-of_column.ensures ∙ c.index-locations-place_of.is))
    (locations_at told group c.args.fields.now c.args.locations.now bound c.place_of.result list c.requires.told c.place_of.ensures.within c.place_of.ensures.named))

pub returns-clause-taken : goal.returns-clause-taken
returns-clause-taken g c = omega (arith, c.loop-bound.invariant.taken, none_left (index_bytes_of c.args.group.now) c.args.bounds.now c.loop-bound.bound-index (omega arith))

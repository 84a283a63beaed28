use Rattle.std.specs.Prelude.{IfSome}
use Rattle.std.proofs.Common.{rules, ◌≡◌, All, ◌++◌, ◌∷◌, ◌+◌, ap, sym, drop, map, arith, subst, List, [], ℕ, Option, Bool, false, get_or, refl, ◌∙◌}
use Rattle.parquet_meta.specs.declared.metadata.RowGroupMetaData.{RowGroupMetaData}
use Rattle.std.proofs.lemmas.List.{length-map, map-append}
use Rattle.std.proofs.lemmas.List.Elements.{All-nil, All-push}
use Rattle.parquet_base.specs.declared.interval.Interval.{Interval}
use Rattle.std.proofs.lemmas.Result.{err_from_is_err_and}
use Rattle.parquet_scan.specs.Counting.{AreFirst, AreLocatedIf, index_causes_if, indexes_taken, kept_if, kept_of_groups}
use Rattle.parquet_scan.specs.declared.scanning.GroupKept.{GroupKept}
use Rattle.parquet_scan.proofs.CallLemmas.{refuses}
use Rattle.parquet_scan.proofs.CostLemmas.{no_pair_left, pair_left}
use Rattle.parquet_scan.proofs.PairLemmas.{map_pair, none_pair}
use Rattle.parquet_scan.proofs.KeptLemmas.{rows_done, rows_more}
use Rattle.parquet_scan.proofs.LocatedGroups.{AreFirstLocated, located_more}
use Rattle.parquet_scan.specs.Scan.{IsApart}
use Rattle.parquet_scan.proofs.ScanLemmas.{in_pair}
use Rattle.parquet_scan.proofs.kept.kept_groups.Goals as goal

abbrev IsFirst : Bool → GroupKept → Type 0
IsFirst by_pages group = AreFirst by_pages group.intervals

pub returns-in_err-group-clause-reads : goal.returns-in_err-group-clause-reads
returns-in_err-group-clause-reads g c =
    let p = err_from_is_err_and c.from_residual-in_err-group.result c.from_residual-in_err-group.ensures.1 in
    let counts = get_or c.args.counts.now c.loop-i.i false in
    rw (p.1, p.2) (refuses c.loop-i.invariant.keeps c.in_err-group.ensures.reads
    (in_pair (g.S.Source.told c.args.source.now) (index_causes_if c.args.by_pages c.args.request.now.fields c.args.request.now.bounds) c.args.groups.now c.args.counts.now c.loop-i.i c.index-groups-i.result counts false (omega arith) (omega arith) c.index-groups-i.is refl))

pub loop-i-init : goal.loop-i-init
loop-i-init g c = record {
  keeps = search rules;
  quiet = refl;
  none = search rules;
  kept = search rules;
  taken = search rules;
  rows = search rules;
  apart = subst (λ items. All IsApart items) (sym c.in_ok-kept.ensures.items) (All-nil IsApart);
  first = subst (λ items. All (IsFirst c.args.by_pages) items) (sym c.in_ok-kept.ensures.items) (All-nil (IsFirst c.args.by_pages));
  located = λ i group below. absurd (omega (arith, below));
  count = search rules;
  each = search rules;
}

pub loop-i-preserved : goal.loop-i-preserved
loop-i-preserved g c =
    let told = g.S.Source.told c.args.source.now in
    let by_pages = c.args.by_pages in
    let bounds = c.args.request.now.bounds in
    let groups = c.args.groups.now in
    let counts = c.args.counts.now in
    let i = c.loop-i.i in
    let group = c.index-groups-i.result in
    let count = get_or counts i false in
    let kept = c.in_ok-group.group in
    let own = subst (λ (told : Option (List ℕ)). IfSome told (λ bytes. index_causes_if by_pages c.args.request.now.fields bounds bytes (group, count) ≡ [])) c.loop-i.invariant.keeps.same c.in_ok-group.ensures.reads.ok in
    let is = subst (λ (told : Option (List ℕ)). IfSome told (λ bytes. kept ≡ kept_if by_pages c.args.request.now.fields bounds bytes (group, count))) c.loop-i.invariant.keeps.same c.in_ok-group.ensures.kept in
    let fields = c.args.request.now.fields in
    let lists = c.in_ok-group.locations in
    let runs : List GroupKept → List (List Interval) = λ kept. map (λ group. group.intervals) kept in
    let one = subst (λ (told : Option (List ℕ)). AreLocatedIf by_pages told fields group kept.intervals lists) c.loop-i.invariant.keeps.same c.in_ok-group.ensures.located in
    let so_far = located_more by_pages told fields groups (runs c.loop-i.kept.items) c.loop-i.located.items i group kept.intervals lists c.loop-i-test.true c.index-groups-i.is
    (length-map c.loop-i.kept.items (λ group. group.intervals) ∙ c.loop-i.invariant.count) c.loop-i.invariant.each c.loop-i.invariant.located one in
    let located = subst (AreFirstLocated (i + 1) by_pages told fields groups (runs c.push.new.self.items)) (sym c.in_ok-push-2.ensures.items)
    (subst (λ all. AreFirstLocated (i + 1) by_pages told fields groups all (c.loop-i.located.items ++ lists ∷ [])) (sym (ap runs c.in_ok-push.ensures.items ∙ map-append (λ group. group.intervals) c.loop-i.kept.items (kept ∷ []))) so_far) in
    record {
      keeps = search rules;
      quiet = c.in_ok-group.ensures.reads.quiet ∙ c.loop-i.invariant.quiet;
      none = none_pair told (index_causes_if by_pages c.args.request.now.fields bounds) groups counts i group count false c.loop-i-test.true (omega arith) c.index-groups-i.is refl c.loop-i.invariant.none own;
      kept = subst (λ (items : List GroupKept). IfSome told (λ bytes. kept_of_groups by_pages c.args.request.now.fields bounds bytes groups counts ≡ items ++ kept_of_groups by_pages c.args.request.now.fields bounds bytes (drop (i + 1) groups) (drop (i + 1) counts)))
          (sym c.in_ok-push.ensures.items)
          (map_pair told (kept_if by_pages c.args.request.now.fields bounds) groups counts i group count false c.loop-i.kept.items kept c.loop-i-test.true (omega arith) c.index-groups-i.is refl c.loop-i.invariant.kept is);
      taken = omega (arith, c.loop-i.invariant.taken, c.in_ok-group.ensures.taken, pair_left (indexes_taken by_pages c.args.request.now.fields bounds) groups counts i group count false c.loop-i-test.true (omega arith) c.index-groups-i.is refl);
      rows = subst (λ (items : List GroupKept). map (λ (group : RowGroupMetaData). group.num_rows) groups ≡ map (λ (group : GroupKept). group.rows) items ++ map (λ (group : RowGroupMetaData). group.num_rows) (drop (i + 1) groups))
          (sym c.in_ok-push.ensures.items) (rows_more groups c.loop-i.kept.items i group kept c.loop-i-test.true c.index-groups-i.is c.in_ok-group.ensures.rows c.loop-i.invariant.rows);
      apart = subst (λ items. All IsApart items) (sym c.in_ok-push.ensures.items) (All-push IsApart c.loop-i.kept.items kept c.loop-i.invariant.apart c.in_ok-group.ensures.apart);
      first = subst (λ items. All (IsFirst by_pages) items) (sym c.in_ok-push.ensures.items) (All-push (IsFirst by_pages) c.loop-i.kept.items kept c.loop-i.invariant.first c.in_ok-group.ensures.first);
      located = located;
      count = search rules;
      each = search rules;
    }

pub returns-clause-taken : goal.returns-clause-taken
returns-clause-taken g c = omega (arith, c.loop-i.invariant.taken, no_pair_left (indexes_taken c.args.by_pages c.args.request.now.fields c.args.request.now.bounds) c.args.groups.now c.args.counts.now c.loop-i.i (omega arith))

pub returns-clause-rows : goal.returns-clause-rows
returns-clause-rows g c = rows_done c.args.groups.now c.loop-i.kept.items c.loop-i.i (omega arith) c.loop-i.invariant.rows

pub returns-clause-located : goal.returns-clause-located
returns-clause-located g c = λ i group below at. c.loop-i.invariant.located i group (omega (arith, below)) at

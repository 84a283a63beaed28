use Rattle.std.proofs.Common.{◌≡◌, ◌≤◌, ◌+◌, ◌++◌, All, drop, length, map}
use Rattle.std.specs.Prelude.{IfSome}
use Rattle.parquet_meta.specs.Keeps.{Keeps}
use Rattle.parquet_scan.specs.Counting.{AreFirst, index_causes_of_groups, indexes_taken_of_groups, kept_of_groups}
use Rattle.parquet_scan.specs.Scan.{IsApart}
use Rattle.parquet_scan.proofs.LocatedGroups.{AreFirstLocated}
use Rattle.parquet_scan.proofs.kept.kept_groups.Given as goal

-- the groups so far stand in front of those that are left, and none of them has a cause
abbrev pub invariant-loop-i : goal.invariant-loop-i
invariant-loop-i g l =
    let source = g.S.Source in
    record {
      keeps : Keeps source l.fn.source l.source;
      quiet : source.faults l.source ≡ source.faults l.fn.source;
      none : IfSome (source.told l.fn.source) (λ bytes.
          index_causes_of_groups l.by_pages l.request.fields l.request.bounds bytes l.groups l.counts ≡ index_causes_of_groups l.by_pages l.request.fields l.request.bounds bytes (drop l.i l.groups) (drop l.i l.counts));
      kept : IfSome (source.told l.fn.source) (λ bytes.
          kept_of_groups l.by_pages l.request.fields l.request.bounds bytes l.groups l.counts ≡ l.kept.items ++ kept_of_groups l.by_pages l.request.fields l.request.bounds bytes (drop l.i l.groups) (drop l.i l.counts));
      taken : source.taken l.source + indexes_taken_of_groups l.by_pages l.request.fields l.request.bounds (drop l.i l.groups) (drop l.i l.counts) ≤ source.taken l.fn.source + indexes_taken_of_groups l.by_pages l.request.fields l.request.bounds l.groups l.counts;
      rows : map (λ group. group.num_rows) l.groups ≡ map (λ group. group.rows) l.kept.items ++ map (λ group. group.num_rows) (drop l.i l.groups);
      apart : All IsApart l.kept.items;
      first : All (λ group. AreFirst l.by_pages group.intervals) l.kept.items;
      located : AreFirstLocated l.i l.by_pages (source.told l.fn.source) l.request.fields l.groups (map (λ group. group.intervals) l.kept.items) l.located.items;
      count : length l.kept.items ≡ l.i;
      each : length l.located.items ≡ l.i;
    }

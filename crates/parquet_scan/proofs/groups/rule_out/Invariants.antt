use Rattle.std.proofs.Common.{◌≡◌, ◌++◌, [], drop, map, take}
use Rattle.std.specs.Prelude.{filter_map, zip}
use Rattle.std.specs.List.{flat_map}
use Rattle.parquet_scan.specs.Causes.{bounded_causes_of_group, bounded_cells}
use Rattle.parquet_scan.specs.Counting.{counts_by}
use Rattle.parquet_scan.proofs.BoundLemmas.{bytes_of}
use Rattle.parquet_scan.proofs.groups.rule_out.Given as goal

-- none of the groups so far has a cause, the bytes of their ends are counted, and whether they count stands in front of what is so of those that are left
abbrev pub invariant-loop-i : goal.invariant-loop-i
invariant-loop-i l = record {
  none : flat_map (bounded_causes_of_group l.fields l.bound) (take l.i l.groups) ≡ [];
  bytes : l.bytes ≡ bytes_of (filter_map (bounded_cells l.fields l.bound) (take l.i l.groups));
  counts : map (counts_by l.fields l.bound) (zip l.groups l.fn.counts) ≡ take l.i l.counts ++ map (counts_by l.fields l.bound) (zip (drop l.i l.groups) (drop l.i l.counts));
}

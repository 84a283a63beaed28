use Rattle.std.proofs.Common.{◌≡◌, [], take, map}
use Rattle.std.specs.List.{flat_map, list_all}
use Rattle.parquet_meta.specs.declared.metadata.RowGroupMetaData.{RowGroupMetaData}
use Rattle.parquet_scan.specs.Causes.{causes_of_bound}
use Rattle.parquet_scan.specs.Rows.{group_keeps}
use Rattle.parquet_scan.proofs.groups.counting_groups.Given as goal

-- none of the bounds so far has a cause
abbrev pub invariant-loop-bound : goal.invariant-loop-bound
invariant-loop-bound l = record {
  none : flat_map (causes_of_bound l.fields l.groups) (take l.bound-index l.bounds) ≡ [];
  counts : l.counts.items ≡ map (λ (group : RowGroupMetaData). list_all (group_keeps l.fields group) (take l.bound-index l.bounds)) l.groups;
}

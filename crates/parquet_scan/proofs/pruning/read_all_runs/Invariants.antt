use Rattle.std.proofs.Common.{◌≡◌, ◌≤◌, ◌+◌, ◌++◌, All, drop, map}
use Rattle.std.specs.Prelude.{IfSome, flat_map, sum_by}
use Rattle.parquet_base.specs.Intervals.{AreApart, maximal_runs}
use Rattle.parquet_meta.specs.Keeps.{Keeps}
use Rattle.parquet_scan.specs.Causes.{index_causes_of_bound}
use Rattle.parquet_scan.specs.Costs.{index_bytes_of}
use Rattle.parquet_scan.specs.Rows.{bound_keeps}
use Rattle.parquet_scan.proofs.pruning.read_all_runs.Given as goal

-- what is wrong with the indexes of all bounds, and the runs of the rows that these keep, is what is so of those that are left
abbrev pub invariant-loop-bound : goal.invariant-loop-bound
invariant-loop-bound g l =
    let source = g.S.Source in
    record {
      keeps : Keeps source l.fn.source l.source;
      quiet : source.faults l.source ≡ source.faults l.fn.source;
      none : IfSome (source.told l.fn.source) (λ bytes. flat_map (index_causes_of_bound l.fields bytes l.group) l.bounds ≡ flat_map (index_causes_of_bound l.fields bytes l.group) (drop l.bound-index l.bounds));
      runs : IfSome (source.told l.fn.source) (λ bytes.
          map (λ bound. maximal_runs (λ row. bound_keeps l.fields bytes l.group row bound) l.group.num_rows) l.bounds
          ≡ map (λ list. list.items) l.lists.items ++ map (λ bound. maximal_runs (λ row. bound_keeps l.fields bytes l.group row bound) l.group.num_rows) (drop l.bound-index l.bounds));
      taken : source.taken l.source + sum_by (index_bytes_of l.group) (drop l.bound-index l.bounds) ≤ source.taken l.fn.source + sum_by (index_bytes_of l.group) l.bounds;
      apart : All (λ list. AreApart 0 list.items l.group.num_rows) l.lists.items;
    }

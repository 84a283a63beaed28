use Rattle.std.proofs.Common.{rules, ◌∙◌, ◌^◌, ◌-◌, ap}
use Rattle.std.proofs.lemmas.List.Sorted.{IsPartitionPoint-from_clause}
use Rattle.parquet_base.specs.Intervals.{overlaps}
use Rattle.parquet_base.proofs.OverlapLemmas.{ends_by, ends-partitioned, overlaps-from, rest_is}
use Rattle.parquet_base.proofs.ShapeLemmas.{shape-drop}
use Rattle.parquet_base.proofs.interval.behind_row.Goals as goal

pub returns-clause-same : goal.returns-clause-same
returns-clause-same c page e =
    let runs = c.args.intervals.now in
    let point = IsPartitionPoint-from_clause (ends_by c.args.row) runs c.partition_point-ended.result c.partition_point-ended.ensures.partitioned (ends-partitioned c.args.row runs (2 ^ 64 - 1) c.requires) (λ a r f called. search rules) in
    ap (overlaps page) (rest_is runs c.partition_point-ended.result) ∙ overlaps-from page runs c.partition_point-ended.result (rw e point.0)

pub returns-clause-shaped : goal.returns-clause-shaped
returns-clause-shaped c = rw (rest_is c.args.intervals.now c.partition_point-ended.result) (shape-drop 0 c.args.intervals.now _ c.partition_point-ended.result c.requires)

use Rattle.std.proofs.Common.{◌≡◌, length}
use Rattle.parquet_scan.specs.Request.{are_distinct, bounded_name}
use Rattle.parquet_scan.proofs.request.are_on_distinct_fields.Given as goal

-- the names are distinct where those of the rest are
abbrev pub invariant-loop-first : goal.invariant-loop-first
invariant-loop-first l = are_distinct bounded_name l.bounds ≡ are_distinct bounded_name l.rest

abbrev pub decreases-loop-first : goal.decreases-loop-first
decreases-loop-first l = length l.rest

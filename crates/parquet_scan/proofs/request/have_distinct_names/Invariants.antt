use Rattle.std.proofs.Common.{◌≡◌, length}
use Rattle.parquet_scan.specs.Request.{are_distinct, name_of_field}
use Rattle.parquet_scan.proofs.request.have_distinct_names.Given as goal

-- the names are distinct where those of the rest are
abbrev pub invariant-loop-first : goal.invariant-loop-first
invariant-loop-first l = are_distinct name_of_field l.fields ≡ are_distinct name_of_field l.rest

abbrev pub decreases-loop-first : goal.decreases-loop-first
decreases-loop-first l = length l.rest

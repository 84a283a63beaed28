use Rattle.std.proofs.Common.{◌≡◌, take}
use Rattle.parquet_indexes.specs.PageStatistics.{end_column}
use Rattle.parquet_indexes.specs.Sides.{ends_on}
use Rattle.parquet_indexes.proofs.page_arrays.array_of_ends.Given as goal

-- those so far
abbrev pub invariant-loop-page : goal.invariant-loop-page
invariant-loop-page l = l.ends ≡ end_column l.data_type (ends_on l.side (take l.page-index l.pages))

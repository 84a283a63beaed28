use Rattle.std.proofs.Common.{◌≡◌, length, map, take}
use Rattle.columns_core.specs.Column.{where_set}
use Rattle.parquet_indexes.specs.PageStatistics.{nulls_of_page}
use Rattle.parquet_indexes.proofs.counts.null_counts.Given as goal

-- those so far, each where it is told
abbrev pub invariant-loop-page : goal.invariant-loop-page
invariant-loop-page l = record {
  even : length l.validity ≡ length l.values.items;
  counts : where_set l.values.items l.validity ≡ map nulls_of_page (take l.page-index l.pages);
}

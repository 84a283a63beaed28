use Rattle.std.proofs.Common.{drop, map}
use Rattle.parquet_meta.proofs.ListLemmas.{IsMaking}
use Rattle.parquet_page.specs.Locations.{page_intervals}
use Rattle.parquet_indexes.proofs.page_maps.rows_of_columns.Given as goal

-- the rows in the columns so far are made, and those in the others are left
abbrev pub invariant-loop-locations : goal.invariant-loop-locations
invariant-loop-locations l =
    IsMaking (λ locations. page_intervals locations l.num_rows)
    (map (λ list. list.items) l.columns) (map (λ list. list.items) (drop l.locations-index l.columns)) (map (λ list. list.items) l.rows.items)

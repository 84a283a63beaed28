use Rattle.std.proofs.Common.{drop, map}
use Rattle.parquet_meta.proofs.ListLemmas.{IsMaking}
use Rattle.parquet_page.specs.Locations.{selected_pages}
use Rattle.parquet_indexes.proofs.page_maps.select_of_columns.Given as goal

-- the pages of the columns so far are made, and those of the others are left
abbrev pub invariant-loop-locations : goal.invariant-loop-locations
invariant-loop-locations l =
    IsMaking (λ locations. selected_pages l.intervals locations l.num_rows)
    (map (λ list. list.items) l.columns) (map (λ list. list.items) (drop l.locations-index l.columns)) (map (λ list. list.items) l.maps.items)

use Rattle.std.proofs.Common.{drop}
use Rattle.parquet_meta.proofs.ListLemmas.{IsMaking}
use Rattle.parquet_meta.specs.Lists.{all_of}
use Rattle.parquet_page.specs.Locations.{selected_pages}
use Rattle.parquet_indexes.specs.PageMaps.{in_fields}
use Rattle.parquet_indexes.proofs.page_maps.select_of_fields.Given as goal

-- the pages of the fields so far are made, and those of the others are left
abbrev pub invariant-loop-columns : goal.invariant-loop-columns
invariant-loop-columns l =
    IsMaking (all_of (λ locations. selected_pages l.intervals locations l.num_rows)) (in_fields l.fields) (in_fields (drop l.columns-index l.fields)) (in_fields l.maps.items)

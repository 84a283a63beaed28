use Rattle.std.proofs.Common.{drop}
use Rattle.parquet_meta.proofs.ListLemmas.{IsMaking}
use Rattle.parquet_meta.specs.Lists.{all_of}
use Rattle.parquet_page.specs.Locations.{page_intervals}
use Rattle.parquet_indexes.specs.PageMaps.{in_fields}
use Rattle.parquet_indexes.proofs.page_maps.rows_of_fields.Given as goal

-- the rows in the fields so far are made, and those in the others are left
abbrev pub invariant-loop-columns : goal.invariant-loop-columns
invariant-loop-columns l =
    IsMaking (all_of (λ locations. page_intervals locations l.num_rows)) (in_fields l.fields) (in_fields (drop l.columns-index l.fields)) (in_fields l.rows.items)

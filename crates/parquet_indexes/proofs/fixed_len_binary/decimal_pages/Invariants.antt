use Rattle.std.proofs.Common.{◌≡◌, [], map, take}
use Rattle.std.specs.Prelude.{flat_map}
use Rattle.flat_values.specs.Conversion.{BigEndian}
use Rattle.parquet_page.specs.Stored.{Octets}
use Rattle.column_ends.specs.Converted.{cell_page}
use Rattle.column_ends.specs.Told.{stored_page}
use Rattle.parquet_indexes.specs.Told.{decimal_page_causes}
use Rattle.parquet_indexes.proofs.fixed_len_binary.decimal_pages.Given as goal

-- those so far are decimals, and without a cause
abbrev pub invariant-loop-page : goal.invariant-loop-page
invariant-loop-page l = record {
  cells : map (cell_page BigEndian) (map (stored_page Octets) (take l.page-index l.pages)) ≡ l.cells.items;
  fine : flat_map decimal_page_causes (take l.page-index l.pages) ≡ [];
}

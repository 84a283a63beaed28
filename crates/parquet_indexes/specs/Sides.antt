-- The two ends of pages.
use Rattle.std.specs.Prelude.{List, map, Option}
use Rattle.columns_core.specs.declared.cell.Cell.{Cell}
use Rattle.parquet_meta.specs.declared.metadata.PageIndex.{PageIndex}
use Rattle.column_ends.specs.Converted.{high_of_page, low_of_page}
use Rattle.parquet_indexes.specs.declared.page_arrays.Side.{Side}
use Rattle.parquet_indexes.specs.declared.page_arrays.Side.TheVariants.{Low, High}

-- the end of a page on one side
abbrev pub end_on : Side → PageIndex Cell → Option Cell
end_on Low page = low_of_page page
end_on High page = high_of_page page

abbrev pub ends_on : Side → List (PageIndex Cell) → List (Option Cell)
ends_on side pages = map (end_on side) pages

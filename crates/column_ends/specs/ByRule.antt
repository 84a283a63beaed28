-- What ends become by a rule of the code, and what is wrong with them.
use Rattle.std.specs.Prelude.{List, ◌++◌, map, flat_map, Option}
use Rattle.columns_core.specs.Causes.{Cause}
use Rattle.columns_core.specs.declared.cell.Cell.{Cell}
use Rattle.columns_core.specs.declared.data_type.DataType.{DataType}
use Rattle.parquet_meta.specs.declared.metadata.Ends.{Ends}
use Rattle.parquet_meta.specs.declared.metadata.PageIndex.{PageIndex}
use Rattle.parquet_page.specs.Stored.{Stored}
use Rattle.flat_values.specs.Conversion.{Item, convert}
use Rattle.column_ends.specs.declared.rules.ValueRule.{ValueRule}
use Rattle.column_ends.specs.Converted.{causes_of_ends, causes_of_page, cell_ends, cell_page, end_causes, end_cell, page_array_causes, stored_causes}
use Rattle.column_ends.specs.Rules.{physical_of, value_conversion}

abbrev pub item_by : ValueRule → Stored → Item
item_by rule stored = convert (value_conversion rule) stored

abbrev pub item_causes_by : ValueRule → Stored → List Cause
item_causes_by rule stored = stored_causes (physical_of rule) (value_conversion rule) stored

-- of an end that may be told
abbrev pub end_by : ValueRule → Option Stored → Option Cell
end_by rule end = end_cell (value_conversion rule) end

abbrev pub end_causes_by : ValueRule → Option Stored → List Cause
end_causes_by rule end = end_causes (physical_of rule) (value_conversion rule) end

-- of a group
abbrev pub group_by : ValueRule → Ends Stored → Ends Cell
group_by rule ends = cell_ends (value_conversion rule) ends

abbrev pub group_causes_by : ValueRule → Ends Stored → List Cause
group_causes_by rule ends = causes_of_ends (physical_of rule) (value_conversion rule) ends

-- of pages
abbrev pub page_by : ValueRule → PageIndex Stored → PageIndex Cell
page_by rule page = cell_page (value_conversion rule) page

abbrev pub page_causes_by : ValueRule → PageIndex Stored → List Cause
page_causes_by rule page = causes_of_page (physical_of rule) (value_conversion rule) page

abbrev pub each_by : ValueRule → List (PageIndex Stored) → List (PageIndex Cell)
each_by rule pages = map (page_by rule) pages

abbrev pub each_causes_by : ValueRule → List (PageIndex Stored) → List Cause
each_causes_by rule pages = flat_map (page_causes_by rule) pages

-- each alone, and all of them in arrays of a type
abbrev pub all_causes_by : ValueRule → DataType → List (PageIndex Stored) → List Cause
all_causes_by rule data_type pages = each_causes_by rule pages ++ page_array_causes data_type (each_by rule pages)

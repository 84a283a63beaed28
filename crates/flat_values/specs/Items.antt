-- The items of a page.
use Rattle.std.specs.Prelude.{List, map, Option, Some}
use Rattle.columns_core.specs.declared.data_type.DataType.{DataType}
use Rattle.parquet_base.specs.Reading.{◌>>=◌}
use Rattle.parquet_page.specs.Content.{DataContent, DictContent}
use Rattle.parquet_page.specs.Spelling.{dictionary_entries, spelled}
use Rattle.flat_values.specs.Conversion.{Item, convert_place}
use Rattle.flat_values.specs.Pairs.{conversion}

-- what its bytes and those of the dictionary before it spell, converted: an item for each place
unfoldable pub page_items : DataType → Option DictContent → DataContent → Option (List Item)
page_items data_type dictionary page = do
  rule ← conversion page.type data_type
  places ← spelled page (dictionary >>= dictionary_entries page.type.physical_type)
  Some (map (convert_place rule) places)

-- What the rows of pages give to one who reads them as a type.
use Rattle.std.specs.Prelude.{ℕ, List, [], None}
use Rattle.std.specs.Option.{option_map_or}
use Rattle.columns_core.specs.Causes.{Cause}
use Rattle.columns_core.specs.declared.data_type.DataType.{DataType}
use Rattle.parquet_meta.specs.declared.metadata.PhysicalType.{PhysicalType}
use Rattle.parquet_meta.specs.declared.metadata.PrimitiveType.{PrimitiveType}
use Rattle.parquet_page.specs.Content.{Content}
use Rattle.page_decoding.specs.Column.{rows}
use Rattle.page_decoding.specs.Outcome.{Outcome}
use Rattle.flat_values.specs.Conversion.{Conversion}
use Rattle.flat_values.specs.Pairs.{conversion}
pub use Rattle.flat_binary.specs.Decoding.{column_entries, column_outcomes}
use Rattle.flat_binary.specs.PagesWanted.{pages_wanted}

-- What the rows of pages give, by a rule. Behind the last page stands what is wrong there.
abbrev pub rows_by : DataType → PhysicalType → List Content → List Cause → Conversion → List Outcome
rows_by data_type type pages causes rule = rows (column_entries data_type rule type) (column_outcomes data_type rule) None pages causes

-- by that of a pair that is carried
abbrev pub column_rows : PrimitiveType → DataType → List Content → List Cause → List Outcome
column_rows stored data_type pages causes = option_map_or (rows_by data_type stored.physical_type pages causes) (conversion stored data_type) []

-- The pages that are lent for so many rows, by a rule.
abbrev pub pages_by : DataType → PhysicalType → ℕ → List Content → Conversion → List Content
pages_by data_type type wanted pages rule = pages_wanted (column_entries data_type rule type) (column_outcomes data_type rule) None wanted pages

-- by that of a pair that is carried
abbrev pub pages_for : PrimitiveType → DataType → ℕ → List Content → List Content
pages_for stored data_type wanted pages = option_map_or (pages_by data_type stored.physical_type wanted pages) (conversion stored data_type) []

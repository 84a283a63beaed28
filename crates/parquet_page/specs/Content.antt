-- What a page holds, apart from where it lies in memory.
use Rattle.std.specs.Prelude.{ℕ, Bool, true, false, List, Option, Some, None, option_map}
use Rattle.parquet_base.specs.Intervals.{is_well_shaped, row_count}
use Rattle.parquet_base.specs.declared.interval.Interval.{Interval}
use Rattle.parquet_meta.specs.declared.metadata.PrimitiveType.{PrimitiveType}
use Rattle.parquet_meta.specs.declared.page_header.DataPageHeader.{DataPageHeader}
use Rattle.parquet_meta.specs.declared.page_header.DataPageHeader.TheVariants.{V1, V2}
use Rattle.parquet_page.specs.declared.page.DataPage.{DataPage}
use Rattle.parquet_page.specs.declared.page.DictPage.{DictPage}
use Rattle.parquet_page.specs.declared.page.Page.{Page}
use Rattle.parquet_page.specs.declared.page.Page.TheVariants.{Data, Dict}

-- a data page, with the rows of it that are wanted; without them all are
pub record DataContent : Type 0 where
  pub header : DataPageHeader
  pub body : List ℕ
  pub type : PrimitiveType
  pub selected : Option (List Interval)

-- a dictionary page
pub record DictContent : Type 0 where
  pub body : List ℕ
  pub num_values : ℕ

pub data Content : Type 0 where
  DataOf : DataContent → Content
  DictOf : DictContent → Content

abbrev pub data_content : DataPage → DataContent
data_content page = record { header = page.header; body = page.buffer.now; type = page.type_.now; selected = option_map (λ rows. rows.now) page.selected_rows }

abbrev pub dict_content : DictPage → DictContent
dict_content page = record { body = page.buffer.now; num_values = page.num_values }

abbrev pub content : Page → Content
content (Data page) = DataOf (data_content page)
content (Dict page) = DictOf (dict_content page)

-- the number of values that a header states
abbrev pub header_values : DataPageHeader → ℕ
header_values (V1 values encoding levels) = values
header_values (V2 values encoding definition repetition) = values

abbrev pub is_data : Content → Bool
is_data (DataOf page) = true
is_data (DictOf page) = false

-- how many rows a data page of so many values gives
abbrev pub rows_among : ℕ → Option (List Interval) → ℕ
rows_among values None = values
rows_among values (Some rows) = row_count rows

-- how many rows a page gives; a dictionary page gives none
abbrev pub content_rows : Content → ℕ
content_rows (DataOf page) = rows_among (header_values page.header) page.selected
content_rows (DictOf page) = 0

abbrev pub fit_in : ℕ → Option (List Interval) → Bool
fit_in values None = true
fit_in values (Some rows) = is_well_shaped rows values

-- the selected rows of a data page are well shaped for its values
abbrev pub is_shaped : Content → Bool
is_shaped (DataOf page) = fit_in (header_values page.header) page.selected
is_shaped (DictOf page) = true

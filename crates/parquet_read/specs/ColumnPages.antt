-- What the pages of a column mean, whole or by locations.
use Rattle.std.specs.Prelude.{ℕ, List}
use Rattle.columns_core.specs.Causes.{Cause}
use Rattle.parquet_page.specs.Content.{Content}
use Rattle.parquet_page.specs.Indexed.{indexed_causes, indexed_count, indexed_given, indexed_pages, indexed_rows}
use Rattle.parquet_page.specs.Reader.{reader_causes, reader_count, reader_given, reader_pages, reader_rows}
use Rattle.parquet_read.specs.declared.column_pages.ColumnPages.{ColumnPages}
use Rattle.parquet_read.specs.declared.column_pages.ColumnPages.TheVariants.{Whole, Located}

abbrev pub column_pages : ColumnPages → List Content
column_pages (Whole reader) = reader_pages reader
column_pages (Located reader) = indexed_pages reader

abbrev pub column_causes : ColumnPages → List Cause
column_causes (Whole reader) = reader_causes reader
column_causes (Located reader) = indexed_causes reader

-- the rows of the whole column, or those that are selected
abbrev pub rows_to_lend : ColumnPages → ℕ
rows_to_lend (Whole reader) = reader_rows reader
rows_to_lend (Located reader) = indexed_rows reader

-- the rows that are not to come any more
abbrev pub column_given : ColumnPages → ℕ
column_given (Whole reader) = reader_given reader
column_given (Located reader) = indexed_given reader

-- how many pages were lent
abbrev pub column_count : ColumnPages → ℕ
column_count (Whole reader) = reader_count reader
column_count (Located reader) = indexed_count reader

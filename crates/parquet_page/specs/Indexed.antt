-- What a reader of located pages means.
use Rattle.std.specs.Prelude.{ℕ, List}
use Rattle.columns_core.specs.Causes.{Cause}
use Rattle.parquet_page.specs.Content.{Content}
use Rattle.parquet_page.specs.Lent.{Lent}
use Rattle.parquet_page.specs.LocatedLeft.{located_given, located_left}
use Rattle.parquet_page.specs.declared.indexed.IndexedPageReader.{IndexedPageReader}

-- what is left to lend
abbrev pub indexed_lent : IndexedPageReader → Lent
indexed_lent reader = located_left reader.type_ reader.located

abbrev pub indexed_pages : IndexedPageReader → List Content
indexed_pages reader = (indexed_lent reader).pages

abbrev pub indexed_causes : IndexedPageReader → List Cause
indexed_causes reader = (indexed_lent reader).causes

-- the rows that are not to come any more
abbrev pub indexed_given : IndexedPageReader → ℕ
indexed_given reader = located_given reader.located

-- the selected rows of all pages
abbrev pub indexed_rows : IndexedPageReader → ℕ
indexed_rows reader = reader.located.count

-- how many pages were lent
abbrev pub indexed_count : IndexedPageReader → ℕ
indexed_count reader = reader.lent

-- What a reader of a whole chunk means.
use Rattle.std.specs.Prelude.{ℕ, List}
use Rattle.columns_core.specs.Causes.{Cause}
use Rattle.parquet_page.specs.Content.{Content}
use Rattle.parquet_page.specs.Lent.{Lent}
use Rattle.parquet_page.specs.Cursor.{cursor_given, cursor_lent}
use Rattle.parquet_page.specs.declared.reader.PageReader.{PageReader}

-- what is left to lend
abbrev pub reader_lent : PageReader → Lent
reader_lent reader = cursor_lent reader.type_ reader.cursor

abbrev pub reader_pages : PageReader → List Content
reader_pages reader = (reader_lent reader).pages

abbrev pub reader_causes : PageReader → List Cause
reader_causes reader = (reader_lent reader).causes

-- the rows that are not to come any more
abbrev pub reader_given : PageReader → ℕ
reader_given reader = cursor_given reader.cursor

-- the rows of the whole chunk
abbrev pub reader_rows : PageReader → ℕ
reader_rows reader = reader.cursor.count

-- how many pages were lent
abbrev pub reader_count : PageReader → ℕ
reader_count reader = reader.lent

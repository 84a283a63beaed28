-- The least and the greatest of the sample's items, by their numbers.
use Rattle.std.specs.Prelude.{ℕ, pos, List, Option, Some, None}
use Rattle.parquet_page.specs.Stored.{Stored, Number, Octets}
use Rattle.parquet_plain.specs.Bodies.{present}
use Rattle.parquet_plain.specs.Bounds.{Bounds, bounds_after}
use Rattle.parquet_plain.specs.Columns.{end_bytes, ends_of}
use Rattle.parquet_plain.specs.Orders.{numbers_at_most}
use Rattle.parquet_plain.specs.declared.ends.Ends.{Ends}
use Rattle.parquet_sample.specs.Sample.{name_text, texts_at_most}
use Rattle.parquet_sample.specs.Writing.{items_from, written_of}
use Rattle.parquet_sample.specs.declared.column.SampleColumn.{SampleColumn}
use Rattle.parquet_sample.specs.declared.column.SampleColumn.TheVariants.{Id, Qty, Name}
use Rattle.parquet_sample.specs.declared.number_ends.NumberEnds.{NumberEnds}

abbrev pub numbers_after : Bounds → List Stored → Bounds
numbers_after bounds items = bounds_after numbers_at_most bounds items

-- the item of a number
abbrev pub end_item : SampleColumn → ℕ → Stored
end_item Id n = Number (pos n)
end_item Qty n = Number (pos n)
end_item Name n = Octets (name_text n)

abbrev pub bounds_at : SampleColumn → Option NumberEnds → Bounds
bounds_at column None = None
bounds_at column (Some ends) = Some (end_item column ends.least, end_item column ends.greatest)

abbrev pub names_after : Bounds → List Stored → Bounds
names_after bounds items = bounds_after texts_at_most bounds items

-- ---- rows of a column

abbrev pub row_bounds : SampleColumn → ℕ → ℕ → Bounds
row_bounds column first rows = bounds_after (written_of column).at_most None (present (items_from column first rows))

abbrev pub row_ends : SampleColumn → ℕ → ℕ → Option Ends
row_ends column first rows =
    let to = written_of column in
    ends_of to.column.type.physical_type to.at_most (present (items_from column first rows))

-- the item of a number as an end
abbrev pub end_octets : SampleColumn → ℕ → List ℕ
end_octets column n = end_bytes (written_of column).column.type.physical_type (end_item column n)

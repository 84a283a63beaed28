-- Items by their rows, and the column that they are.
use Rattle.std.specs.Prelude.{◌≡◌, ℕ, Bool, List, [], slice_get, Option, Some, None, option_and_then, option_map, IsSome}
use Rattle.parquet_meta.specs.declared.metadata.PhysicalType.{PhysicalType}
use Rattle.parquet_page.specs.Stored.{Stored}
use Rattle.parquet_plain.specs.Bodies.{present}
use Rattle.parquet_plain.specs.Bounds.{Bounds, bounds_after}
use Rattle.parquet_plain.specs.Columns.{Written}
use Rattle.parquet_write.specs.declared.bounds.RowBounds.{RowBounds}
use Rattle.parquet_write.specs.declared.pages.Paging.{Paging}

-- the item of a row, if the row is there
abbrev pub row_of : List (Option Stored) → ℕ → Option Stored
row_of items row = option_and_then (λ item. item) (slice_get items row)

-- ---- bounds by their rows

-- both rows are there
abbrev pub AreBothThere : List (Option Stored) → Option RowBounds → Type 0
AreBothThere items None = Unit {0}
AreBothThere items (Some rows) = IsSome (row_of items rows.least) × IsSome (row_of items rows.greatest)

abbrev pub bounds_by_rows : List (Option Stored) → Option RowBounds → Bounds
bounds_by_rows items None = None
bounds_by_rows items (Some rows) =
    option_and_then (λ least. option_map (λ greatest. (least, greatest)) (row_of items rows.greatest)) (row_of items rows.least)

-- there are bounds, by rows of all items, and they are those of some of the items
pub record FindsBounds (at_most : Stored → Stored → Bool) (items some : List (Option Stored)) (found : Option RowBounds) : Type 0 where
  pub there : AreBothThere items found
  pub same : bounds_by_rows items found ≡ bounds_after at_most None (present some)

-- ---- columns

-- a column of items of a type in an order; its name and what is more of its type stand in the footer alone
abbrev pub unnamed_column : PhysicalType → (Stored → Stored → Bool) → Paging → Written
unnamed_column type at_most paging = record {
  column = record { name = []; type = record { physical_type = type; logical_type = None; repetition = paging.repetition } };
  at_most = at_most;
  page_rows = paging.page_rows;
}

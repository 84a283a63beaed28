-- The least and the greatest of items, an item at a time, and of two lists of them.
use Rattle.std.specs.Prelude.{Bool, List, [], ◌∷◌, Option, Some, None}
use Rattle.parquet_meta.specs.declared.metadata.PhysicalType.{PhysicalType}
use Rattle.parquet_page.specs.Stored.{Stored}
use Rattle.parquet_plain.specs.Columns.{end_bytes, first_of, last_of}
use Rattle.parquet_plain.specs.declared.ends.Ends.{Ends}

-- none, or the least and the greatest
abbrev pub Bounds : Type 0
Bounds = Option (Stored × Stored)

abbrev pub with_item : (Stored → Stored → Bool) → Bounds → Stored → Stored × Stored
with_item at_most None item = (item, item)
with_item at_most (Some bounds) item = (first_of at_most bounds.0 item, last_of at_most bounds.1 item)

abbrev pub bounds_after : (Stored → Stored → Bool) → Bounds → List Stored → Bounds
bounds_after at_most bounds [] = bounds
bounds_after at_most bounds (item ∷ items) = bounds_after at_most (Some (with_item at_most bounds item)) items

-- of items and of those behind them
abbrev pub joined_bounds : (Stored → Stored → Bool) → Bounds → Bounds → Bounds
joined_bounds at_most None second = second
joined_bounds at_most (Some a) None = Some a
joined_bounds at_most (Some a) (Some b) = Some (first_of at_most a.0 b.0, last_of at_most a.1 b.1)

-- as they are stored
abbrev pub stored_bounds : PhysicalType → Bounds → Option Ends
stored_bounds type None = None
stored_bounds type (Some bounds) =
    Some (record { least = end_bytes type bounds.0; greatest = end_bytes type bounds.1 })

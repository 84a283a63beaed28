-- All chunks of a group, one after another, and the rows that they have.
use Rattle.std.specs.Prelude.{◌≡◌, ℕ, ◌≤◌, List, [], ◌∷◌, ◌++◌, flat_map, map, slice_get, sum_by, Some, Ok}
use Rattle.std.specs.Option.{option_map_or}
use Rattle.columns_core.specs.Array.{cells}
use Rattle.columns_core.specs.Chunk.{array_rows}
use Rattle.columns_core.specs.declared.array.Array.{Array}
use Rattle.columns_core.specs.declared.cell.Cell.{Cell}
use Rattle.page_decoding.specs.Outcome.{Given, Outcome}
use Rattle.flat_values.specs.ColumnLeft.{ColumnLeft, wanted as rows_left}
use Rattle.parquet_read.specs.Rows.{GivesNextRows, GroupLeft}

-- each is the next one, until no row is wanted
abbrev pub AreAllChunks : GroupLeft → List (List Array) → Type 0
AreAllChunks left [] = left.wanted ≡ 0
AreAllChunks left (chunk ∷ chunks) =
    (next : GroupLeft) × (steps : ℕ) × (steps_now : ℕ) × GivesNextRows left (Some (Ok chunk)) next steps steps_now × AreAllChunks next chunks

-- the cells of one column in all of them
abbrev pub cells_of_column : ℕ → List (List Array) → List Cell
cells_of_column k chunks = flat_map (λ chunk. option_map_or cells (slice_get chunk k) []) chunks

-- There are as many rows as are wanted, or more.
abbrev pub HaveRows : Type 0
HaveRows = (left : GroupLeft) (chunks : List (List Array)) → AreAllChunks left chunks → left.wanted ≤ sum_by array_rows chunks

-- The cells of each column are its first rows, in their order.
abbrev pub HaveFirstRows : Type 0
HaveFirstRows = (left : GroupLeft) (chunks : List (List Array)) (k : ℕ) (column : ColumnLeft) → AreAllChunks left chunks → slice_get left.columns k ≡ Some column
    → (others : List Outcome) × (rows_left column ≡ map Given (cells_of_column k chunks) ++ others)

-- The bytes of ends, counted.
use Rattle.std.specs.Prelude.{ℕ, ◌+◌, ◌-◌, ◌^◌, min, Bool, ◌&&◌, List, sum_by, Option}
use Rattle.columns_core.specs.declared.cell.Cell.{Cell}
use Rattle.columns_core.specs.declared.data_type.DataType.{DataType}
use Rattle.columns_core.specs.Types.{value_type}
use Rattle.page_decoding.specs.Bytes.{fits_most}
use Rattle.flat_values.specs.MostBytes.{most_bytes}
use Rattle.column_ends.specs.Converted.{bytes_of_one_end}

-- Counts stop at the greatest number of 64 bits, which fits no array of texts or byte strings.
abbrev pub capped : ℕ → ℕ
capped n = min n (2 ^ 64 - 1)

-- the bytes of some low ends, and of some high ones
abbrev pub bytes_of_ends : List (Option Cell) → List (Option Cell) → ℕ × ℕ
bytes_of_ends low high = (capped (sum_by bytes_of_one_end low), capped (sum_by bytes_of_one_end high))

-- with those of one more of each
abbrev pub with_one_more : ℕ × ℕ → Option Cell → Option Cell → ℕ × ℕ
with_one_more bytes low high = (capped (bytes.0 + bytes_of_one_end low), capped (bytes.1 + bytes_of_one_end high))

-- as many fit an array of a type, whose values a dictionary type has
abbrev pub fit : DataType → ℕ × ℕ → Bool
fit data_type bytes =
    fits_most (most_bytes (value_type data_type)) bytes.0 && fits_most (most_bytes (value_type data_type)) bytes.1

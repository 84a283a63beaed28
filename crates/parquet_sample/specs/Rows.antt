-- The bytes of a row of the sample in the pages of each column.
use Rattle.std.specs.Prelude.{ℕ, List, [], ◌++◌, length, not, map, Bool, if◌then◌else◌}
use Rattle.std.specs.Int.{w32, w64, to_le_bytes}
use Rattle.std.specs.List.{range_with_len}
use Rattle.parquet_sample.specs.Sample.{is_absent, name_text, quantity}

abbrev pub id_bytes : ℕ → List ℕ
id_bytes n = to_le_bytes w64 n

abbrev pub qty_bytes : ℕ → List ℕ
qty_bytes n = if is_absent n then [] else to_le_bytes w32 (quantity n)

abbrev pub text_bytes : ℕ → List ℕ
text_bytes n = to_le_bytes w32 (length (name_text n)) ++ name_text n

-- which of the rows from one on have a quantity
abbrev pub are_present : ℕ → ℕ → List Bool
are_present first rows = map (λ n. not (is_absent n)) (range_with_len first rows)

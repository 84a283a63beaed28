-- What a place among truth values has still to give, on the bytes that it is handed.
use Rattle.std.specs.Prelude.{ℕ, List, map, IsSome}
use Rattle.columns_core.specs.declared.cell.Cell.{Bool as TruthCell}
use Rattle.page_decoding.specs.Outcome.{Outcome, Given}
use Rattle.parquet_encoding.specs.PlainLeft.{bits_left, truths}
use Rattle.parquet_encoding.specs.declared.plain_bits.PlainBits.{PlainBits}

-- the truth values that stand there
abbrev pub truth_outcomes : List ℕ → PlainBits → List Outcome
truth_outcomes bytes place = map (λ b. Given (TruthCell b)) (truths place bytes)

-- the place is one among the truth values in these bytes
abbrev pub IsOverTruths : List ℕ → PlainBits → Type 0
IsOverTruths bytes place = IsSome (bits_left place bytes)

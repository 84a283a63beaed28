-- A step of filling a list with values of the hybrid encoding.
use Rattle.std.specs.Prelude.{◌≡◌, ℕ, ◌≤◌, List, [], ◌++◌, length, take, drop, Some}
use Rattle.parquet_encoding.specs.HybridLeft.{hybrid_left, hybrid_values}
use Rattle.parquet_encoding.specs.declared.hybrid.HybridRle.{HybridRle}

-- So many of the values that are left stand at the front of a list, and the others are left. It is none only where none is left.
pub record FillsSome (old new : HybridRle) (bytes before now : List ℕ) (count : ℕ) : Type 0 where
  pub ended : count ≡ 0 → hybrid_values old bytes ≡ []
  pub few : count ≤ length (hybrid_values old bytes)
  pub room : count ≤ length before
  pub values : now ≡ take count (hybrid_values old bytes) ++ drop count before
  pub rest : hybrid_left new bytes ≡ Some (drop count (hybrid_values old bytes))

-- Numbers that change by deltas, in 64 bits.
use Rattle.std.specs.Prelude.{ℤ, ◌+ℤ◌, List, [], ◌∷◌}
use Rattle.std.specs.Int.{w64, int_wrap}

-- the number behind deltas
unfoldable pub number_behind : ℤ → List ℤ → ℤ
number_behind value [] = value
number_behind value (delta ∷ deltas) = number_behind (int_wrap w64 (value +ℤ delta)) deltas

-- the numbers before each of them
unfoldable pub numbers_before : ℤ → List ℤ → List ℤ
numbers_before value [] = []
numbers_before value (delta ∷ deltas) = value ∷ numbers_before (int_wrap w64 (value +ℤ delta)) deltas

-- The places in joined items at which each begins and the last ends, the first of them 0.
use Rattle.std.specs.Prelude.{◌≡◌, ◌<◌, ◌≤◌, ℕ, suc, ◌+◌, ◌-◌, List, [], ◌∷◌, length, get_or, slice_get, slice_range, Some}

-- The first is 0, and none is below the one before it.
pub record AreOffsets (offsets : List ℕ) : Type 0 where
  pub begins : slice_get offsets 0 ≡ Some 0
  pub rise : (i : ℕ) → suc i < length offsets → get_or offsets i 0 ≤ get_or offsets (suc i) 0

-- where the items end
abbrev pub last : List ℕ → ℕ
last offsets = get_or offsets (length offsets - 1) 0

-- the items between neighbouring places
abbrev pub parts : {X : Type 0} → List ℕ → List X → List (List X)
parts [] joined = []
parts (start ∷ []) joined = []
parts (start ∷ end ∷ offsets) joined = slice_range joined start end ∷ parts (end ∷ offsets) joined

-- where items of these lengths end behind a place
abbrev pub ends_behind : ℕ → List ℕ → List ℕ
ends_behind place [] = []
ends_behind place (long ∷ lengths) = (place + long) ∷ ends_behind (place + long) lengths

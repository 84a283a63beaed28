-- Which items a mask leaves.
use Rattle.std.specs.Prelude.{ℕ, Bool, true, false, List, get_or, Option, Some, None}

-- the item at a place is there
abbrev pub is_there : Option (List Bool) → ℕ → Bool
is_there None i = true
is_there (Some mask) i = get_or mask i false

-- Kinds of arrays.
use Rattle.std.specs.Prelude.{◌≡◌}
use Rattle.columns_core.specs.declared.array.Array.{Array}

-- the array is not of this kind
abbrev pub IsNot : {Of : Type 0} → (Of → Array) → Array → Type 0
IsNot {Of} kind array = (of : Of) → array ≡ kind of → ⊥

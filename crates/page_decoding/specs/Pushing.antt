-- Items that are appended to a list.
use Rattle.std.specs.Prelude.{◌≡◌, ◌⊎◌, Bool, true, false, List, [], ◌∷◌, ◌++◌, Some, Result, Ok, Err}
use Rattle.columns_core.specs.Causes.{IsWantOfMemory, Overflow, cause_of}
use Rattle.columns_core.specs.declared.error.Error.{Error}

-- A blank item is appended; or none is, for want of memory.
abbrev pub GrowsByBlank : {X Item : Type 0} → (Item → Type 0) → List Item → List Item → Result X Error → Type 0
GrowsByBlank {Item = Item} is_blank old new (Ok done) = (blank : Item) × is_blank blank × (new ≡ old ++ blank ∷ [])
GrowsByBlank is_blank old new (Err error) = (new ≡ old) × IsWantOfMemory error

-- Items are appended, and all of them fit; or none is, for want of memory or since they do not fit.
abbrev pub Grows : {X Item : Type 0} → (List Item → Bool) → List Item → List Item → List Item → Result X Error → Type 0
Grows fit more old new (Ok done) = (new ≡ old ++ more) × (fit new ≡ true)
Grows fit more old new (Err error) =
    (new ≡ old) × (IsWantOfMemory error ⊎ ((cause_of error ≡ Some Overflow) × (fit (old ++ more) ≡ false)))

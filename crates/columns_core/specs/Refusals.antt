-- What a call that reads or is handed something refuses.
use Rattle.std.specs.Prelude.{◌≡◌, ◌⊎◌, Bool, true, false, Option, Some, None}
use Rattle.columns_core.specs.Causes.{IsWantOfMemory, ExternalFormat, cause_of, is_invalid_argument}
use Rattle.columns_core.specs.declared.error.Error.{Error}

-- want of memory, or what was to be read is damaged
abbrev pub IsDamaged : {T : Type 0} → Option T → Error → Type 0
IsDamaged spelled error = IsWantOfMemory error ⊎ ((cause_of error ≡ Some ExternalFormat) × (spelled ≡ None))

-- Want of memory aside, arguments of another shape are refused as such, and others only where something is damaged.
abbrev pub Refuses : {T : Type 0} → Bool → Option T → Error → Type 0
Refuses false spelled error = IsWantOfMemory error ⊎ (is_invalid_argument error ≡ true)
Refuses true spelled error = IsDamaged spelled error

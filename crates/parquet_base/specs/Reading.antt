-- Reading from a place on: bytes are the list from the place to the end.
use Rattle.std.specs.Prelude.{◌≡◌, ℕ, ◌+◌, ◌-◌, ◌≤◌, Bool, true, false, List, length, drop, Option, Some, None, option_and_then, option_map, Result, Ok, Err}

-- what the bytes from a place on spell, and the bytes after it; None where they spell nothing
abbrev pub Read : Type 0 → Type 0
Read A = List ℕ → Option (A × List ℕ)

infixl 10 ◌>>=◌
abbrev pub ◌>>=◌ : {A B : Type 0} → Option A → (A → Option B) → Option B
o >>= f = option_and_then f o

-- x, where the test holds
abbrev pub given : {A : Type 0} → Bool → A → Option A
given true x = Some x
given false x = None

-- a function of the value, with the same bytes after it
abbrev pub map_value : {A B : Type 0} → (A → B) → Option (A × List ℕ) → Option (B × List ℕ)
map_value {A = A} {B = B} f o = option_map {U = B × List ℕ} (λ x. (f x.0, x.1)) o

-- the bytes after what was read
abbrev pub after : {A : Type 0} → Option (A × List ℕ) → Option (List ℕ)
after o = option_map (λ x. x.1) o

-- a call answers what is spelled, seen by view, and refuses where nothing is
abbrev pub Gives : {X Y E : Type 0} → (X → Y) → Result X E → Option Y → Type 0
Gives view (Ok x) spelled = spelled ≡ Some (view x)
Gives view (Err e) spelled = spelled ≡ None

-- the rest is the end of the whole
pub record IsEnd (whole rest : List ℕ) : Type 0 where
  pub within : length rest ≤ length whole
  pub ends : drop (length whole - length rest) whole ≡ rest

-- what is read leaves so many bytes fewer, or nothing is read
abbrev pub Takes : {A : Type 0} → ℕ → List ℕ → Option (A × List ℕ) → Type 0
Takes k bytes None = Unit {0}
Takes k bytes (Some x) = k + length x.1 ≤ length bytes

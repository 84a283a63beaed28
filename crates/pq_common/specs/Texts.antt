-- Calls that add to a text.
use Rattle.std.specs.Prelude.{◌≡◌, ℕ, List, ◌++◌, Result, IfOk}

-- The old text stands, and this piece behind it, where the call does not fail.
abbrev pub AddsText : {T E : Type 0} → List ℕ → List ℕ → Result T E → List ℕ → Type 0
AddsText piece old result new = IfOk result (λ _. new ≡ old ++ piece)

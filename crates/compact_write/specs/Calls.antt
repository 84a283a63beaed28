-- Calls that write behind the bytes that are there.
use Rattle.std.specs.Prelude.{◌≡◌, ℕ, List, ◌++◌, Result, Vec, IfOk}

-- the old bytes stand, and these behind them, where the call does not fail
abbrev pub Writes : {Z T E : Type 0} → List ℕ → Vec ℕ Z → Result T E → Vec ℕ Z → Type 0
Writes bytes old result new = IfOk result (λ _. new.items ≡ old.items ++ bytes)

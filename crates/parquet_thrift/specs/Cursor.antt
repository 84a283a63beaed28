-- Calls that move over bytes.
use Rattle.std.specs.Prelude.{◌≡◌, ℕ, List, Some, None, Result, Ok, Err}
use Rattle.parquet_base.specs.Reading.{Read, after}

-- all bytes, and those from the place on
pub record Cursor : Type 0 where
  pub whole : List ℕ
  pub rest : List ℕ

-- a call gives what is spelled, seen by view, and moves past it; where nothing is, it refuses and stays
abbrev pub Reads : {X E A : Type 0} → (X → A) → Read A → Cursor → Result X E → Cursor → Type 0
Reads view read old (Ok x) new = (read old.rest ≡ Some (view x, new.rest)) × (new.whole ≡ old.whole)
Reads view read old (Err e) new = (read old.rest ≡ None) × (new ≡ old)

-- a call moves past what is spelled, and gives nothing of it
abbrev pub Passes : {X E A : Type 0} → Read A → Cursor → Result X E → Cursor → Type 0
Passes read old (Ok x) new = (after (read old.rest) ≡ Some new.rest) × (new.whole ≡ old.whole)
Passes read old (Err e) new = (read old.rest ≡ None) × (new ≡ old)

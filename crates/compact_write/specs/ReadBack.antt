-- What it is that written bytes are read back.
use Rattle.std.specs.Prelude.{◌≡◌, ◌++◌, ℕ, List, Some}
use Rattle.parquet_base.specs.Reading.{Read}

-- the bytes of a thing that can be written are read as that thing, whatever stands behind them
abbrev pub ReadsBack : {A : Type 0} → (A → Type 0) → (A → List ℕ) → Read A → Type 0
ReadsBack {A = A} CanBe bytes read = (x : A) (rest : List ℕ) → CanBe x → read (bytes x ++ rest) ≡ Some (x, rest)

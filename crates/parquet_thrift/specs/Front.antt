-- Reading from the front: what is read stands in bytes of its own, whatever stands after them.
use Rattle.std.specs.Prelude.{◌≡◌, ℕ, ◌≤◌, List, [], ◌++◌, length, Some, IfSome}
use Rattle.parquet_base.specs.Reading.{Read}

-- bytes of its own, so many at least, in front of the rest; from them the same is read, whatever follows
pub record IsAtFront {A : Type 0} (read : Read A) (least : ℕ) (bytes : List ℕ) (found : A × List ℕ) : Type 0 where
  pub front : List ℕ
  pub whole : bytes ≡ front ++ found.1
  pub some : least ≤ length front
  pub same : (more : List ℕ) → read (front ++ more) ≡ Some (found.0, more)

abbrev pub ReadsFront : {A : Type 0} → ℕ → Read A → Type 0
ReadsFront least read = (bytes : List ℕ) → IfSome (read bytes) (IsAtFront read least bytes)

-- these bytes, all of them, spell the value
abbrev pub Spells : {A : Type 0} → Read A → List ℕ → A → Type 0
Spells read front value = read front ≡ Some (value, [])

-- spellings that begin the same bytes are one spelling of one value
abbrev pub SpellsOnce : {A : Type 0} → Read A → Type 0
SpellsOnce {A = A} read =
    (first second more others : List ℕ) (one other : A) → first ++ more ≡ second ++ others → Spells read first one → Spells read second other → (first ≡ second) × (one ≡ other)

-- What an error tells of: one of the causes of a part is one of the whole.
use Rattle.std.proofs.Common.{refl, ℕ, zero, suc, ◌<◌, List, [], ◌∷◌, length, get_or, inl, inr, arith}
use Rattle.std.specs.Prelude.{◌⊎◌, Contains, Option, flat_map}
use Rattle.columns_core.specs.Causes.{Cause, IsOneOf, IsWantOfMemory, cause_of}
use Rattle.columns_core.specs.declared.error.Error.{Error}
use Rattle.page_decoding.proofs.RowLemmas.{one_of-left, one_of-right}

module _ (e : Error) where
  abbrev pub ComesFrom : List Cause → Type 0
  ComesFrom told = IsWantOfMemory e ⊎ IsOneOf told (cause_of e)

pub first_of : (cause : Cause) (rest : List Cause) → Contains (cause ∷ rest) cause
first_of cause rest = (0, omega arith, refl)

-- of one of some parts
pub one_of_any : {X : Type 0} (f : X → List Cause) (xs : List X) (i : ℕ) (d : X) (cause : Option Cause) → i < length xs → IsOneOf (f (get_or xs i d)) cause → IsOneOf (flat_map f xs) cause
one_of_any f [] i d cause h told = absurd (omega arith)
one_of_any f (x ∷ xs) zero d cause h told = one_of-left (f x) (flat_map f xs) cause told
one_of_any f (x ∷ xs) (suc i) d cause h told = one_of-right (f x) (flat_map f xs) cause (one_of_any f xs i d cause (omega arith) told)

pub told_any : {X : Type 0} (e : Error) (f : X → List Cause) (xs : List X) (i : ℕ) (d : X) → i < length xs → ComesFrom e (f (get_or xs i d)) → ComesFrom e (flat_map f xs)
told_any e f xs i d h (inl memory) = inl memory
told_any e f xs i d h (inr told) = inr (one_of_any f xs i d (cause_of e) h told)

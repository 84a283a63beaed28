-- How the causes of a part are among those of the whole.
use Rattle.std.proofs.Common.{◌≡◌, ℕ, zero, suc, ◌<◌, List, [], ◌∷◌, ◌++◌, length, get_or, ap, arith, inl, inr}
use Rattle.std.specs.Prelude.{Option, Some, None, ◌⊎◌, OnOk, Result, Ok, Err}
use Rattle.std.specs.List.{flat_map}
use Rattle.std.proofs.lemmas.List.Elements.{Contains-append_cases}
use Rattle.columns_core.specs.declared.error.Error.{Error}
use Rattle.columns_core.specs.Causes.{Cause, IsOneOf, IsWantOfMemory, cause_of, and_then}
use Rattle.page_decoding.proofs.NextLemmas.{nothing_wrong}
use Rattle.page_decoding.proofs.RowLemmas.{one_of-left, one_of-right}

-- what an error tells of
abbrev pub ComesFrom : List Cause → Error → Type 0
ComesFrom causes e = IsWantOfMemory e ⊎ IsOneOf causes (cause_of e)

-- one of several parts is one of the first of them or of the rest
pub one_cases : (first rest : List Cause) (o : Option Cause) → IsOneOf (first ++ rest) o → IsOneOf first o ⊎ IsOneOf rest o
one_cases first rest None k = absurd k
one_cases first rest (Some cause) k = Contains-append_cases first rest cause k

weaker : {A B C : Type 0} → (B → C) → A ⊎ B → A ⊎ C
weaker f (inl a) = inl a
weaker f (inr b) = inr (f b)

pub tells_left : (first rest : List Cause) (e : Error) → ComesFrom first e → ComesFrom (first ++ rest) e
tells_left first rest e k = weaker (one_of-left first rest (cause_of e)) k

pub tells_right : (first rest : List Cause) (e : Error) → ComesFrom rest e → ComesFrom (first ++ rest) e
tells_right first rest e k = weaker (one_of-right first rest (cause_of e)) k

-- what it tells of an item it tells of all
pub tells_of_all : {X : Type 0} (f : X → List Cause) (xs : List X) (i : ℕ) (d : X) (e : Error) → i < length xs → ComesFrom (f (get_or xs i d)) e → ComesFrom (flat_map f xs) e
tells_of_all f [] i d e h k = absurd (omega arith)
tells_of_all f (x ∷ xs) zero d e h k = tells_left (f x) (flat_map f xs) e k
tells_of_all f (x ∷ xs) (suc i) d e h k = tells_right (f x) (flat_map f xs) e (tells_of_all f xs i d e (omega arith) k)

-- what is wrong with a step is wrong with it and the next
pub among_first : (first next : List Cause) (o : Option Cause) → IsOneOf first o → IsOneOf (and_then first next) o
among_first [] next o k = absurd (nothing_wrong o k)
among_first (cause ∷ causes) next o k = k

pub then_next : (first next : List Cause) → first ≡ [] → and_then first next ≡ next
then_next first next none = ap (λ causes. and_then causes next) none

-- what follows on an answer from what holds there
pub ok_so : {T E P Q : Type 0} (r : Result T E) → (P → Q) → OnOk r P → OnOk r Q
ok_so (Ok x) f p = f p
ok_so (Err e) f p = tt

-- What is wrong with one of several is wrong with all of them.
use Rattle.std.proofs.Common.{◌≡◌, ℕ, zero, suc, ◌<◌, List, [], ◌∷◌, ◌++◌, length, get_or, map, subst, sym, arith, inl, inr}
use Rattle.std.specs.Prelude.{◌⊎◌}
use Rattle.std.specs.List.{flat_map}
use Rattle.std.proofs.lemmas.List.Folds.{flat_map-map}
use Rattle.columns_core.specs.Causes.{Cause, IsOneOf, IsWantOfMemory, cause_of}
use Rattle.columns_core.specs.declared.error.Error.{Error}
use Rattle.page_decoding.proofs.RowLemmas.{one_of-left, one_of-right}

-- what an error tells of
abbrev pub TellsOf : List Cause → Error → Type 0
TellsOf causes e = IsWantOfMemory e ⊎ IsOneOf causes (cause_of e)

module _ (e : Error) where
  pub tells-left : (first rest : List Cause) → TellsOf first e → TellsOf (first ++ rest) e
  tells-left first rest (inl memory) = inl memory
  tells-left first rest (inr told) = inr (one_of-left first rest (cause_of e) told)

  tells-right : (first rest : List Cause) → TellsOf rest e → TellsOf (first ++ rest) e
  tells-right first rest (inl memory) = inl memory
  tells-right first rest (inr told) = inr (one_of-right first rest (cause_of e) told)

  tells-any : {X : Type 0} (f : X → List Cause) (xs : List X) (i : ℕ) (d : X) → i < length xs → TellsOf (f (get_or xs i d)) e → TellsOf (flat_map f xs) e
  tells-any f [] i d h told = absurd (omega arith)
  tells-any f (x ∷ xs) zero d h told = tells-left (f x) (flat_map f xs) told
  tells-any f (x ∷ xs) (suc i) d h told = tells-right (f x) (flat_map f xs) (tells-any f xs i d (omega arith) told)

  pub tells-of_all : {X Y : Type 0} (f : Y → List Cause) (g : X → Y) (xs : List X) (i : ℕ) (x : X) → i < length xs → x ≡ get_or xs i x → TellsOf (f (g x)) e → TellsOf (flat_map f (map g xs)) e
  tells-of_all f g xs i x h is told =
      subst (λ causes. TellsOf causes e) (sym (flat_map-map f g xs))
      (tells-any (λ y. f (g y)) xs i x h (subst (λ y. TellsOf (f (g y)) e) is told))

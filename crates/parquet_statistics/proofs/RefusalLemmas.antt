-- What is refused of a part is refused of the whole.
use Rattle.std.proofs.Common.{◌≡◌, refl, sym, subst, Bool, true, false, List, [], ◌∷◌, ◌++◌, inl, inr, arith}
use Rattle.std.specs.Prelude.{Contains, Option, Some, None}
use Rattle.std.proofs.lemmas.List.Elements.{Contains-append_left, Contains-append_right}
use Rattle.columns_core.specs.Causes.{Cause, cause_of}
use Rattle.columns_core.specs.declared.error.Error.{Error}
use Rattle.columns_core.specs.declared.error.Error.TheVariants as error
use Rattle.parquet_statistics.specs.Refusal.{Refusal, Caused, IsOneRefusal, IsRefusedBy, demand, told_refusal}

-- ---- of one of several

one_left : (first rest : List Refusal) (told : Option Refusal) → IsOneRefusal first told → IsOneRefusal (first ++ rest) told
one_left first rest None told = absurd told
one_left first rest (Some refusal) told = Contains-append_left first rest refusal told

one_right : (first rest : List Refusal) (told : Option Refusal) → IsOneRefusal rest told → IsOneRefusal (first ++ rest) told
one_right first rest None told = absurd told
one_right first rest (Some refusal) told = Contains-append_right first rest refusal told

module _ (e : Error) where
  pub refused_left : (first rest : List Refusal) → IsRefusedBy first e → IsRefusedBy (first ++ rest) e
  refused_left first rest (inl memory) = inl memory
  refused_left first rest (inr told) = inr (one_left first rest (told_refusal e) told)

  pub refused_right : (first rest : List Refusal) → IsRefusedBy rest e → IsRefusedBy (first ++ rest) e
  refused_right first rest (inl memory) = inl memory
  refused_right first rest (inr told) = inr (one_right first rest (told_refusal e) told)

  -- by the same
  pub as_refused : (first second : List Refusal) → first ≡ second → IsRefusedBy first e → IsRefusedBy second e
  as_refused first second same refused = subst (λ refusals. IsRefusedBy refusals e) same refused

  cause_told : (own : Error) (cause : Cause) → cause_of own ≡ Some cause → told_refusal own ≡ Some (Caused cause)
  cause_told (error.NotYetImplemented part) cause h = let same : _ ≡ cause = cc in λ i. Some (Caused (same i))
  cause_told (error.ExternalFormat part) cause h = let same : _ ≡ cause = cc in λ i. Some (Caused (same i))
  cause_told (error.OutOfSpec part) cause h = let same : _ ≡ cause = cc in λ i. Some (Caused (same i))
  cause_told error.Overflow cause h = let same : _ ≡ cause = cc in λ i. Some (Caused (same i))
  cause_told (error.InvalidArgumentError part) cause h = absurd cc
  cause_told error.Io cause h = absurd cc
  cause_told error.OutOfMemory cause h = absurd cc

  pub refused_cause : (refusals : List Refusal) (cause : Cause) → cause_of e ≡ Some cause → Contains refusals (Caused cause) → IsRefusedBy refusals e
  refused_cause refusals cause is told = inr (subst (λ own. IsOneRefusal refusals own) (sym (cause_told e cause is)) told)

pub first_refusal : (refusal : Refusal) (others : List Refusal) → Contains (refusal ∷ others) refusal
first_refusal refusal others = (0, omega arith, refl)

-- ---- tests

pub demand_met : (passes : Bool) (refusal : Refusal) → passes ≡ true → demand passes refusal ≡ []
demand_met true refusal e = refl
demand_met false refusal e = absurd cc

-- several parts have no refusal
pub none_of_both : (first rest : List Refusal) → first ≡ [] → rest ≡ [] → first ++ rest ≡ []
none_of_both [] rest e f = f
none_of_both (refusal ∷ first) rest e f = absurd cc

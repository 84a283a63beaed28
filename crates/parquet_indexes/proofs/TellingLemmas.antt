-- What is told of each of a list in turn.
use Rattle.std.proofs.Common.{◌≡◌, refl, sym, ◌∙◌, ap, subst, ℕ, ◌+◌, ◌≤◌, List, [], ◌∷◌, ◌++◌, Option, Some, None, arith, inl, inr, append_assoc, sum_by}
use Rattle.parquet_meta.specs.Source.{IsReadFailure}
use Rattle.std.specs.Prelude.{◌⊎◌, IfSome, flat_map}
use Rattle.std.specs.List.{AllZip}
use Rattle.std.proofs.lemmas.List.{append-nil}
use Rattle.std.proofs.lemmas.List.Sums.{sum_by-cons}
use Rattle.columns_core.specs.Causes.{Cause, IsOneOf, IsWantOfMemory, cause_of}
use Rattle.columns_core.specs.declared.error.Error.{Error}
use Rattle.columns_core.specs.declared.error.Error.TheVariants as error
use Rattle.parquet_meta.proofs.FailureLemmas.{fails_more}
use Rattle.page_decoding.proofs.RowLemmas.{one_of-left}

-- ---- failures

-- An error that tells of causes is such a failure.
pub fails_by : (told : Option (List ℕ)) (before now : ℕ) (causes : List ℕ → List Cause) (own : List Cause) (e : Error)
    → IfSome told (λ file. causes file ≡ own) → IsWantOfMemory e ⊎ IsOneOf own (cause_of e) → IsReadFailure told before now causes e
fails_by told before now causes own (error.InvalidArgumentError p) is (inl memory) = absurd cc
fails_by told before now causes own (error.InvalidArgumentError p) is (inr one) = absurd one
fails_by None before now causes own (error.NotYetImplemented p) is k = tt
fails_by (Some file) before now causes own (error.NotYetImplemented p) is (inl memory) = absurd cc
fails_by (Some file) before now causes own (error.NotYetImplemented p) is (inr one) = subst (λ all. IsOneOf all (cause_of (error.NotYetImplemented p))) (sym is) one
fails_by None before now causes own (error.ExternalFormat p) is k = tt
fails_by (Some file) before now causes own (error.ExternalFormat p) is (inl memory) = absurd cc
fails_by (Some file) before now causes own (error.ExternalFormat p) is (inr one) = subst (λ all. IsOneOf all (cause_of (error.ExternalFormat p))) (sym is) one
fails_by None before now causes own (error.OutOfSpec p) is k = tt
fails_by (Some file) before now causes own (error.OutOfSpec p) is (inl memory) = absurd cc
fails_by (Some file) before now causes own (error.OutOfSpec p) is (inr one) = subst (λ all. IsOneOf all (cause_of (error.OutOfSpec p))) (sym is) one
fails_by None before now causes own error.Overflow is k = tt
fails_by (Some file) before now causes own error.Overflow is (inl memory) = absurd cc
fails_by (Some file) before now causes own error.Overflow is (inr one) = subst (λ all. IsOneOf all (cause_of error.Overflow)) (sym is) one
fails_by told before now causes own error.Io is (inl memory) = absurd cc
fails_by told before now causes own error.Io is (inr one) = absurd one
fails_by told before now causes own error.OutOfMemory is k = tt

-- ---- each of a list in turn

-- What was told, and what is told of the rest, is told of all; nothing was wrong so far; and what was taken, and what is left to take, is at most all.
pub record IsTelling {A B : Type 0} (R : List ℕ → A → B → Type 0) (causes : List ℕ → A → List Cause) (cost : A → ℕ) (told : Option (List ℕ)) (all rest : List A) (items : List B) (before_all now : ℕ) : Type 0 where
  pub each : IfSome told (λ file. (more : List B) → AllZip (R file) rest more → AllZip (R file) all (items ++ more))
  pub none : IfSome told (λ file. flat_map (causes file) all ≡ flat_map (causes file) rest)
  pub taken : now + sum_by cost rest ≤ before_all + sum_by cost all

module _ {A B : Type 0} (R : List ℕ → A → B → Type 0) (causes : List ℕ → A → List Cause) (cost : A → ℕ) where
  pub telling_begins : (told : Option (List ℕ)) (all : List A) (items : List B) (start : ℕ) → items ≡ [] → IsTelling R causes cost told all all items start start
  telling_begins None all items start none = record { each = tt; none = tt; taken = omega arith }
  telling_begins (Some file) all items start none = record {
    each = λ more are. subst (λ (front : List B). AllZip (R file) all (front ++ more)) (sym none) are;
    none = refl;
    taken = omega arith;
  }

  pub telling_goes_on : (told : Option (List ℕ)) (all rest : List A) (x : A) (items : List B) (y : B) (before_all now then : ℕ) → IsTelling R causes cost told all (x ∷ rest) items before_all now
      → IfSome told (λ file. R file x y) → IfSome told (λ file. causes file x ≡ []) → then ≤ now + cost x → IsTelling R causes cost told all rest (items ++ y ∷ []) before_all then
  telling_goes_on None all rest x items y before_all now then telling one own le = record { each = tt; none = tt; taken = omega (arith, telling.taken, le, sum_by-cons cost x rest) }
  telling_goes_on (Some file) all rest x items y before_all now then telling one own le = record {
    each = λ more are. subst (AllZip (R file) all) (sym (append_assoc items (y ∷ []) more)) (telling.each (y ∷ more) (one, are));
    none = telling.none ∙ ap (λ (front : List Cause). front ++ flat_map (causes file) rest) own;
    taken = omega (arith, telling.taken, le, sum_by-cons cost x rest);
  }

  pub telling_ends : (told : Option (List ℕ)) (all : List A) (items : List B) (before_all now : ℕ) → IsTelling R causes cost told all [] items before_all now
      → IfSome told (λ file. AllZip (R file) all items) × IfSome told (λ file. flat_map (causes file) all ≡ [])
  telling_ends None all items before_all now telling = (tt, tt)
  telling_ends (Some file) all items before_all now telling = (subst (AllZip (R file) all) (append-nil items) (telling.each [] tt), telling.none)

  -- An error of one is that of the whole.
  pub telling_refused : (told here : Option (List ℕ)) (all rest : List A) (x : A) (items : List B) (before_all taken a b c : ℕ) (e : Error) → IsTelling R causes cost told all (x ∷ rest) items before_all taken
      → a ≤ b → here ≡ told → IsReadFailure here b c (λ file. causes file x) e → IsReadFailure told a c (λ file. flat_map (causes file) all) e
  telling_refused told here all rest x items before_all taken a b c e telling le same fails =
      fails_more told a b c (λ file. causes file x) (λ file. flat_map (causes file) all) e le (within told telling)
      (subst (λ (o : Option (List ℕ)). IsReadFailure o b c (λ file. causes file x) e) same fails) where
        within : (told : Option (List ℕ)) → IsTelling R causes cost told all (x ∷ rest) items before_all taken → IfSome told (λ file. (o : Option Cause) → IsOneOf (causes file x) o → IsOneOf (flat_map (causes file) all) o)
        within None telling = tt
        within (Some file) telling = λ o one. subst (λ all. IsOneOf all o) (sym telling.none) (one_of-left (causes file x) (flat_map (causes file) rest) o one)

-- Parts of a file that are read for each of a list in turn.
use Rattle.std.proofs.Common.{◌≡◌, ℕ, ◌+◌, ◌≤◌, List, [], ◌∷◌, ◌++◌, Option, Some, None, Err, refl, subst, arith, sum_by}
use Rattle.std.specs.Prelude.{IfSome}
use Rattle.std.proofs.lemmas.List.Sums.{sum_by-cons}
use Rattle.columns_core.specs.declared.error.Error.{Error}
use Rattle.columns_core.specs.declared.error.Error.TheVariants as error
use Rattle.parquet_base.specs.Failures.{MayFail}
use Rattle.parquet_meta.specs.Lists.{all_of}
use Rattle.parquet_meta.specs.Source.{Finds}
use Rattle.parquet_meta.proofs.ListLemmas.{IsMaking, making-goes_on, making-fails, making-ends}

-- what was read, and what is left, are all of it; what was taken, and what is left to take, are at most all
pub record IsReadingEach {A B : Type 0} (value : List ℕ → A → Option B) (cost : A → ℕ) (told : Option (List ℕ)) (all rest : List A) (items : List B) (before_all now : ℕ) : Type 0 where
  pub found : IfSome told (λ file. IsMaking (value file) all rest items)
  pub taken : now + sum_by cost rest ≤ before_all + sum_by cost all

pub each_goes_on : {A B : Type 0} (value : List ℕ → A → Option B) (cost : A → ℕ) (told : Option (List ℕ)) (all rest : List A) (x : A) (items : List B) (y : B) (before_all now then : ℕ) →
    IsReadingEach value cost told all (x ∷ rest) items before_all now → IfSome told (λ file. value file x ≡ Some y) → then ≤ now + cost x → IsReadingEach value cost told all rest (items ++ y ∷ []) before_all then
each_goes_on {A = A} {B = B} value cost told all rest x items y before_all now then reading one le = record {
  found = found told reading.found one;
  taken = omega (arith, reading.taken, le, sum_by-cons cost x rest);
}
  where
    found : (o : Option (List ℕ)) → IfSome o (λ file. IsMaking (value file) all (x ∷ rest) items) → IfSome o (λ file. value file x ≡ Some y) → IfSome o (λ file. IsMaking (value file) all rest (items ++ y ∷ []))
    found None making e = tt
    found (Some file) making e = making-goes_on (value file) all (x ∷ rest) rest x items y making refl e

-- one that has no value leaves none for all
each_fails : {A B : Type 0} (value : List ℕ → A → Option B) (cost : A → ℕ) (all rest : List A) (x : A) (items : List B) (before_all now : ℕ) (file : List ℕ) →
    IsReadingEach value cost (Some file) all (x ∷ rest) items before_all now → value file x ≡ None → all_of (value file) all ≡ None
each_fails value cost all rest x items before_all now file reading none = making-fails (value file) all (x ∷ rest) rest x items reading.found refl none

pub each_ends : {A B : Type 0} (value : List ℕ → A → Option B) (cost : A → ℕ) (told : Option (List ℕ)) (all : List A) (items : List B) (before_all now : ℕ) →
    IsReadingEach value cost told all [] items before_all now → IfSome told (λ file. all_of (value file) all ≡ Some items)
each_ends {A = A} {B = B} value cost told all items before_all now reading = found told reading.found
  where
    found : (o : Option (List ℕ)) → IfSome o (λ file. IsMaking (value file) all [] items) → IfSome o (λ file. all_of (value file) all ≡ Some items)
    found None making = tt
    found (Some file) making = making-ends (value file) all [] items making refl

-- a failure of a later call is one of the whole
pub may_fail-later : (a b c : ℕ) → a ≤ b → MayFail b c → MayFail a c
may_fail-later a b c le fail = omega (arith, le, fail)

-- an error of one is that of the whole
refused : {X Y A B : Type 0} (view : X → B) (views : Y → List B) (value : List ℕ → A → Option B) (cost : A → ℕ) (told : Option (List ℕ)) (all rest : List A) (x : A) (items : List B) (before_all now : ℕ) (a b c : ℕ) (e : Error) →
    IsReadingEach value cost told all (x ∷ rest) items before_all now → a ≤ b → Finds view (λ file. value file x) told b c (Err e) → Finds views (λ file. all_of (value file) all) told a c (Err e)
refused view views value cost None all rest x items before_all now a b c (error.ExternalFormat part) reading le finds = tt
refused view views value cost (Some file) all rest x items before_all now a b c (error.ExternalFormat part) reading le finds = each_fails value cost all rest x items before_all now file reading finds
refused view views value cost told all rest x items before_all now a b c error.Io reading le finds = may_fail-later a b c le finds
refused view views value cost told all rest x items before_all now a b c error.OutOfMemory reading le finds = tt
refused view views value cost told all rest x items before_all now a b c (error.InvalidArgumentError part) reading le finds = absurd finds
refused view views value cost told all rest x items before_all now a b c (error.NotYetImplemented part) reading le finds = absurd finds
refused view views value cost told all rest x items before_all now a b c (error.OutOfSpec part) reading le finds = absurd finds
refused view views value cost told all rest x items before_all now a b c error.Overflow reading le finds = absurd finds

-- the same where the call speaks of what the source tells at its time
pub each_refused : {X Y A B : Type 0} (view : X → B) (views : Y → List B) (value : List ℕ → A → Option B) (cost : A → ℕ) (told here : Option (List ℕ)) (all rest : List A) (x : A) (items : List B) (before_all now : ℕ) (a b c : ℕ) (e : Error) →
    IsReadingEach value cost told all (x ∷ rest) items before_all now → a ≤ b → here ≡ told → Finds view (λ file. value file x) here b c (Err e) → Finds views (λ file. all_of (value file) all) told a c (Err e)
each_refused view views value cost told here all rest x items before_all now a b c e reading le same finds =
    refused view views value cost told all rest x items before_all now a b c e reading le (subst (λ (o : Option (List ℕ)). Finds view (λ file. value file x) o b c (Err e)) same finds)

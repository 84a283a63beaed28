-- What calls find that are made one behind the other.
use Rattle.std.proofs.Common.{◌≡◌, ℕ, ◌≤◌, List, [], ◌∷◌, ◌++◌, refl, sym, ap, subst, arith, Option, Some, None}
use Rattle.std.specs.Prelude.{IfErr, IfOk, IfSome, Result, Ok, Err, option_map}
use Rattle.columns_core.specs.Causes.{Cause, IsOneOf, IsWantOfMemory}
use Rattle.columns_core.specs.declared.error.Error.{Error}
use Rattle.columns_core.specs.declared.error.Error.TheVariants as error
use Rattle.parquet_meta.specs.Source.{Finds}
use Rattle.parquet_meta.proofs.EachLemmas.{may_fail-later}

-- an error of a first call is one of the whole
pub finds_err : {X Y A B : Type 0} (view : X → A) (whole : Y → B) (spelled : List ℕ → Option A) (all : List ℕ → Option B) (told : Option (List ℕ)) (a b c : ℕ) (e : Error) → a ≤ b
    → IfSome told (λ file. spelled file ≡ None → all file ≡ None) → Finds view spelled told b c (Err e) → Finds whole all told a c (Err e)
finds_err view whole spelled all None a b c (error.ExternalFormat part) le none finds = tt
finds_err view whole spelled all (Some file) a b c (error.ExternalFormat part) le none finds = none finds
finds_err view whole spelled all told a b c error.Io le none finds = may_fail-later a b c le finds
finds_err view whole spelled all told a b c error.OutOfMemory le none finds = tt
finds_err view whole spelled all told a b c (error.InvalidArgumentError part) le none finds = absurd finds
finds_err view whole spelled all told a b c (error.NotYetImplemented part) le none finds = absurd finds
finds_err view whole spelled all told a b c (error.OutOfSpec part) le none finds = absurd finds
finds_err view whole spelled all told a b c error.Overflow le none finds = absurd finds

-- the same where the call speaks of what the source tells at its time
pub finds_err_later : {X Y A B : Type 0} (view : X → A) (whole : Y → B) (spelled : List ℕ → Option A) (all : List ℕ → Option B) (told here : Option (List ℕ)) (a b c : ℕ) (e : Error) → a ≤ b → here ≡ told
    → IfSome told (λ file. spelled file ≡ None → all file ≡ None) → Finds view spelled here b c (Err e) → Finds whole all told a c (Err e)
finds_err_later view whole spelled all told here a b c e le same none finds =
    finds_err view whole spelled all told a b c e le none (subst (λ (o : Option (List ℕ)). Finds view spelled o b c (Err e)) same finds)

-- a call that wants memory alone
pub finds_opened : {X A : Type 0} (view : X → A) (spelled : List ℕ → Option A) (told : Option (List ℕ)) (a b : ℕ) (result : Result X Error)
    → IfOk result (λ x. IfSome told (λ file. spelled file ≡ Some (view x))) → IfErr result IsWantOfMemory → Finds view spelled told a b result
finds_opened view spelled told a b (Ok x) given memory = given
finds_opened view spelled told a b (Err e) given memory = subst (λ (e : Error). Finds view spelled told a b (Err e)) (sym memory) tt

pub finds_memory : {X A : Type 0} (view : X → A) (spelled : List ℕ → Option A) (told : Option (List ℕ)) (a b : ℕ) (e : Error) → IsWantOfMemory e → Finds view spelled told a b (Err e)
finds_memory view spelled told a b e memory = subst (λ (e : Error). Finds view spelled told a b (Err e)) (sym memory) tt

-- ---- what is opened

pub nil_parts : {A : Type 0} (xs ys : List A) → xs ++ ys ≡ [] → (xs ≡ []) × (ys ≡ [])
nil_parts [] ys e = (refl, e)
nil_parts (x ∷ xs) ys e = absurd (let bad : x ∷ (xs ++ ys) ≡ [] = e in cc)

pub none_of : (o : Option Cause) → IsOneOf [] o → ⊥
none_of None one = one
none_of (Some cause) one = omega (arith, one.1)

pub maps_same : {A B : Type 0} (f g : A → B) → ((x : A) → f x ≡ g x) → (o : Option A) → option_map f o ≡ option_map g o
maps_same f g same None = refl
maps_same f g same (Some x) = ap (λ y. Some y) (same x)

-- ---- facts about a file that is told

-- what can not be missing
pub none_told : {A B : Type 0} {P : List ℕ → Type 0} (told : Option (List ℕ)) (spelled : List ℕ → Option A) (all : List ℕ → Option B) → ((file : List ℕ) → P file → spelled file ≡ None → ⊥)
    → IfSome told P → IfSome told (λ file. spelled file ≡ None → all file ≡ None)
none_told None spelled all there holds = tt
none_told (Some file) spelled all there holds = λ none. absurd (there file holds none)

pub told_by : {P Q : List ℕ → Type 0} (told : Option (List ℕ)) → ((file : List ℕ) → P file → Q file) → IfSome told P → IfSome told Q
told_by None goes holds = tt
told_by (Some file) goes holds = goes file holds

pub told_with : {P Q R G : List ℕ → Type 0} (told : Option (List ℕ)) → ((file : List ℕ) → P file → Q file → R file → G file) → IfSome told P → IfSome told Q → IfSome told R → IfSome told G
told_with None goes p q r = tt
told_with (Some file) goes p q r = goes file p q r

pub told_result : {X A : Type 0} (view : X → A) (spelled : List ℕ → Option A) (told : Option (List ℕ)) (result : Result X Error)
    → IfSome told (λ file. IfOk result (λ x. Some (view x) ≡ spelled file)) → IfOk result (λ x. IfSome told (λ file. spelled file ≡ Some (view x)))
told_result view spelled None (Ok x) given = tt
told_result view spelled (Some file) (Ok x) given = sym given
told_result view spelled told (Err e) given = tt

pub told_all : {P : List ℕ → Type 0} (told : Option (List ℕ)) → ((file : List ℕ) → P file) → IfSome told P
told_all None goes = tt
told_all (Some file) goes = goes file

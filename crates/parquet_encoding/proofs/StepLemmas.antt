-- Steps that may have no value.
use Rattle.std.proofs.Common.{◌≡◌, Bool, true, false, Option, Some, None, refl}
use Rattle.std.specs.Prelude.{IsSome, IfSome, Result, Ok, Err, IsErr, is_ok}
use Rattle.parquet_base.specs.Reading.{◌>>=◌, given, Gives}

pub bind_some : {A B : Type 0} (r : Option A) (f : A → Option B) (y : B) → (r >>= f) ≡ Some y → (x : A) × (r ≡ Some x) × (f x ≡ Some y)
bind_some (Some x) f y e = (x, refl, e)
bind_some None f y e = absurd cc

pub given_some : {A : Type 0} (b : Bool) (x y : A) → given b x ≡ Some y → (b ≡ true) × (x ≡ y)
given_some true x y e = (refl, cc)
given_some false x y e = absurd cc

abbrev pub something : {A : Type 0} → A → Option A
something x = Some x

pub some_is : {A : Type 0} (x y : A) → something x ≡ something y → x ≡ y
some_is x y e = cc

pub same_steps : {A B : Type 0} (r : Option A) (f g : A → Option B) → ((x : A) → r ≡ Some x → f x ≡ g x) → (r >>= f) ≡ (r >>= g)
same_steps None f g h = refl
same_steps (Some x) f g h = h x refl

pub is_something : {A : Type 0} (o : Option A) → IsSome o → (x : A) × (o ≡ Some x)
is_something (Some x) h = (x, refl)
is_something None h = absurd cc

abbrev pub nothing : {A : Type 0} → Option A
nothing = None

pub nothing_is : {A : Type 0} (x : A) → nothing {A = A} ≡ Some x → ⊥
nothing_is x e = absurd cc

pub if_some : {A : Type 0} (o : Option A) (P : A → Type 0) → ((x : A) → o ≡ Some x → P x) → IfSome o P
if_some None P f = tt
if_some (Some x) P f = f x refl

pub not_ok : {T E : Type 0} (r : Result T E) → IsErr r → is_ok r ≡ false
not_ok (Ok x) h = absurd cc
not_ok (Err e) h = refl

pub something_is : {A : Type 0} (o : Option A) (x : A) → o ≡ Some x → IsSome o
something_is o x e = rw e refl

pub same_some : {A : Type 0} (o p : Option A) → o ≡ p → IsSome p → IsSome o
same_some o p e h = rw e h

-- a refusal, where nothing is spelled
pub gives_none : {X Y E : Type 0} (view : X → Y) (r : Result X E) (spelled : Option Y) → IsErr r → spelled ≡ None → Gives view r spelled
gives_none view (Ok x) spelled h e = absurd cc
gives_none view (Err y) spelled h e = e

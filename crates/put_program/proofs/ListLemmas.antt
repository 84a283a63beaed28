-- Lists an item at a time.
use Rattle.std.proofs.Common.{◌≡◌, ℕ, zero, suc, ◌+◌, ◌<◌, Bool, true, false, ◌&&◌, List, [], ◌∷◌, ◌++◌, Option, Some, None, refl, sym, ap, subst, ◌∙◌, arith, get_or, length, take, unwrap_or}
use Rattle.std.specs.Prelude.{◌||◌, slice_get}
use Rattle.std.specs.List.{AllZip, list_all, list_any}
use Rattle.std.proofs.lemmas.List.Folds.{list_all-append}

-- one item more
-- what stands at a place
pub at-place : {X : Type 0} (xs : List X) (i : ℕ) (x : X) → i < length xs → x ≡ get_or xs i x → slice_get xs i ≡ Some x
at-place [] i x lt own = absurd (omega arith)
at-place (y ∷ xs) zero x lt own = ap Some (sym own)
at-place (y ∷ xs) (suc i) x lt own = at-place xs i x (omega arith) own

abbrev to_list : {X : Type 0} → Option X → List X
to_list None = []
to_list (Some x) = x ∷ []

take-suc : {X : Type 0} (xs : List X) (i : ℕ) (x : X) → slice_get xs i ≡ Some x → take (suc i) xs ≡ take i xs ++ x ∷ []
take-suc [] i x own = absurd cc
take-suc (y ∷ xs) zero x own = ap to_list own
take-suc {X = X} (y ∷ xs) (suc i) x own = ap (λ (l : List X). y ∷ l) (take-suc xs i x own)

next : (i : ℕ) → i + 1 ≡ suc i
next i = omega arith

pub take-next : {X : Type 0} (xs : List X) (i : ℕ) (x : X) → slice_get xs i ≡ Some x → take (i + 1) xs ≡ take i xs ++ x ∷ []
take-next xs i x own = ap (λ (n : ℕ). take n xs) (next i) ∙ take-suc xs i x own

abbrev tested : {X : Type 0} → (X → Bool) → Option X → Bool
tested p None = false
tested p (Some x) = p x

and-both : (a b : Bool) → a ≡ true → b ≡ true → (a && b) ≡ true
and-both a b first second = ap (λ (c : Bool). c && b) first ∙ second

all-one : {X : Type 0} (p : X → Bool) (x : X) → p x ≡ true → list_all p (x ∷ []) ≡ true
all-one p x holds = and-both (p x) true holds refl

pub all-more : {X : Type 0} (p : X → Bool) (xs : List X) (i : ℕ) (x : X) → slice_get xs i ≡ Some x → p x ≡ true → list_all p (take i xs) ≡ true → list_all p (take (i + 1) xs) ≡ true
all-more p xs i x own holds so_far =
    ap (list_all p) (take-next xs i x own) ∙ list_all-append p (take i xs) (x ∷ []) ∙ and-both (list_all p (take i xs)) (list_all p (x ∷ [])) so_far (all-one p x holds)

and-second : (a b : Bool) → b ≡ false → (a && b) ≡ false
and-second true b fails = fails
and-second false b fails = refl

pub all-fails : {X : Type 0} (p : X → Bool) (xs : List X) (i : ℕ) (x : X) → slice_get xs i ≡ Some x → p x ≡ false → list_all p xs ≡ false
all-fails p [] i x own fails = absurd cc
all-fails p (y ∷ xs) zero x own fails = first (p y) (list_all p xs) (ap (tested p) own ∙ fails)
  where
    first : (a b : Bool) → a ≡ false → (a && b) ≡ false
    first a b e = ap (λ (c : Bool). c && b) e
all-fails p (y ∷ xs) (suc i) x own fails = and-second (p y) (list_all p xs) (all-fails p xs i x own fails)

or-second : (a b : Bool) → b ≡ true → (a || b) ≡ true
or-second true b holds = refl
or-second false b holds = holds

pub any-found : {X : Type 0} (p : X → Bool) (xs : List X) (i : ℕ) (x : X) → slice_get xs i ≡ Some x → p x ≡ true → list_any p xs ≡ true
any-found p [] i x own holds = absurd cc
any-found p (y ∷ xs) zero x own holds = first (p y) (list_any p xs) (ap (tested p) own ∙ holds)
  where
    first : (a b : Bool) → a ≡ true → (a || b) ≡ true
    first a b e = ap (λ (c : Bool). c || b) e
any-found p (y ∷ xs) (suc i) x own holds = or-second (p y) (list_any p xs) (any-found p xs i x own holds)

none-append : {X : Type 0} (p : X → Bool) (xs : List X) (x : X) → p x ≡ false → list_any p xs ≡ false → list_any p (xs ++ x ∷ []) ≡ false
none-append p [] x fails none = ap (λ (b : Bool). b || false) fails
none-append p (y ∷ xs) x fails none = ap (λ (b : Bool). b || list_any p (xs ++ x ∷ [])) (left (p y) _ none) ∙ none-append p xs x fails (right (p y) _ none)
  where
    left : (a b : Bool) → (a || b) ≡ false → a ≡ false
    left true b e = e
    left false b e = refl

    right : (a b : Bool) → (a || b) ≡ false → b ≡ false
    right true b e = absurd cc
    right false b e = e

pub none-more : {X : Type 0} (p : X → Bool) (xs : List X) (i : ℕ) (x : X) → slice_get xs i ≡ Some x → p x ≡ false → list_any p (take i xs) ≡ false → list_any p (take (i + 1) xs) ≡ false
none-more p xs i x own fails none = ap (list_any p) (take-next xs i x own) ∙ none-append p (take i xs) x fails none

-- ---- two lists

pub zip-at : {A B : Type 0} (R : A → B → Type 0) (xs : List A) (ys : List B) (i : ℕ) (x : A) (y : B) → slice_get xs i ≡ Some x → slice_get ys i ≡ Some y → AllZip R xs ys → R x y
zip-at R [] ys i x y first second all = absurd cc
zip-at R (a ∷ xs) [] i x y first second all = absurd cc
zip-at R (a ∷ xs) (b ∷ ys) zero x y first second all =
    subst (λ z. R z y) (ap (λ o. unwrap_or o a) first) (subst (R a) (ap (λ o. unwrap_or o b) second) all.0)
zip-at R (a ∷ xs) (b ∷ ys) (suc i) x y first second all = zip-at R xs ys i x y first second all.1

pub zip-last : {A B : Type 0} (R : A → B → Type 0) (xs : List A) (ys : List B) (x : A) (y : B) → AllZip R xs ys → R x y → AllZip R (xs ++ x ∷ []) (ys ++ y ∷ [])
zip-last R [] [] x y all one = (one, tt)
zip-last R [] (b ∷ ys) x y all one = absurd all
zip-last R (a ∷ xs) [] x y all one = absurd all
zip-last R (a ∷ xs) (b ∷ ys) x y all one = (all.0, zip-last R xs ys x y all.1 one)

pub zip-more : {A B : Type 0} (R : A → B → Type 0) (xs : List A) (ys : List B) (i : ℕ) (x : A) (y : B) → slice_get xs i ≡ Some x → slice_get ys i ≡ Some y → R x y →
    AllZip R (take i xs) (take i ys) → AllZip R (take (i + 1) xs) (take (i + 1) ys)
zip-more R xs ys i x y first second one all =
    subst (λ l. AllZip R l (take (i + 1) ys)) (sym (take-next xs i x first)) (subst (AllZip R (take i xs ++ x ∷ [])) (sym (take-next ys i y second)) (zip-last R (take i xs) (take i ys) x y all one))

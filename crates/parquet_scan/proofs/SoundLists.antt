-- What lists and options give where each of their parts gives it, and parts of lists of causes.
use Rattle.std.proofs.Common.{◌≡◌, ℕ, zero, suc, ◌+◌, ◌<◌, ◌≤◌, Bool, true, false, cond, List, [], ◌∷◌, ◌++◌, inl, inr, length, filter, refl, sym, ◌∙◌, ap, subst, arith, get_or, All}
use Rattle.std.specs.Prelude.{Option, Some, None, IfSome, find, filter_map, flat_map, option_and_then}
use Rattle.std.specs.List.{AllByRecursion, cons_option, list_any, range_with_len}
use Rattle.std.proofs.lemmas.Bool.{false≢true, or_left, or_right, cases_lt}
use Rattle.std.proofs.lemmas.List.Elements.{All-from_recursion, recursion_from_All}
use Rattle.columns_core.specs.Causes.{Cause, and_then}

-- ---- options

pub if_some : {X : Type 0} (P : X → Type 0) (o : Option X) (x : X) → o ≡ Some x → IfSome o P → P x
if_some {X} P o x e h = subst (λ (found : Option X). IfSome found P) e h

pub and_then_all : {X Y : Type 0} (o : Option X) (f : X → Option Y) (P : Y → Type 0) → ((x : X) → IfSome (f x) P) → IfSome (option_and_then f o) P
and_then_all None f P step = tt
and_then_all (Some x) f P step = step x

-- ---- what is found for numbers

with_first : {X : Type 0} (P : X → Type 0) (o : Option X) (rest : List X) → IfSome o P → AllByRecursion P rest → AllByRecursion P (cons_option o rest)
with_first P None rest here there = there
with_first P (Some x) rest here there = (here, there)

pub all_found : {X : Type 0} (P : X → Type 0) (f : ℕ → Option X) → ((n : ℕ) → IfSome (f n) P) → (ns : List ℕ) → AllByRecursion P (filter_map f ns)
all_found P f each [] = tt
all_found P f each (n ∷ ns) = with_first P (f n) (filter_map f ns) (each n) (all_found P f each ns)

any_behind : {X : Type 0} (test : X → Bool) (o : Option X) (rest : List X) → list_any test rest ≡ true → list_any test (cons_option o rest) ≡ true
any_behind test None rest h = h
any_behind test (Some x) rest h = or_right (test x) (list_any test rest) h

pub any_found : {X : Type 0} (test : X → Bool) (f : ℕ → Option X) (start n row : ℕ) (x : X) → start ≤ row → row < start + n → f row ≡ Some x → test x ≡ true
    → list_any test (filter_map f (range_with_len start n)) ≡ true
any_found test f start zero row x low high e p = absurd (omega (arith, low, high))
any_found test f start (suc n) row x low high e p =
    elim (cases_lt start row) [
      | inl later ↦ any_behind test (f start) (filter_map f (range_with_len (start + 1) n)) (any_found test f (start + 1) n row x (omega (arith, later)) (omega (arith, high)) e p)
      | inr not_later ↦ (let same : start ≡ row = omega (arith, low, not_later) in
          ap (λ o. list_any test (cons_option o (filter_map f (range_with_len (start + 1) n)))) (ap f same ∙ e) ∙ or_left (test x) _ p)
    ]

pub fewer_found : {X : Type 0} (f : ℕ → Option X) (ns : List ℕ) → length (filter_map f ns) ≤ length ns
fewer_found f [] = omega arith
fewer_found f (n ∷ ns) = counted (f n) (filter_map f ns) (fewer_found f ns) where
  counted : {X : Type 0} (o : Option X) (rest : List X) → length rest ≤ length ns → length (cons_option o rest) ≤ suc (length ns)
  counted None rest h = omega (arith, h)
  counted (Some x) rest h = omega (arith, h)

-- ---- what a search finds, and what a filter keeps

-- It passes the test, and what holds of each item holds of it.
pub find_passes : {X : Type 0} (test : X → Bool) (xs : List X) (x : X) → find test xs ≡ Some x → test x ≡ true
find_passes test [] x e = cc
find_passes test (y ∷ ys) x e = first test y (test y) refl (find test ys) x (find_passes test ys x) e where
  first : {X : Type 0} (test : X → Bool) (y : X) (b : Bool) → test y ≡ b → (later : Option X) (x : X) → (later ≡ Some x → test x ≡ true) → cond b (Some y) later ≡ Some x → test x ≡ true
  first test y true p later x step e = let same : y ≡ x = cc in ap test (sym same) ∙ p
  first test y false p later x step e = step e

pub find_holds : {X : Type 0} (P : X → Type 0) (test : X → Bool) (xs : List X) (x : X) → find test xs ≡ Some x → AllByRecursion P xs → P x
find_holds P test [] x e all = cc
find_holds P test (y ∷ ys) x e all = first P y (test y) (find test ys) x e all.0 (λ later. find_holds P test ys x later all.1) where
  first : {X : Type 0} (P : X → Type 0) (y : X) (b : Bool) (later : Option X) (x : X) → cond b (Some y) later ≡ Some x → P y → (later ≡ Some x → P x) → P x
  first P y true later x e here step = let same : y ≡ x = cc in subst P same here
  first P y false later x e here step = step e

kept_at : {X : Type 0} (P : X → Type 0) (test : X → Bool) (xs : List X) (k : ℕ) (d : X) → AllByRecursion P (filter test xs) → k < length xs → test (get_or xs k d) ≡ true → P (get_or xs k d)
kept_at P test [] k d all h p = absurd (omega (arith, h))
kept_at P test (x ∷ xs) zero d all h p = here P x (test x) (filter test xs) p all where
  here : {X : Type 0} (P : X → Type 0) (x : X) (b : Bool) (rest : List X) → b ≡ true → AllByRecursion P (cond b (x ∷ rest) rest) → P x
  here P x true rest p all = all.0
  here P x false rest p all = absurd (false≢true p)
kept_at P test (x ∷ xs) (suc k) d all h p = kept_at P test xs k d (rest P x (test x) (filter test xs) all) (omega (arith, h)) p where
  rest : {X : Type 0} (P : X → Type 0) (x : X) (b : Bool) (others : List X) → AllByRecursion P (cond b (x ∷ others) others) → AllByRecursion P others
  rest P x true others all = all.1
  rest P x false others all = all

-- what holds of all that pass a test holds of one of them
pub filter_at : {X : Type 0} (P : X → Type 0) (test : X → Bool) (xs : List X) (k : ℕ) (d : X) → All P (filter test xs) → k < length xs → test (get_or xs k d) ≡ true → P (get_or xs k d)
filter_at P test xs k d all h p = kept_at P test xs k d (recursion_from_All P (filter test xs) all) h p

-- ---- no causes

pub append_nil : {X : Type 0} (xs ys : List X) → xs ++ ys ≡ [] → (xs ≡ []) × (ys ≡ [])
append_nil [] ys e = (refl, e)
append_nil (x ∷ xs) ys e = cc

nothing_each : {X Y : Type 0} (f : X → List Y) (xs : List X) → flat_map f xs ≡ [] → AllByRecursion (λ x. f x ≡ []) xs
nothing_each f [] e = tt
nothing_each f (x ∷ xs) e = let parts = append_nil (f x) (flat_map f xs) e in (parts.0, nothing_each f xs parts.1)

pub nothing_of_each : {X Y : Type 0} (f : X → List Y) (xs : List X) → flat_map f xs ≡ [] → All (λ x. f x ≡ []) xs
nothing_of_each f xs e = All-from_recursion (λ x. f x ≡ []) xs (nothing_each f xs e)

pub nothing_next : (first next : List Cause) → and_then first next ≡ [] → next ≡ []
nothing_next [] next e = e
nothing_next (cause ∷ causes) next e = cc

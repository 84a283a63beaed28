-- Lists that are made item by item, of values that may be missing.
use Rattle.std.proofs.Common.{◌≡◌, ℕ, zero, suc, ◌≤◌, List, [], ◌∷◌, ◌++◌, length, drop, Option, Some, None, refl, sym, ap, ◌∙◌, arith, append_assoc}
use Rattle.std.proofs.lemmas.List.{append-nil}
use Rattle.parquet_base.specs.Reading.{◌>>=◌}

pub drop_all : {A : Type 0} (n : ℕ) (xs : List A) → length xs ≤ n → drop n xs ≡ []
drop_all zero [] h = refl
drop_all (suc n) [] h = refl
drop_all zero (x ∷ xs) h = absurd (omega arith)
drop_all (suc n) (x ∷ xs) h = drop_all n xs (omega arith)

-- items that were made, and those that are still made
abbrev pub with_front : {A : Type 0} → List A → Option (List A) → Option (List A)
with_front front others = others >>= λ rest. Some (front ++ rest)

-- an item, and the others
abbrev pub one_and : {A : Type 0} → Option A → Option (List A) → Option (List A)
one_and own others = own >>= λ x. others >>= λ xs. Some (x ∷ xs)

regroup : {A : Type 0} (front : List A) (own : A) (others : Option (List A)) → with_front front (one_and (Some own) others) ≡ with_front (front ++ own ∷ []) others
regroup front own None = refl
regroup front own (Some rest) = ap Some (sym (append_assoc front (own ∷ []) rest))

pub begins : {A : Type 0} (front : List A) (all : Option (List A)) → front ≡ [] → with_front front all ≡ all
begins front None e = refl
begins front (Some rest) e = rw e refl

pub one_more : {A : Type 0} (front : List A) (own : Option A) (x : A) (here others total : Option (List A)) → here ≡ one_and own others → own ≡ Some x → with_front front here ≡ total → with_front (front ++ x ∷ []) others ≡ total
one_more front own x here others total step e so_far = sym (regroup front x others) ∙ ap (λ o. with_front front (one_and o others)) (sym e) ∙ ap (with_front front) (sym step) ∙ so_far

pub none_here : {A : Type 0} (front : List A) (own : Option A) (here others total : Option (List A)) → here ≡ one_and own others → own ≡ None → with_front front here ≡ total → total ≡ None
none_here front own here others total step e so_far = sym so_far ∙ ap (with_front front) step ∙ ap (λ o. with_front front (one_and o others)) e

pub is_done : {A : Type 0} (front : List A) (here total : Option (List A)) → here ≡ Some [] → with_front front here ≡ total → total ≡ Some front
is_done front here total e so_far = sym so_far ∙ ap (with_front front) e ∙ ap Some (append-nil front)

-- Strings that a walk appends one after another.
use Rattle.std.proofs.Common.{◌≡◌, ℕ, zero, suc, ◌+◌, ◌-◌, ◌<◌, ◌≤◌, List, [], ◌∷◌, ◌++◌, length, map, take, drop, get_or, Option, Some, None, refl, sym, ap, ◌∙◌, subst, arith, append_assoc}
use Rattle.std.specs.Prelude.{All, IsUtf8, slice_get, sum_by, unwrap_or}
use Rattle.std.proofs.Math.ListN.{get_or-map}
use Rattle.std.proofs.Math.Seq.{drop-nil}
use Rattle.std.proofs.lemmas.List.{drop-drop, get_or-take, length-map, length-take, map-append, take-map, take_all, take_more}
use Rattle.std.proofs.lemmas.List.Elements.{All-append, All-cons, All-nil}
use Rattle.std.proofs.lemmas.List.Sums.{sum_by-append, sum_by-cons}
use Rattle.std.proofs.lemmas.Option.{slice_get_within, get_or_from_slice_get}
use Rattle.page_decoding.proofs.RowLemmas.{take-split}

-- the first of those behind some
first-behind : {A : Type 0} (xs : List A) (i : ℕ) → slice_get (drop i xs) 0 ≡ slice_get xs i
first-behind xs zero = refl
first-behind [] (suc i) = refl
first-behind (x ∷ xs) (suc i) = first-behind xs i

past-end : {A : Type 0} (xs : List A) (i : ℕ) → slice_get xs i ≡ None → length xs ≤ i
past-end [] i e = omega arith
past-end (x ∷ xs) zero e = cc
past-end (x ∷ xs) (suc i) e = omega (arith, past-end xs i e)

-- the one that is found
pub found-there : {A : Type 0} (xs : List A) (i : ℕ) (now : Option (List A)) (found : Option A) (x : A) → now ≡ Some (drop i xs) → found ≡ slice_get (unwrap_or now []) 0 → found ≡ Some x → (i < length xs) × (get_or xs i x ≡ x)
found-there xs i now found x is e there =
    let own : slice_get xs i ≡ Some x = sym (first-behind xs i) ∙ sym (ap (λ o. slice_get (unwrap_or o []) 0) is) ∙ sym e ∙ there in
    (slice_get_within xs i x own, get_or_from_slice_get xs i x x own)

pub none-found : {A : Type 0} (xs : List A) (i : ℕ) (now : Option (List A)) (found : Option A) → now ≡ Some (drop i xs) → found ≡ slice_get (unwrap_or now []) 0 → found ≡ None → length xs ≤ i
none-found xs i now found is e none = past-end xs i (sym (first-behind xs i) ∙ sym (ap (λ o. slice_get (unwrap_or o []) 0) is) ∙ sym e ∙ none)

-- the next of those that were left
pub next-left : {A : Type 0} (xs : List A) (i : ℕ) (now next : Option (List A)) → now ≡ Some (drop i xs) → next ≡ Some (drop 1 (unwrap_or now [])) → next ≡ Some (drop (i + 1) xs)
next-left xs i now next is e = e ∙ ap (λ o. Some (drop 1 (unwrap_or o []))) is ∙ ap Some (drop-drop 1 i xs)

-- one string more
pub one-more : {A : Type 0} (f : A → List ℕ) (old now new : List (List ℕ)) (xs : List A) (i : ℕ) (x : A) (string : List ℕ) → now ≡ old ++ map f (take i xs) → i < length xs → get_or xs i x ≡ x → string ≡ f x → new ≡ now ++ string ∷ [] → new ≡ old ++ map f (take (i + 1) xs)
one-more f old now new xs i x string added within own is more =
    more ∙ ap (λ all. all ++ string ∷ []) added ∙ append_assoc old (map f (take i xs)) (string ∷ [])
    ∙ ap (λ all. old ++ all) (ap (λ one. map f (take i xs) ++ one ∷ []) (is ∙ ap f (sym own)) ∙ sym (map-append f (take i xs) (get_or xs i x ∷ [])) ∙ ap (map f) (sym (take_more xs i x within)))

-- where none is left, all that are wanted were appended
pub all-taken : {A : Type 0} (f : A → List ℕ) (xs : List A) (i count : ℕ) → length xs ≤ i → i ≤ count → map f (take i xs) ≡ map f (take count xs)
all-taken f xs i count ended below = ap (map f) (take_all i xs ended ∙ sym (take_all count xs (omega (arith, ended, below))))

empty-behind : {A : Type 0} (xs : List A) (n : ℕ) → length xs ≤ n → drop n xs ≡ []
empty-behind [] n le = drop-nil n
empty-behind (x ∷ xs) zero le = absurd (omega (arith, le))
empty-behind (x ∷ xs) (suc n) le = empty-behind xs n (omega (arith, le))

pub none-left : {A : Type 0} (xs : List A) (i count : ℕ) (now next : Option (List A)) → now ≡ Some (drop i xs) → next ≡ Some (drop 1 (unwrap_or now [])) → length xs ≤ i → i ≤ count → next ≡ Some (drop count xs)
none-left xs i count now next is e ended below =
    next-left xs i now next is e ∙ ap Some (empty-behind xs (i + 1) (omega (arith, ended)) ∙ sym (empty-behind xs count (omega (arith, ended, below))))

-- the bytes of fewer strings
pub sum-fewer : {A : Type 0} (f : A → ℕ) (xs : List A) (n m : ℕ) → n ≤ m → sum_by f (take n xs) ≤ sum_by f (take m xs)
sum-fewer f xs n m le = omega (arith, ap (sum_by f) (take-split n m xs le), sum_by-append f (take n xs) (take (m - n) (drop n xs)))

-- strings that are one too many
pub one-past : {A : Type 0} (f : A → List ℕ) (old now : List (List ℕ)) (xs : List A) (i count most : ℕ) (x : A) (string : List ℕ) → now ≡ old ++ map f (take i xs) → i < length xs → i < count → get_or xs i x ≡ x → string ≡ f x
    → most < sum_by length now + length string → most < sum_by length old + sum_by length (map f (take count xs))
one-past f old now xs i count most x string added within below own is past =
    let held = ap (sum_by length) added ∙ sum_by-append length old (map f (take i xs)) in
    let one : map f (take (i + 1) xs) ≡ map f (take i xs) ++ string ∷ [] =
    ap (map f) (take_more xs i x within) ∙ map-append f (take i xs) (get_or xs i x ∷ []) ∙ ap (λ y. map f (take i xs) ++ y ∷ []) (ap f own ∙ sym is) in
    let sum = ap (sum_by length) one ∙ sum_by-append length (map f (take i xs)) (string ∷ []) in
    let single = sum_by-cons length string [] in
    let fewer = sum-fewer length (map f xs) (i + 1) count (omega (arith, below)) in
    omega (arith, past, held, sum, single, fewer, ap (sum_by length) (take-map f (i + 1) xs), ap (sum_by length) (take-map f count xs))

-- ---- texts

-- one text more
pub text-more : {A : Type 0} (f : A → List ℕ) (xs : List A) (i : ℕ) (x : A) (string : List ℕ) → i < length xs → get_or xs i x ≡ x → string ≡ f x → All IsUtf8 (map f (take i xs)) → IsUtf8 string → All IsUtf8 (map f (take (i + 1) xs))
text-more f xs i x string within own is texts text =
    let P : List (List ℕ) → Type 0 = All IsUtf8 in
    let one : map f (take i xs) ++ string ∷ [] ≡ map f (take (i + 1) xs) =
    ap (λ y. map f (take i xs) ++ y ∷ []) (is ∙ ap f (sym own)) ∙ sym (map-append f (take i xs) (get_or xs i x ∷ [])) ∙ ap (map f) (sym (take_more xs i x within)) in
    subst P one (All-append IsUtf8 (map f (take i xs)) (string ∷ []) texts (All-cons IsUtf8 string [] text (All-nil IsUtf8)))

-- one that is wanted is no text
pub text-among : {A : Type 0} (f : A → List ℕ) (xs : List A) (i count : ℕ) (x : A) (string : List ℕ) → i < length xs → i < count → get_or xs i x ≡ x → string ≡ f x → All IsUtf8 (map f (take count xs)) → IsUtf8 string
text-among f xs i count x string within below own is texts =
    let inside : i < length (map f (take count xs)) = omega (arith, length-map (take count xs) f, length-take count xs) in
    let e : get_or (map f (take count xs)) i (f x) ≡ f x = get_or-map f (take count xs) i x ∙ ap f (get_or-take count xs i x below ∙ own) in
    subst IsUtf8 (e ∙ sym is) (texts i (f x) inside)

-- Two lists side by side.
use Rattle.std.proofs.Common.{◌≡◌, ℕ, zero, suc, ◌+◌, ◌<◌, Bool, true, List, [], ◌∷◌, ◌++◌, length, map, drop, get_or, refl, sym, ◌∙◌, ap, arith, drop-cons, append_assoc}
use Rattle.std.specs.Prelude.{Option, Some, None, IfSome, zip, ◌&&◌}
use Rattle.columns_core.specs.Causes.{Cause}
use Rattle.std.specs.List.{flat_map, list_all}
use Rattle.std.proofs.lemmas.Bool.{and_from, and_parts}

-- the pair at a place stands in front of those behind it
pub pair_at : {X Y : Type 0} (xs : List X) (ys : List Y) (i : ℕ) (x : X) (y : Y) → i < length xs → i < length ys
    → zip (drop i xs) (drop i ys) ≡ (get_or xs i x, get_or ys i y) ∷ zip (drop (i + 1) xs) (drop (i + 1) ys)
pair_at xs ys i x y h k =
    let one : suc i ≡ i + 1 = omega arith in
    (λ j. zip (drop-cons xs i x h j) (drop-cons ys i y k j)) ∙ ap (λ n. (get_or xs i x, get_or ys i y) ∷ zip (drop n xs) (drop n ys)) one

pub all_behind : {X Y : Type 0} (p : X × Y → Bool) (xs : List X) (ys : List Y) (i : ℕ) (x : X) (y : Y) → i < length xs → i < length ys → p (get_or xs i x, get_or ys i y) ≡ true
    → list_all p (zip (drop i xs) (drop i ys)) ≡ list_all p (zip (drop (i + 1) xs) (drop (i + 1) ys))
all_behind p xs ys i x y h k e = ap (list_all p) (pair_at xs ys i x y h k) ∙ ap (λ b. b && list_all p (zip (drop (i + 1) xs) (drop (i + 1) ys))) e

pub flat_behind : {X Y Z : Type 0} (f : X × Y → List Z) (xs : List X) (ys : List Y) (i : ℕ) (x : X) (y : Y) → i < length xs → i < length ys
    → flat_map f (zip (drop i xs) (drop i ys)) ≡ f (get_or xs i x, get_or ys i y) ++ flat_map f (zip (drop (i + 1) xs) (drop (i + 1) ys))
flat_behind f xs ys i x y h k = ap (flat_map f) (pair_at xs ys i x y h k)

pub map_behind : {X Y Z : Type 0} (f : X × Y → Z) (xs : List X) (ys : List Y) (i : ℕ) (x : X) (y : Y) → i < length xs → i < length ys
    → map f (zip (drop i xs) (drop i ys)) ≡ f (get_or xs i x, get_or ys i y) ∷ map f (zip (drop (i + 1) xs) (drop (i + 1) ys))
map_behind f xs ys i x y h k = ap (map f) (pair_at xs ys i x y h k)

pub none_beside : {X Y : Type 0} (p : X × Y → Bool) (xs : List X) → list_all p (zip xs []) ≡ true
none_beside p [] = refl
none_beside p (x ∷ xs) = refl

-- one more pair that passes, where the second list has come to a place
pub all_more : {X Y : Type 0} (p : X × Y → Bool) (xs : List X) (ys : List Y) (i : ℕ) (x : X) (y : Y) → list_all p (zip xs ys) ≡ true → length ys ≡ i → i < length xs → x ≡ get_or xs i x → p (x, y) ≡ true
    → list_all p (zip xs (ys ++ y ∷ [])) ≡ true
all_more p [] ys i x y all count h e one = absurd (omega (arith, h))
all_more p (first ∷ xs) [] zero x y all count h e one = and_from _ _ (ap (λ z. p (z, y)) (sym e) ∙ one) (none_beside p xs)
all_more p (first ∷ xs) [] (suc i) x y all count h e one = absurd (omega (arith, count))
all_more p (first ∷ xs) (second ∷ ys) zero x y all count h e one = absurd (omega (arith, count))
all_more p (first ∷ xs) (second ∷ ys) (suc i) x y all count h e one =
    let parts = and_parts _ _ all in and_from _ _ parts.0 (all_more p xs ys i x y parts.1 (omega (arith, count)) (omega (arith, h)) e one)

pub pair_passes : {X Y : Type 0} (p : X × Y → Bool) (xs : List X) (ys : List Y) (i : ℕ) (x : X) (y : Y) → list_all p (zip xs ys) ≡ true → i < length xs → i < length ys → p (get_or xs i x, get_or ys i y) ≡ true
pair_passes p [] ys i x y all h k = absurd (omega (arith, h))
pair_passes p (first ∷ xs) [] i x y all h k = absurd (omega (arith, k))
pair_passes p (first ∷ xs) (second ∷ ys) zero x y all h k = (and_parts _ _ all).0
pair_passes p (first ∷ xs) (second ∷ ys) (suc i) x y all h k = pair_passes p xs ys i x y (and_parts _ _ all).1 (omega (arith, h)) (omega (arith, k))

-- one more pair, where the source tells its bytes
pub none_pair : {X Y : Type 0} (told : Option (List ℕ)) (f : List ℕ → X × Y → List Cause) (xs : List X) (ys : List Y) (i : ℕ) (x : X) (y d : Y) → i < length xs → i < length ys → x ≡ get_or xs i x → y ≡ get_or ys i d
    → IfSome told (λ bytes. flat_map (f bytes) (zip xs ys) ≡ flat_map (f bytes) (zip (drop i xs) (drop i ys))) → IfSome told (λ bytes. f bytes (x, y) ≡ [])
    → IfSome told (λ bytes. flat_map (f bytes) (zip xs ys) ≡ flat_map (f bytes) (zip (drop (i + 1) xs) (drop (i + 1) ys)))
none_pair None f xs ys i x y d h k at beside e own = tt
none_pair (Some bytes) f xs ys i x y d h k at beside e own =
    e ∙ flat_behind (f bytes) xs ys i x d h k
    ∙ ap (λ first. first ++ flat_map (f bytes) (zip (drop (i + 1) xs) (drop (i + 1) ys))) ((λ j. f bytes (sym at j, sym beside j)) ∙ own)

pub map_pair : {X Y Z : Type 0} (told : Option (List ℕ)) (f : List ℕ → X × Y → Z) (xs : List X) (ys : List Y) (i : ℕ) (x : X) (y d : Y) (made : List Z) (z : Z) → i < length xs → i < length ys → x ≡ get_or xs i x → y ≡ get_or ys i d
    → IfSome told (λ bytes. map (f bytes) (zip xs ys) ≡ made ++ map (f bytes) (zip (drop i xs) (drop i ys))) → IfSome told (λ bytes. z ≡ f bytes (x, y))
    → IfSome told (λ bytes. map (f bytes) (zip xs ys) ≡ (made ++ z ∷ []) ++ map (f bytes) (zip (drop (i + 1) xs) (drop (i + 1) ys)))
map_pair None f xs ys i x y d made z h k at beside e own = tt
map_pair (Some bytes) f xs ys i x y d made z h k at beside e own =
    let rest = map (f bytes) (zip (drop (i + 1) xs) (drop (i + 1) ys)) in
    e ∙ ap (λ left. made ++ left) (map_behind (f bytes) xs ys i x d h k)
    ∙ ap (λ first. made ++ first ∷ rest) ((λ j. f bytes (sym at j, sym beside j)) ∙ sym own)
    ∙ sym (append_assoc made (z ∷ []) rest)

-- what the pairs so far gave stands in front of what those behind them give
pub flat_pair : {X Y Z : Type 0} (told : Option (List ℕ)) (f : List ℕ → X × Y → List Z) (xs : List X) (ys : List Y) (i : ℕ) (x : X) (y : Y) (before so_far now : List Z) → i < length xs → i < length ys → x ≡ get_or xs i x → y ≡ get_or ys i y
    → IfSome told (λ bytes. before ++ flat_map (f bytes) (zip xs ys) ≡ so_far ++ flat_map (f bytes) (zip (drop i xs) (drop i ys))) → IfSome told (λ bytes. now ≡ so_far ++ f bytes (x, y))
    → IfSome told (λ bytes. before ++ flat_map (f bytes) (zip xs ys) ≡ now ++ flat_map (f bytes) (zip (drop (i + 1) xs) (drop (i + 1) ys)))
flat_pair None f xs ys i x y before so_far now h k at beside e own = tt
flat_pair (Some bytes) f xs ys i x y before so_far now h k at beside e own =
    let rest = flat_map (f bytes) (zip (drop (i + 1) xs) (drop (i + 1) ys)) in
    e ∙ ap (λ left. so_far ++ left) (flat_behind (f bytes) xs ys i x y h k ∙ (λ j. f bytes (sym at j, sym beside j) ++ rest))
    ∙ sym (append_assoc so_far (f bytes (x, y)) rest) ∙ ap (λ front. front ++ rest) (sym own)

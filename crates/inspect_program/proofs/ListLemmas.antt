-- Items with their numbers, and items of two lists side by side.
use Rattle.std.proofs.Common.{◌≡◌, ℕ, zero, suc, ◌+◌, ◌<◌, List, [], ◌∷◌, ◌∙◌, ap, arith, get_or, length, sym}
use Rattle.std.specs.Prelude.{zip}
use Rattle.std.specs.List.{enumerate_from}
use Rattle.std.proofs.lemmas.Slice.Zip.{get_or-zip}

numbered_from : {X : Type 0} (n : ℕ) (xs : List X) (i : ℕ) (d : X) → i < length xs → get_or (enumerate_from n xs) i (n + i, d) ≡ (n + i, get_or xs i d)
numbered_from n [] i d within = absurd (omega arith)
numbered_from n (x ∷ xs) zero d within = ap (λ n. (n, x)) (omega arith)
numbered_from n (x ∷ xs) (suc i) d within =
    let shift : n + suc i ≡ (n + 1) + i = omega arith in
    ap (λ m. get_or (enumerate_from (n + 1) xs) i (m, d)) shift ∙ numbered_from (n + 1) xs i d (omega arith) ∙ ap (λ m. (m, get_or xs i d)) (sym shift)

-- the number of an item is its place
pub numbered : {X : Type 0} (xs : List X) (i : ℕ) (x : X) → i < length xs → x ≡ get_or xs i x → (i, x) ≡ get_or (enumerate_from 0 xs) i (i, x)
numbered xs i x within at =
    let start : 0 + i ≡ i = omega arith in
    ap (λ x. (i, x)) at ∙ sym (ap (λ m. get_or (enumerate_from 0 xs) i (m, x)) (sym start) ∙ numbered_from 0 xs i x within ∙ ap (λ m. (m, get_or xs i x)) start)

-- the items at one place stand side by side
pub side_by_side : {X Y : Type 0} (xs : List X) (ys : List Y) (i : ℕ) (x : X) (y : Y) → i < length xs → i < length ys → x ≡ get_or xs i x → y ≡ get_or ys i y → (x, y) ≡ get_or (zip xs ys) i (x, y)
side_by_side xs ys i x y first second at beside =
    (λ j. (at j, beside j)) ∙ sym (get_or-zip xs ys i (x, y) first second)

-- The end of the bytes from a place on.
use Rattle.std.proofs.Common.{◌≡◌, ℕ, ◌+◌, ◌-◌, ◌≤◌, List, ◌∷◌, refl, sym, ap, ◌∙◌, arith, length, drop}
use Rattle.std.proofs.lemmas.List.{drop-drop, length-drop}
use Rattle.parquet_base.specs.Reading.{IsEnd}

pub IsEnd_all : (xs : List ℕ) → IsEnd xs xs
IsEnd_all xs =
    let none : length xs - length xs ≡ 0 = omega arith in
    record { within = omega arith; ends = rw none refl }

pub IsEnd_drop : (n : ℕ) (xs : List ℕ) → n ≤ length xs → IsEnd xs (drop n xs)
IsEnd_drop n xs le =
    let k : length xs - length (drop n xs) ≡ n = omega (arith, length-drop n xs) in
    record { within = omega (arith, length-drop n xs); ends = rw k refl }

pub IsEnd_through : (xs ys zs : List ℕ) → IsEnd xs ys → IsEnd ys zs → IsEnd xs zs
IsEnd_through xs ys zs p q =
    let k : length xs - length ys + (length ys - length zs) ≡ length xs - length zs = omega (arith, p.within, q.within) in
    record {
      within = omega (arith, p.within, q.within);
      ends = ap (λ (n : ℕ). drop n xs) (sym k)
          ∙ sym (drop-drop (length ys - length zs) (length xs - length ys) xs)
          ∙ ap (λ (s : List ℕ). drop (length ys - length zs) s) p.ends ∙ q.ends;
    }

pub IsEnd_cons : (x : ℕ) (xs : List ℕ) → IsEnd (x ∷ xs) xs
IsEnd_cons x xs =
    let k : length (x ∷ xs) - length xs ≡ 1 = omega arith in
    record { within = omega arith; ends = rw k refl }

-- behind the first byte of an end
pub IsEnd_behind : (xs ys : List ℕ) (z : ℕ) (zs : List ℕ) → IsEnd xs ys → ys ≡ z ∷ zs → IsEnd xs zs
IsEnd_behind xs ys z zs p e = IsEnd_through xs ys zs p (rw e (IsEnd_cons z zs))

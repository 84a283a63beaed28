-- Rows from a first one on, in two parts.
use Rattle.std.proofs.Common.{◌≡◌, ℕ, zero, suc, ◌+◌, ◌∷◌, ◌++◌, ◌∙◌, ap, arith}
use Rattle.std.specs.List.{range_with_len}

pub range-split : (from n m : ℕ) → range_with_len from (n + m) ≡ range_with_len from n ++ range_with_len (from + n) m
range-split from zero m =
    let none : zero + m ≡ m = omega arith in
    let here : from ≡ from + zero = omega arith in
    ap (range_with_len from) none ∙ ap (λ at. range_with_len at m) here
range-split from (suc n) m =
    let more : suc n + m ≡ suc (n + m) = omega arith in
    let there : from + 1 + n ≡ from + suc n = omega arith in
    ap (range_with_len from) more ∙ ap (λ rest. from ∷ rest) (range-split (from + 1) n m ∙ ap (λ at. range_with_len (from + 1) n ++ range_with_len at m) there)

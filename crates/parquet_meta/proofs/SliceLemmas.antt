-- Slices of parts of a list.
use Rattle.std.proofs.Common.{◌≡◌, ◌∙◌, ℕ, ◌+◌, ◌-◌, ◌≤◌, List, take, drop, ap, arith}
use Rattle.std.specs.Prelude.{slice_range}
use Rattle.std.proofs.lemmas.List.{drop-take, take-take, drop-drop}

pub slice_at : (bytes : List ℕ) (offset size k l : ℕ) → k + l ≤ size → slice_range (take size (drop offset bytes)) k (k + l) ≡ take l (drop (offset + k) bytes)
slice_at bytes offset size k l h =
    let long : k + l - k ≡ l = omega arith in
    let split : size ≡ k + (size - k) = omega (arith, h) in
    ap (λ n. take n (drop k (take size (drop offset bytes)))) long
    ∙ ap (λ n. take l (drop k (take n (drop offset bytes)))) split
    ∙ ap (take l) (drop-take k (size - k) (drop offset bytes))
    ∙ take-take l (size - k) (drop k (drop offset bytes)) (omega (arith, h))
    ∙ ap (take l) (drop-drop k offset bytes)

-- Parts of texts.
use Rattle.std.proofs.Common.{◌≡◌, ◌≢◌, ℕ, ◌-◌, Bool, true, false, List, [], ◌∷◌, ◌++◌, length, take, drop, refl, sym, ◌∙◌, ap, arith, length-append}
use Rattle.std.specs.Prelude.{Option, Some, None, if◌then◌else◌, MatchOption}
use Rattle.std.specs.Option.{option_copied}
use Rattle.std.specs.Str.{bytes_eq}
use Rattle.std.proofs.Math.Seq.{drop-append_seam, take-append_seam}
use Rattle.std.proofs.lemmas.List.{take-append-drop}
use Rattle.std.proofs.lemmas.Slice.Eq.{bytes_eq-Decides}
use denote.Ref.{Bor}
use Rattle.pq_common.specs.Spelled.{without_end}

bytes_same : (bs : List ℕ) → bytes_eq bs bs ≡ true
bytes_same bs = let decides = bytes_eq-Decides bs bs in decides.1 refl

at_end : (end : ℕ) (bs : List ℕ) → without_end (end ∷ []) (bs ++ end ∷ []) ≡ Some bs
at_end end bs =
    let front : length (bs ++ end ∷ []) - 1 ≡ length bs = omega (arith, length-append bs (end ∷ [])) in
    ap (λ n. if bytes_eq (drop n (bs ++ end ∷ [])) (end ∷ []) then Some (take n (bs ++ end ∷ [])) else None) front
    ∙ ap (λ rest. if bytes_eq rest (end ∷ []) then Some (take (length bs) (bs ++ end ∷ [])) else None) (drop-append_seam bs (end ∷ []))
    ∙ ap (λ b. if b then Some (take (length bs) (bs ++ end ∷ [])) else None) (bytes_same (end ∷ []))
    ∙ ap Some (take-append_seam bs (end ∷ []))

-- A text without its last byte, if that is this one, is what `strip_suffix` gives.
pub without_last : (end : ℕ) (bs : List ℕ) (r : Option (Bor (List ℕ)))
    → MatchOption r ((front : List ℕ) → bs ≢ front ++ (end ∷ [])) (λ x. bs ≡ x.now ++ (end ∷ []))
    → option_copied r ≡ without_end (end ∷ []) bs
without_last end bs None h = by_test (bytes_eq (drop (length bs - 1) bs) (end ∷ [])) refl where
  by_test : (b : Bool) → bytes_eq (drop (length bs - 1) bs) (end ∷ []) ≡ b → None ≡ (if b then Some (take (length bs - 1) bs) else None)
  by_test true e =
      let decides = bytes_eq-Decides (drop (length bs - 1) bs) (end ∷ []) in
      absurd (h (take (length bs - 1) bs) (sym (take-append-drop (length bs - 1) bs) ∙ ap (λ rest. take (length bs - 1) bs ++ rest) (decides.0 e)))
  by_test false e = refl
without_last end bs (Some x) e = sym (ap (without_end (end ∷ [])) e ∙ at_end end x.now)

-- Strings that are appended together, by their lengths.
use Rattle.std.proofs.Common.{◌≡◌, ℕ, ℤ, ◌+◌, List, [], ◌∷◌, ◌++◌, length, take, drop, map, refl, sym, ap, ap₂, ◌∙◌, arith, append_assoc, append-nil}
use Rattle.std.specs.Prelude.{nat_abs, sum_by}
use Rattle.std.specs.List.{flat_map}
use Rattle.std.proofs.lemmas.List.{length-append, length-drop, length-take-le, take-append-drop, take_at}
use Rattle.std.proofs.lemmas.List.Sums.{sum_by-cons}
use Rattle.std.proofs.Math.Seq.{drop-append_seam}
use Rattle.columns_core.specs.Offsets.{AreOffsets, ends_behind, last, parts}
use Rattle.columns_core.proofs.OffsetLemmas.{last-pushed, more_offsets}
use Rattle.binary_values.specs.JoinedStrings.{cut_into}
use Rattle.columns_core.proofs.PartLemmas.{parts-push}

pub parts-joined : (lengths : List ℤ) (offsets bytes joined : List ℕ) → AreOffsets offsets → last offsets ≡ length bytes → sum_by nat_abs lengths ≡ length joined
    → parts (offsets ++ ends_behind (last offsets) (map nat_abs lengths)) (bytes ++ joined) ≡ parts offsets bytes ++ cut_into (map nat_abs lengths) joined
parts-joined [] offsets bytes [] shape at sum = ap₂ parts (append-nil offsets) (append-nil bytes) ∙ sym (append-nil (parts offsets bytes))
parts-joined [] offsets bytes (byte ∷ joined) shape at sum = absurd (omega (arith, sum))
parts-joined (number ∷ lengths) offsets bytes joined shape at sum =
    let long = nat_abs number in
    let value = take long joined in
    let rest = drop long joined in
    let end = last offsets + long in
    let cons = sum_by-cons nat_abs number lengths in
    let size : length value ≡ long = length-take-le long joined (omega (arith, sum, cons)) in
    let more = offsets ++ end ∷ [] in
    let ends : last more ≡ end = last-pushed offsets end in
    let at_end : last more ≡ length (bytes ++ value) = omega (arith, ends, at, size, length-append bytes value) in
    let left : sum_by nat_abs lengths ≡ length rest = omega (arith, sum, cons, length-drop long joined) in
    let tail = parts-joined lengths more (bytes ++ value) rest (more_offsets offsets end shape (omega arith)) at_end left in
    let one : parts more (bytes ++ value) ≡ parts offsets bytes ++ value ∷ [] = ap (λ n. parts (offsets ++ (last offsets + n) ∷ []) (bytes ++ value)) (sym size) ∙ parts-push offsets bytes value shape at in
    ap₂ parts (sym (append_assoc offsets (end ∷ []) (ends_behind end (map nat_abs lengths))) ∙ ap (λ e. more ++ ends_behind e (map nat_abs lengths)) (sym ends))
    (ap (λ own. bytes ++ own) (sym (take-append-drop long joined)) ∙ sym (append_assoc bytes value rest))
    ∙ tail ∙ ap (λ own. own ++ cut_into (map nat_abs lengths) rest) one ∙ append_assoc (parts offsets bytes) (value ∷ []) (cut_into (map nat_abs lengths) rest)

module _ {A : Type 0} (f : A → List ℕ) where
  pub cut-strings : (items : List A) → cut_into (map (λ item. length (f item)) items) (flat_map f items) ≡ map f items
  cut-strings [] = refl
  cut-strings (item ∷ items) =
      ap₂ (λ string strings. string ∷ strings) (take_at (f item) (flat_map f items) (length (f item)) refl)
      (ap (cut_into (map (λ item. length (f item)) items)) (drop-append_seam (f item) (flat_map f items)) ∙ cut-strings items)

  pub joined-bytes : (items : List A) → length (flat_map f items) ≡ sum_by length (map f items)
  joined-bytes [] = refl
  joined-bytes (item ∷ items) = omega (arith, length-append (f item) (flat_map f items), sum_by-cons length (f item) (map f items), joined-bytes items)

-- Byte strings one behind another, with one more at the end.
use Rattle.std.proofs.Common.{◌≡◌, ℕ, suc, ◌+◌, ◌-◌, ◌<◌, ◌≤◌, List, [], ◌∷◌, ◌++◌, length, get_or, take, drop, sym, ap, ◌∙◌, arith}
use Rattle.std.specs.Prelude.{slice_get, slice_range, sum_by, Some}
use Rattle.std.proofs.lemmas.List.{length-drop, length-take-le, drop-append-le, take-append-le, take_all}
use Rattle.std.proofs.lemmas.List.Sums.{sum_by-cons}
use Rattle.std.proofs.Math.Seq.{drop-append_seam}
use Rattle.columns_core.specs.Offsets.{AreOffsets, last, parts}
use Rattle.columns_core.proofs.OffsetLemmas.{risen, some-offset}

range-more : (bytes more : List ℕ) (start end : ℕ) → start ≤ end → end ≤ length bytes → slice_range (bytes ++ more) start end ≡ slice_range bytes start end
range-more bytes more start end le within =
    ap (take (end - start)) (drop-append-le start bytes more (omega arith)) ∙ take-append-le (end - start) (drop start bytes) more (omega (arith, length-drop start bytes))

range-last : (bytes value : List ℕ) (start end : ℕ) → start ≡ length bytes → end ≡ length bytes + length value → slice_range (bytes ++ value) start end ≡ value
range-last bytes value start end at behind =
    let long : end - start ≡ length value = omega arith in
    ap (λ n. take n (drop start (bytes ++ value))) long ∙ ap (λ n. take (length value) (drop n (bytes ++ value))) at ∙ ap (take (length value)) (drop-append_seam bytes value) ∙ take_all (length value) value (omega arith)

-- places that do not fall, up to the end of the bytes
abbrev Rise : List ℕ → ℕ → Type 0
Rise [] end = Unit {0}
Rise (place ∷ []) end = place ≡ end
Rise (place ∷ next ∷ places) end = (place ≤ next) × (next ≤ end) × Rise (next ∷ places) end

parts-pushed : (offsets bytes value : List ℕ) (end : ℕ) → 0 < length offsets → Rise offsets (length bytes) → end ≡ length bytes + length value → parts (offsets ++ end ∷ []) (bytes ++ value) ≡ parts offsets bytes ++ value ∷ []
parts-pushed [] bytes value end some rise is = absurd (omega arith)
parts-pushed (start ∷ []) bytes value end some rise is = ap (λ own. own ∷ []) (range-last bytes value start end rise is)
parts-pushed (start ∷ next ∷ offsets) bytes value end some rise is = λ i. range-more bytes value start next rise.0 rise.1 i ∷ parts-pushed (next ∷ offsets) bytes value end (omega arith) rise.2 is i

last-more : (place next : ℕ) (offsets : List ℕ) → last (place ∷ next ∷ offsets) ≡ last (next ∷ offsets)
last-more place next offsets =
    let a : suc (length offsets) - 1 ≡ length offsets = omega arith in
    let b : suc (suc (length offsets)) - 1 ≡ suc (length offsets) = omega arith in
    ap (λ n. get_or (place ∷ next ∷ offsets) n 0) b ∙ sym (ap (λ n. get_or (next ∷ offsets) n 0) a)

rise-from : (offsets : List ℕ) (end : ℕ) → ((i : ℕ) → suc i < length offsets → get_or offsets i 0 ≤ get_or offsets (suc i) 0) → ((i : ℕ) → i < length offsets → get_or offsets i 0 ≤ end) → last offsets ≡ end → Rise offsets end
rise-from [] end rise below at = tt
rise-from (place ∷ []) end rise below at = at
rise-from (place ∷ next ∷ offsets) end rise below at = (rise 0 (omega arith), below 1 (omega arith), rise-from (next ∷ offsets) end (λ i h. rise (suc i) (omega (arith, h))) (λ i h. below (suc i) (omega (arith, h))) (sym (last-more place next offsets) ∙ at))

pub below-last : (offsets : List ℕ) (i : ℕ) → AreOffsets offsets → i < length offsets → get_or offsets i 0 ≤ last offsets
below-last offsets i shape h =
    let there : i + (length offsets - 1 - i) ≡ length offsets - 1 = omega arith in
    omega (arith, risen offsets i (length offsets - 1 - i) shape (omega arith), ap (λ k. get_or offsets k 0) there)

rises : (offsets : List ℕ) (end : ℕ) → AreOffsets offsets → last offsets ≡ end → Rise offsets end
rises offsets end shape at = rise-from offsets end shape.rise (λ i h. omega (arith, below-last offsets i shape h, at)) at

-- one string more
pub parts-push : (offsets bytes value : List ℕ) → AreOffsets offsets → last offsets ≡ length bytes → parts (offsets ++ (last offsets + length value) ∷ []) (bytes ++ value) ≡ parts offsets bytes ++ value ∷ []
parts-push offsets bytes value shape at = parts-pushed offsets bytes value (last offsets + length value) (some-offset offsets shape) (rises offsets (length bytes) shape at) (ap (λ n. n + length value) at)

length-range : (bytes : List ℕ) (start end : ℕ) → start ≤ end → end ≤ length bytes → length (slice_range bytes start end) ≡ end - start
length-range bytes start end le within = length-take-le (end - start) (drop start bytes) (omega (arith, length-drop start bytes))

sum-rise : (first : ℕ) (offsets bytes : List ℕ) → Rise (first ∷ offsets) (length bytes) → sum_by length (parts (first ∷ offsets) bytes) + first ≡ length bytes
sum-rise first [] bytes rise = omega (arith, rise)
sum-rise first (next ∷ offsets) bytes rise =
    omega (arith, sum_by-cons length (slice_range bytes first next) (parts (next ∷ offsets) bytes), rise.0, length-range bytes first next rise.0 rise.1, sum-rise next offsets bytes rise.2)

-- all bytes are those of the strings
pub sum-parts : (offsets bytes : List ℕ) → AreOffsets offsets → last offsets ≡ length bytes → sum_by length (parts offsets bytes) ≡ length bytes
sum-parts [] bytes shape at = absurd (omega (arith, some-offset [] shape))
sum-parts (first ∷ offsets) bytes shape at =
    let none : first ≡ 0 = zero-first shape.begins in
    omega (arith, sum-rise first offsets bytes (rises (first ∷ offsets) (length bytes) shape at), none) where
      zero-first : slice_get (first ∷ offsets) 0 ≡ Some 0 → first ≡ 0
      zero-first is = cc

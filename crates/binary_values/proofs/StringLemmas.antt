-- The byte strings behind some of those that stand one behind another.
use Rattle.std.proofs.Common.{◌≡◌, ℕ, zero, suc, ◌+◌, ◌-◌, ◌<◌, ◌≤◌, List, [], ◌∷◌, length, get_or, take, drop, map, refl, sym, ap, ◌∙◌, subst, arith}
use Rattle.std.specs.Prelude.{All, IsUtf8, slice_get, slice_range, Some}
use Rattle.std.specs.Str.{IsAscii}
use Rattle.std.proofs.lemmas.List.{length-drop, length-map, take_all}
use Rattle.std.proofs.lemmas.Grind.{common_steps}
use Rattle.std.proofs.lemmas.Str.{IsUtf8-from_ascii}
use Rattle.columns_core.specs.Offsets.{AreOffsets, last, parts}
use Rattle.columns_core.specs.Joined.{AreTexts, BeginAtCharacters}
use Rattle.columns_core.proofs.TextLemmas.{together, begin-apart, begin-in_ascii, cut}
use Rattle.columns_core.proofs.OffsetLemmas.{risen}
use Rattle.binary_values.specs.Rebased.{rebased}

get_or-drop : (from : ℕ) (xs : List ℕ) (k : ℕ) → get_or (drop from xs) k 0 ≡ get_or xs (from + k) 0
get_or-drop zero xs k = let e : 0 + k ≡ k = omega arith in ap (λ n. get_or xs n 0) (sym e)
get_or-drop (suc from) [] k = grind (arith, common_steps)
get_or-drop (suc from) (x ∷ xs) k = let e : suc from + k ≡ suc (from + k) = omega arith in get_or-drop from xs k ∙ ap (λ n. get_or (x ∷ xs) n 0) (sym e)

get_or-less : (s : ℕ) (xs : List ℕ) (k : ℕ) → get_or (map (λ place. place - s) xs) k 0 ≡ get_or xs k 0 - s
get_or-less s [] k = omega arith
get_or-less s (x ∷ xs) zero = refl
get_or-less s (x ∷ xs) (suc k) = get_or-less s xs k

pub get-rebased : (from : ℕ) (offsets : List ℕ) (k : ℕ) → get_or (rebased from offsets) k 0 ≡ get_or offsets (from + k) 0 - get_or offsets from 0
get-rebased from offsets k = get_or-less (get_or offsets from 0) (drop from offsets) k ∙ ap (λ n. n - get_or offsets from 0) (get_or-drop from offsets k)

pub length-rebased : (from : ℕ) (offsets : List ℕ) → length (rebased from offsets) ≡ length offsets - from
length-rebased from offsets = let same : length (map (λ place. place - get_or offsets from 0) (drop from offsets)) ≡ length (drop from offsets) = simp length-map in same ∙ length-drop from offsets

begins-less : (s : ℕ) (xs : List ℕ) → 0 < length xs → get_or xs 0 0 ≡ s → slice_get (map (λ place. place - s) xs) 0 ≡ Some 0
begins-less s [] some is = absurd (omega arith)
begins-less s (x ∷ xs) some is = let none : x - s ≡ 0 = omega (arith, is) in ap Some none

pub rebased-AreOffsets : (from : ℕ) (offsets : List ℕ) → AreOffsets offsets → from < length offsets → AreOffsets (rebased from offsets)
rebased-AreOffsets from offsets shape within =
    let first : get_or (drop from offsets) 0 0 ≡ get_or offsets from 0 = get_or-drop from offsets 0 ∙ ap (λ n. get_or offsets n 0) (omega arith) in
    record {
      begins = begins-less (get_or offsets from 0) (drop from offsets) (omega (arith, within, length-drop from offsets)) first;
      rise = λ i h.
          let next : from + suc i ≡ suc (from + i) = omega arith in
          omega (arith, get-rebased from offsets i, get-rebased from offsets (suc i), ap (λ n. get_or offsets n 0) next, shape.rise (from + i) (omega (arith, h, length-rebased from offsets)));
    }

pub last-rebased : (from : ℕ) (offsets : List ℕ) → from < length offsets → last (rebased from offsets) ≡ last offsets - get_or offsets from 0
last-rebased from offsets within =
    let end : from + (length (rebased from offsets) - 1) ≡ length offsets - 1 = omega (arith, within, length-rebased from offsets) in
    get-rebased from offsets (length (rebased from offsets) - 1) ∙ ap (λ n. get_or offsets n 0 - get_or offsets from 0) end

drop-parts : (from : ℕ) (offsets bytes : List ℕ) → drop from (parts offsets bytes) ≡ parts (drop from offsets) bytes
drop-parts zero offsets bytes = refl
drop-parts (suc from) [] bytes = refl
drop-parts (suc from) (start ∷ []) bytes = ap (λ xs. parts xs bytes) (sym (drop-nil from)) where
  drop-nil : (n : ℕ) → drop {A = ℕ} n [] ≡ []
  drop-nil zero = refl
  drop-nil (suc n) = refl
drop-parts (suc from) (start ∷ end ∷ offsets) bytes = drop-parts from (end ∷ offsets) bytes

abbrev Ge : ℕ → List ℕ → Type 0
Ge s [] = Unit {0}
Ge s (place ∷ places) = (s ≤ place) × Ge s places

ge-from : (s : ℕ) (xs : List ℕ) → ((i : ℕ) → i < length xs → s ≤ get_or xs i 0) → Ge s xs
ge-from s [] below = tt
ge-from s (x ∷ xs) below = (below 0 (omega arith), ge-from s xs (λ i h. below (suc i) (omega (arith, h))))

drop-drop : (m n : ℕ) (xs : List ℕ) → drop m (drop n xs) ≡ drop (n + m) xs
drop-drop m zero xs = let e : 0 + m ≡ m = omega arith in ap (λ k. drop k xs) (sym e)
drop-drop m (suc n) [] = grind (arith, common_steps)
drop-drop m (suc n) (x ∷ xs) = let e : suc n + m ≡ suc (n + m) = omega arith in drop-drop m n xs ∙ ap (λ k. drop k (x ∷ xs)) (sym e)

range-less : (s : ℕ) (bytes : List ℕ) (a b : ℕ) → s ≤ a → s ≤ b → slice_range (drop s bytes) (a - s) (b - s) ≡ slice_range bytes a b
range-less s bytes a b la lb =
    let long : (b - s) - (a - s) ≡ b - a = omega arith in
    let at : s + (a - s) ≡ a = omega arith in
    ap (λ n. take n (drop (a - s) (drop s bytes))) long ∙ ap (take (b - a)) (drop-drop (a - s) s bytes ∙ ap (λ n. drop n bytes) at)

parts-less : (s : ℕ) (xs bytes : List ℕ) → Ge s xs → parts (map (λ place. place - s) xs) (drop s bytes) ≡ parts xs bytes
parts-less s [] bytes ge = refl
parts-less s (a ∷ []) bytes ge = refl
parts-less s (a ∷ b ∷ xs) bytes ge = λ i. range-less s bytes a b ge.0 ge.1.0 i ∷ parts-less s (b ∷ xs) bytes ge.1 i

-- the strings behind the first are those between the places behind them
pub parts-rebased : (from : ℕ) (offsets bytes : List ℕ) → AreOffsets offsets → from < length offsets → parts (rebased from offsets) (drop (get_or offsets from 0) bytes) ≡ drop from (parts offsets bytes)
parts-rebased from offsets bytes shape within =
    let s = get_or offsets from 0 in
    let ge = ge-from s (drop from offsets) (λ i h. omega (arith, risen offsets from i shape (omega (arith, h, length-drop from offsets)), get_or-drop from offsets i)) in
    parts-less s (drop from offsets) bytes ge ∙ sym (drop-parts from offsets bytes)

-- ---- texts behind some strings

module _ (offsets bytes : List ℕ) (from : ℕ) (shape : AreOffsets offsets) (at : last offsets ≡ length bytes) (inside : from < length offsets) where
  rest-last : last (rebased from offsets) ≡ length (drop (get_or offsets from 0) bytes)
  rest-last = last-rebased from offsets inside ∙ ap (λ n. n - get_or offsets from 0) at ∙ sym (length-drop (get_or offsets from 0) bytes)

  all-taken : take (last (rebased from offsets)) (drop (get_or offsets from 0) bytes) ≡ drop (get_or offsets from 0) bytes
  all-taken = take_all (last (rebased from offsets)) (drop (get_or offsets from 0) bytes) (omega (arith, rest-last))

  rest-texts : All IsUtf8 (drop from (parts offsets bytes)) → AreTexts (rebased from offsets) (drop (get_or offsets from 0) bytes)
  rest-texts texts = subst (λ (xs : List (List ℕ)). All IsUtf8 xs) (sym (parts-rebased from offsets bytes shape inside)) texts

  -- texts together are a text
  pub texts-together : All IsUtf8 (drop from (parts offsets bytes)) → IsUtf8 (drop (get_or offsets from 0) bytes)
  texts-together texts = subst IsUtf8 all-taken (together (rebased from offsets) (drop (get_or offsets from 0) bytes) (rebased-AreOffsets from offsets shape inside) (rest-texts texts))

  pub texts-apart : (text : List ℕ) → text ≡ drop (get_or offsets from 0) bytes → All IsUtf8 (drop from (parts offsets bytes)) → BeginAtCharacters (rebased from offsets) text
  texts-apart text is texts = begin-apart (rebased from offsets) (drop (get_or offsets from 0) bytes) text (is ∙ sym all-taken) (rebased-AreOffsets from offsets shape inside) (omega (arith, rest-last)) (rest-texts texts)

  pub texts-cut : (text : List ℕ) → text ≡ drop (get_or offsets from 0) bytes → IsUtf8 text → BeginAtCharacters (rebased from offsets) text → All IsUtf8 (drop from (parts offsets bytes))
  texts-cut text is utf8 begin =
      subst (λ (xs : List (List ℕ)). All IsUtf8 xs) (parts-rebased from offsets bytes shape inside)
      (cut (rebased from offsets) (drop (get_or offsets from 0) bytes) text (is ∙ sym all-taken) (rebased-AreOffsets from offsets shape inside) (omega (arith, rest-last)) utf8 begin)

  -- all their bytes are ASCII
  pub texts-ascii : IsAscii (drop (get_or offsets from 0) bytes) → All IsUtf8 (drop from (parts offsets bytes))
  texts-ascii ascii =
      let text = drop (get_or offsets from 0) bytes in
      texts-cut text refl (IsUtf8-from_ascii text ascii) (begin-in_ascii (rebased from offsets) text (rebased-AreOffsets from offsets shape inside) (sym rest-last) ascii)

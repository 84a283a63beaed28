-- Texts one behind another: they are UTF-8 where all of them together are and none begins inside a character.
use Rattle.std.proofs.Common.{◌≡◌, ◌⊎◌, inl, inr, ℕ, zero, suc, ◌+◌, ◌-◌, ◌<◌, ◌≤◌, Bool, true, false, List, [], ◌∷◌, length, get_or, take, drop, sym, subst, ap, ◌∙◌, arith}
use Rattle.std.specs.Prelude.{slice_get, slice_range, Option, Some, None, unwrap_or, if◌then◌else◌, IsUtf8}
use Rattle.std.specs.Str.{IsCharBoundary, IsAscii}
use Rattle.std.proofs.lemmas.List.{take-take, drop-take, length-take-le}
use Rattle.std.proofs.lemmas.Str.{IsUtf8-append, IsUtf8-nil, IsUtf8-between, IsCharBoundary-end, IsCharBoundary-from_take, IsCharBoundary-from_ascii}
use Rattle.std.proofs.Math.Seq.{take-add}
use Rattle.std.proofs.lemmas.Bool.{cases_lt}
use Rattle.columns_core.specs.Masks.{is_there}
use Rattle.columns_core.specs.Offsets.{AreOffsets, last, parts}
use Rattle.columns_core.specs.Joined.{joined_strings, FitTogether, AreTexts, AreTextItems, BeginAtCharacters}
use Rattle.columns_core.proofs.OffsetLemmas.{length-parts, get-parts, risen, some-offset}
use Rattle.columns_core.proofs.JoinedLemmas.{slice_get-or, the_same, length-strings, get-strings}

part-at : (offsets bytes : List ℕ) (k : ℕ) (d : List ℕ) → k < length offsets - 1 → get_or (parts offsets bytes) k d ≡ slice_range bytes (get_or offsets k 0) (get_or offsets (suc k) 0)
part-at offsets bytes k d h = the_same (slice_get-or (parts offsets bytes) k d (omega (arith, length-parts offsets bytes))) (get-parts offsets bytes k h)

below-last : (offsets : List ℕ) (i : ℕ) → AreOffsets offsets → i < length offsets → get_or offsets i 0 ≤ last offsets
below-last offsets i shape h =
    let there : i + (length offsets - 1 - i) ≡ length offsets - 1 = omega arith in
    omega (arith, risen offsets i (length offsets - 1 - i) shape (omega arith), ap (λ k. get_or offsets k 0) there)

begins-at_0 : (offsets : List ℕ) → AreOffsets offsets → get_or offsets 0 0 ≡ 0
begins-at_0 offsets shape = the_same (slice_get-or offsets 0 0 (some-offset offsets shape)) shape.begins

-- ---- texts joined

-- the bytes up to where one begins
prefix : (offsets bytes : List ℕ) (i : ℕ) → AreOffsets offsets → AreTexts offsets bytes → i < length offsets → IsUtf8 (take (get_or offsets i 0) bytes)
prefix offsets bytes zero shape texts h = subst (λ n. IsUtf8 (take n bytes)) (sym (begins-at_0 offsets shape)) IsUtf8-nil
prefix offsets bytes (suc i) shape texts h =
    let start = get_or offsets i 0 in
    let end = get_or offsets (suc i) 0 in
    let before = prefix offsets bytes i shape texts (omega arith) in
    let part : IsUtf8 (slice_range bytes start end) = subst IsUtf8 (part-at offsets bytes i [] (omega arith)) (texts i [] (omega (arith, length-parts offsets bytes))) in
    let whole : end ≡ start + (end - start) = omega (arith, shape.rise i h) in
    subst IsUtf8 (sym (ap (λ n. take n bytes) whole ∙ take-add start (end - start) bytes)) (IsUtf8-append (take start bytes) (take (end - start) (drop start bytes)) before part)

pub together : (offsets bytes : List ℕ) → AreOffsets offsets → AreTexts offsets bytes → IsUtf8 (take (last offsets) bytes)
together offsets bytes shape texts = prefix offsets bytes (length offsets - 1) shape texts (omega (arith, some-offset offsets shape))

pub begin-apart : (offsets bytes text : List ℕ) → text ≡ take (last offsets) bytes → AreOffsets offsets → last offsets ≤ length bytes → AreTexts offsets bytes → BeginAtCharacters offsets text
begin-apart offsets bytes text is shape within texts i h =
    let n = last offsets in
    let start = get_or offsets i 0 in
    let below = below-last offsets i shape (omega arith) in
    let long = length-take-le n bytes within in
    let front : IsUtf8 (take start (take n bytes)) = subst IsUtf8 (sym (take-take start n bytes below)) (prefix offsets bytes i shape texts (omega arith)) in
    subst (λ list. IsCharBoundary list start) (sym is) (IsCharBoundary-from_take (take n bytes) start (together offsets bytes shape texts) (omega (arith, long, below)) front)

-- ---- a text cut

boundary-at : (offsets text : List ℕ) (i : ℕ) → AreOffsets offsets → length text ≡ last offsets → BeginAtCharacters offsets text → i < length offsets → (i < length offsets - 1) ⊎ (length offsets - 1 ≤ i)
    → IsCharBoundary text (get_or offsets i 0)
boundary-at offsets text i shape long begin h (inl before) = begin i before
boundary-at offsets text i shape long begin h (inr at) =
    let here : i ≡ length offsets - 1 = omega arith in
    let end : length text ≡ get_or offsets i 0 = long ∙ ap (λ k. get_or offsets k 0) (sym here) in
    subst (IsCharBoundary text) end (IsCharBoundary-end text)

pub cut : (offsets bytes text : List ℕ) → text ≡ take (last offsets) bytes → AreOffsets offsets → last offsets ≤ length bytes → IsUtf8 text → BeginAtCharacters offsets text → AreTexts offsets bytes
cut offsets bytes text is shape within utf8 begin k d h =
    let n = last offsets in
    let start = get_or offsets k 0 in
    let end = get_or offsets (suc k) 0 in
    let inside : k < length offsets - 1 = omega (arith, h, length-parts offsets bytes) in
    let long : length text ≡ n = ap length is ∙ length-take-le n bytes within in
    let rises = shape.rise k (omega arith) in
    let below = below-last offsets (suc k) shape (omega arith) in
    let first = boundary-at offsets text k shape long begin (omega arith) (cases_lt k (length offsets - 1)) in
    let second = boundary-at offsets text (suc k) shape long begin (omega arith) (cases_lt (suc k) (length offsets - 1)) in
    let middle = IsUtf8-between text start end utf8 rises first second in
    let whole : n ≡ start + (n - start) = omega (arith, rises, below) in
    let same : take (end - start) (drop start text) ≡ slice_range bytes start end =
    ap (λ list. take (end - start) (drop start list)) (is ∙ ap (λ m. take m bytes) whole) ∙ ap (take (end - start)) (drop-take start (n - start) bytes) ∙ take-take (end - start) (n - start) (drop start bytes) (omega (arith, below)) in
    subst IsUtf8 (same ∙ sym (part-at offsets bytes k d inside)) middle

pub begin-in_ascii : (offsets text : List ℕ) → AreOffsets offsets → length text ≡ last offsets → IsAscii text → BeginAtCharacters offsets text
begin-in_ascii offsets text shape long ascii i h = IsCharBoundary-from_ascii text (get_or offsets i 0) ascii (omega (arith, long, below-last offsets i shape (omega arith)))

-- ---- those that a mask leaves

within-some : {T : Type 0} (xs : List T) (i : ℕ) (x : T) → slice_get xs i ≡ Some x → i < length xs
within-some [] i x is = absurd (grind (arith, is))
within-some (y ∷ xs) zero x is = omega arith
within-some (y ∷ xs) (suc i) x is = let rest = within-some xs i x is in omega (arith, rest)

text-there : (offsets bytes : List ℕ) (i : ℕ) (there : Bool) (text : List ℕ) → AreTexts offsets bytes → i < length offsets - 1
    → (if there then Some (slice_range bytes (get_or offsets i 0) (get_or offsets (suc i) 0)) else None) ≡ Some text → IsUtf8 text
text-there offsets bytes i true text texts h is =
    let same : get_or (parts offsets bytes) i [] ≡ text = part-at offsets bytes i [] h ∙ ap (λ o. unwrap_or o text) is in
    subst IsUtf8 same (texts i [] (omega (arith, length-parts offsets bytes)))
text-there offsets bytes i false text texts h is = absurd (grind (arith, is))

pub text-items : (offsets bytes : List ℕ) (mask : Option (List Bool)) → FitTogether offsets bytes mask → AreTexts offsets bytes → AreTextItems (joined_strings offsets bytes mask)
text-items offsets bytes mask fit texts i text is =
    let inside : i < length offsets - 1 = omega (arith, length-strings offsets bytes mask fit, within-some (joined_strings offsets bytes mask) i (Some text) is) in
    text-there offsets bytes i (is_there mask i) text texts inside (the_same (get-strings offsets bytes mask i fit inside) is)

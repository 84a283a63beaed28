-- Where a word is split.
use Rattle.std.proofs.Common.{◌≡◌, ℕ, zero, suc, ◌+◌, ◌<◌, ◌≤◌, subst, Bool, true, List, [], ◌∷◌, length, take, drop, get_or, refl, sym, ◌∙◌, ap, arith}
use Rattle.std.specs.Prelude.{Some, None, option_map, ◌==◌, if◌then◌else◌, slice_index}
use Rattle.std.specs.Option.{option_or}
use Rattle.scan_program.specs.Words.{BoundEnd, end_sign, split_bound, split_field}

-- ---- fields

-- the last colon stands at a place
pub colon_at : (text : List ℕ) (at : ℕ) → at < length text → (get_or text at 0 == 58) ≡ true → split_field (drop (at + 1) text) ≡ None → split_field text ≡ Some (take at text, drop (at + 1) text)
colon_at [] at h is none = absurd (omega arith)
colon_at (byte ∷ rest) zero h is none =
    ap (λ o. option_or (option_map (λ (found : List ℕ × List ℕ). (byte ∷ found.0, found.1)) o) (if byte == 58 then Some ([], rest) else None)) none
    ∙ ap (λ b. if b then Some ([], rest) else None) is
colon_at (byte ∷ rest) (suc at) h is none =
    let one : suc at + 1 ≡ suc (at + 1) = omega arith in
    ap (λ o. option_or (option_map (λ (found : List ℕ × List ℕ). (byte ∷ found.0, found.1)) o) (if byte == 58 then Some ([], rest) else None))
    (colon_at rest at (omega arith) is (sym (ap (λ n. split_field (drop n (byte ∷ rest))) one) ∙ none))
    ∙ ap (λ n. Some (byte ∷ take at rest, drop n (byte ∷ rest))) (sym one)

-- ---- ends of bounds

-- the first sign stands at a place
pub sign_at : (text : List ℕ) (at : ℕ) (low : Bool) → at < length text → ((k : ℕ) → k < at → end_sign (drop k text) ≡ None) → end_sign (drop at text) ≡ Some low
    → split_bound text ≡ Some (record { name = take at text; is_low = low; value = drop (at + 2) text })
sign_at [] at low h before sign = absurd (omega arith)
sign_at (byte ∷ rest) zero low h before sign =
    ap (λ o. option_or (option_map (λ low. record { name = []; is_low = low; value = drop 1 rest }) o) (option_map (λ (end : BoundEnd). record end { name = byte ∷ end.name }) (split_bound rest))) sign
sign_at (byte ∷ rest) (suc at) low h before sign =
    let two : suc at + 2 ≡ suc (at + 2) = omega arith in
    ap (λ o. option_or (option_map (λ low. record { name = []; is_low = low; value = drop 1 rest }) o) (option_map (λ (end : BoundEnd). record end { name = byte ∷ end.name }) (split_bound rest))) (before 0 (omega arith))
    ∙ ap (option_map (λ (end : BoundEnd). record end { name = byte ∷ end.name })) (sign_at rest at low (omega arith) (λ k less. before (suc k) (omega (arith, less))) sign)
    ∙ ap (λ n. Some (record { name = byte ∷ take at rest; is_low = low; value = drop n (byte ∷ rest) })) (sym two)

-- there is no sign
pub no_sign : (text : List ℕ) → ((k : ℕ) → k < length text → end_sign (drop k text) ≡ None) → split_bound text ≡ None
no_sign [] before = refl
no_sign (byte ∷ rest) before =
    ap (λ o. option_or (option_map (λ low. record { name = []; is_low = low; value = drop 1 rest }) o) (option_map (λ (end : BoundEnd). record end { name = byte ∷ end.name }) (split_bound rest))) (before 0 (omega arith))
    ∙ ap (option_map (λ (end : BoundEnd). record end { name = byte ∷ end.name })) (no_sign rest (λ k less. before (suc k) (omega (arith, less))))

-- the bytes of a sign, by what stands from its place on
pub sign_in : (text : List ℕ) (at : ℕ) → (2 ≤ length (drop at text)) × (slice_index (drop at text) 0 < 128) × (slice_index (drop at text) 1 < 128)
    → (at + 1 < length text) × (slice_index text at < 128) × (slice_index text (at + 1) < 128)
sign_in text zero h = ((omega (arith, h.0)), h.1, h.2)
sign_in [] (suc at) h = absurd (omega (arith, h.0))
sign_in (byte ∷ rest) (suc at) h =
    let inner = sign_in rest at h in
    let one : suc at + 1 ≡ suc (at + 1) = omega arith in
    (omega (arith, inner.0), inner.1, subst (λ n. slice_index (byte ∷ rest) n < 128) (sym one) inner.2)

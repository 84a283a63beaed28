-- Bytes that stand for themselves.
use Rattle.std.proofs.Common.{◌≡◌, ◌∙◌, ℕ, zero, suc, ◌+◌, ◌-◌, ◌≤◌, Bool, true, false, List, [], ◌∷◌, ◌++◌, ap, arith, codes, drop, length, length-append, refl, subst, sym, take}
use Rattle.std.specs.Prelude.{if◌then◌else◌}
use Rattle.std.specs.List.{flat_map}
use Rattle.std.proofs.lemmas.Grind.{flat_map-append}
use Rattle.std.proofs.lemmas.List.{drop-drop, take-append-drop}
use Rattle.pq_common.specs.CellText.{hexadecimal, is_escaped, quoted_byte}

abbrev written_as : ℕ → Bool → List ℕ
written_as byte escaped = if escaped then codes "\\x" ++ hexadecimal byte else byte ∷ []

some_byte : (byte : ℕ) (escaped : Bool) → 1 ≤ length (written_as byte escaped)
some_byte byte true = omega arith
some_byte byte false = omega arith

not_shorter : (bytes : List ℕ) → length bytes ≤ length (flat_map quoted_byte bytes)
not_shorter [] = omega arith
not_shorter (byte ∷ bytes) =
    omega (arith, some_byte byte (is_escaped byte), not_shorter bytes, length-append (quoted_byte byte) (flat_map quoted_byte bytes))

-- A byte that is escaped would make the text longer.
by_first : (byte : ℕ) (bytes : List ℕ) (escaped : Bool) → written_as byte escaped ++ flat_map quoted_byte bytes ≡ byte ∷ bytes → flat_map quoted_byte bytes ≡ bytes
by_first byte bytes true e = absurd (omega (arith, not_shorter bytes, ap length e))
by_first byte bytes false e = cc

-- where a text stands for itself, so do its last bytes
plain_behind : (n : ℕ) (bytes : List ℕ) → flat_map quoted_byte bytes ≡ bytes → flat_map quoted_byte (drop n bytes) ≡ drop n bytes
plain_behind zero bytes e = e
plain_behind (suc n) [] e = refl
plain_behind (suc n) (byte ∷ bytes) e = plain_behind n bytes (by_first byte bytes (is_escaped byte) e)

-- the first bytes and the last ones stand for themselves, which together are all
pub plain_ends : (n m : ℕ) (bytes : List ℕ) → m ≤ length bytes → length bytes ≤ n + m
    → flat_map quoted_byte (take n bytes) ≡ take n bytes
    → flat_map quoted_byte (drop (length bytes - m) bytes) ≡ drop (length bytes - m) bytes → flat_map quoted_byte bytes ≡ bytes
plain_ends n m bytes some most first last =
    let behind = n + m - length bytes in
    let place : length bytes - m + behind ≡ n = omega (arith, some, most) in
    let rest : drop behind (drop (length bytes - m) bytes) ≡ drop n bytes =
    drop-drop behind (length bytes - m) bytes ∙ ap (λ k. drop k bytes) place in
    let others = subst (λ (xs : List ℕ). flat_map quoted_byte xs ≡ xs) rest (plain_behind behind (drop (length bytes - m) bytes) last) in
    ap (flat_map quoted_byte) (sym (take-append-drop n bytes)) ∙ flat_map-append quoted_byte (take n bytes) (drop n bytes)
    ∙ (λ i. first i ++ others i) ∙ take-append-drop n bytes

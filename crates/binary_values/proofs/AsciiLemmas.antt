-- Bytes that are ASCII.
use Rattle.std.proofs.Common.{◌≡◌, ◌∙◌, ℕ, zero, suc, ◌+◌, ◌-◌, ◌<◌, ◌≤◌, List, [], ◌∷◌, ◌++◌, length, drop, get_or, arith, bit_or, subst, ap}
use Rattle.std.specs.Str.{IsAscii}
use Rattle.std.proofs.lemmas.List.{drop-drop, drop_all}
use Rattle.std.proofs.lemmas.Str.{IsAscii-append, IsAscii-drop}
use lib.Bits.{and_le_l, and_le_r, or_add_and}
use lib.Lanes.{zip2}

-- No bit of two bytes is lost where they are seen together.
pub ascii-both : (xs ys : List ℕ) → length xs ≡ length ys → IsAscii (zip2 bit_or xs ys) → IsAscii xs × IsAscii ys
ascii-both [] [] same ascii = (ascii, ascii)
ascii-both [] (y ∷ ys) same ascii = absurd (omega (arith, same))
ascii-both (x ∷ xs) [] same ascii = absurd (omega (arith, same))
ascii-both (x ∷ xs) (y ∷ ys) same ascii =
    let first : bit_or x y < 128 = ascii 0 in
    let rest = ascii-both xs ys (omega (arith, same)) (λ k. ascii (suc k)) in
    let left : x < 128 = omega (arith, first, or_add_and x y, and_le_r x y) in
    let right : y < 128 = omega (arith, first, or_add_and x y, and_le_l x y) in (
      elim [ zero ↦ left | suc i ↦ rest.0 i ],
      elim [ zero ↦ right | suc i ↦ rest.1 i ],
    )

-- so are those further on
pub ascii-further : (bytes : List ℕ) (from start : ℕ) → from ≤ start → IsAscii (drop from bytes) → IsAscii (drop start bytes)
ascii-further bytes from start le ascii =
    let there : from + (start - from) ≡ start = omega arith in
    subst IsAscii (drop-drop (start - from) from bytes ∙ ap (λ n. drop n bytes) there) (IsAscii-drop (drop from bytes) (start - from) ascii)

-- and so are all bytes where others are appended
pub ascii-more : (from : ℕ) (bytes more : List ℕ) → IsAscii (drop from bytes) → IsAscii more → IsAscii (drop from (bytes ++ more))
ascii-more zero bytes more ascii others = IsAscii-append bytes more ascii others
ascii-more (suc from) [] more ascii others = IsAscii-drop more (suc from) others
ascii-more (suc from) (byte ∷ bytes) more ascii others = ascii-more from bytes more ascii others

-- none is left behind the last
pub none-behind : (bytes : List ℕ) (end : ℕ) → length bytes ≤ end → IsAscii (drop end bytes)
none-behind bytes end past i = omega (arith, ap (λ (xs : List ℕ). get_or xs i 0) (drop_all end bytes past))

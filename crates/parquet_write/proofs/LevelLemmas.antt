-- Levels, eight a byte.
use Rattle.std.proofs.Common.{◌≡◌, ℕ, suc, ◌+◌, ◌-◌, ◌*◌, ◌^◌, ◌<◌, ◌≤◌, ◌⊎◌, inl, inr, min, Bool, List, [], ◌∷◌, ◌++◌, refl, sym, ap, ◌∙◌, arith, length, drop, append_assoc, append-nil}
use Rattle.std.specs.List.{slice_range}
use Rattle.std.specs.Ordering.{nat_cmp, ord_min}
use Rattle.std.proofs.lemmas.Bool.{cases_lt}
use Rattle.std.proofs.lemmas.Bool.Decides.{nat_tests}
use Rattle.std.proofs.lemmas.List.{drop_all}
use Rattle.std.proofs.lemmas.List.Folds.{drop_split}
use Rattle.std.proofs.Math.Nat.{pow-suc}
use Rattle.parquet_plain.specs.Bodies.{number_bytes, bit, number_of_bits, bits_bytes}
use Rattle.parquet_plain.proofs.BitLemmas.{bit_small, bits_split}
use Rattle.parquet_plain.proofs.RowLemmas.{length-rows, rows-none}

pub lesser-is : (a b : ℕ) → ord_min nat_cmp a b ≡ min a b
lesser-is a b = grind (arith, nat_tests)

-- ---- a byte

-- the levels from a row up to another, as a number
pub record IsByte (levels : List Bool) (to byte row : ℕ) : Type 0 where
  pub within : row ≤ to
  pub same : byte ≡ number_of_bits (slice_range levels row to)
  pub small : byte < 2 ^ (to - row)

pub byte_begins : (levels : List Bool) (to : ℕ) → IsByte levels to 0 to
unfolding number_of_bits
byte_begins levels to =
    let none : 0 ≡ to - to = omega arith in
    record { within = omega arith; same = ap number_of_bits (sym (rows-none to levels)); small = rw (← none) (omega arith) }

pub byte_goes_on : (levels : List Bool) (to byte row now level : ℕ) (there : Bool) → row ≡ suc now → slice_range levels now to ≡ there ∷ slice_range levels row to → level ≡ bit there →
    IsByte levels to byte row → IsByte levels to (2 * byte + level) now
unfolding number_of_bits
byte_goes_on levels to byte row now level there e first own is =
    let more : to - now ≡ suc (to - row) = omega (arith, is.within) in
    let low = bit_small there in
    let power = pow-suc 2 (to - row) in
    record {
      within = omega (arith, is.within);
      same = omega (arith, own, ap number_of_bits first, is.same);
      small = rw (more, power) (omega (arith, is.small, own, low));
    }

-- ---- all levels

-- what is written, and the levels that are left, are the whole
pub record IsPacking (levels : List Bool) (start out : List ℕ) (row : ℕ) : Type 0 where
  pub within : row ≤ length levels
  pub same : out ++ bits_bytes (drop row levels) ≡ start ++ bits_bytes levels

pub packing_begins : (levels : List Bool) (start : List ℕ) → IsPacking levels start start 0
packing_begins levels start = record { within = omega arith; same = refl }

pub packing_goes_on : (levels : List Bool) (start out : List ℕ) (row to byte : ℕ) (next : List ℕ) → row < length levels → to ≡ row + min 8 (length levels - row) →
    byte ≡ number_of_bits (slice_range levels row to) → next ≡ out ++ byte ∷ [] → IsPacking levels start out row → IsPacking levels start next to
packing_goes_on levels start out row to byte next lt e own one is =
    let front : List Bool = slice_range levels row to in
    let rest : List Bool = drop to levels in
    let split : drop row levels ≡ front ++ rest = drop_split levels row to (omega (arith, e)) in
    let long : length front ≡ to - row = length-rows row to levels (omega (arith, e)) in
    let end : (length front ≡ 8) ⊎ (rest ≡ []) = elim (cases_lt (length levels - row) 8) [
      | inl few ↦ inr (drop_all to levels (omega (arith, e)))
      | inr many ↦ inl (omega (arith, e, long))
    ] in
    let step : bits_bytes (drop row levels) ≡ number_of_bits front ∷ bits_bytes rest =
    ap bits_bytes split ∙ bits_split front rest (omega (arith, e, long)) (omega (arith, e, long)) end in
    record {
      within = omega (arith, e);
      same = ap (λ (bs : List ℕ). bs ++ bits_bytes rest) one ∙ append_assoc out (byte ∷ []) (bits_bytes rest) ∙ ap (λ (b : ℕ). out ++ (b ∷ bits_bytes rest)) own
          ∙ ap (λ (bs : List ℕ). out ++ bs) (sym step) ∙ is.same;
    }

pub packing_ends : (levels : List Bool) (start out : List ℕ) (row : ℕ) → length levels ≤ row → IsPacking levels start out row → out ≡ start ++ bits_bytes levels
unfolding bits_bytes number_bytes number_of_bits
packing_ends levels start out row done is =
    sym (append-nil out) ∙ ap (λ (rest : List Bool). out ++ bits_bytes rest) (sym (drop_all row levels done)) ∙ is.same

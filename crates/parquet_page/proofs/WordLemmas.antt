-- Places as the bits of a word.
use Rattle.std.proofs.Common.{◌≡◌, ℕ, zero, suc, ◌+◌, ◌-◌, ◌*◌, ◌/◌, ◌%◌, ◌^◌, ◌<◌, ◌≤◌, cond, Bool, true, false, List, [], ◌∷◌, ◌++◌, length, take, map, refl, sym, ap, ◌∙◌, inl, inr, arith}
use Rattle.std.specs.Prelude.{◌==◌, replicate}
use Rattle.std.specs.Int.Count.{ones}
use Rattle.std.proofs.Math.Pow.{mod-mod-pow}
use Rattle.std.proofs.lemmas.Bool.{cases_lt}
use Rattle.std.proofs.lemmas.List.{length-append, length-replicate}
use Rattle.std.proofs.lemmas.List.Folds.{sum_by-replicate}
use Rattle.std.proofs.lemmas.List.Sums.{count_by-le-length, sum_by-append, sum_by-cons}
use Rattle.std.proofs.lemmas.Nat.{field_of, ones_cat, shr-shr, shr_below}
use Rattle.columns_core.specs.Bits.{low_bits}
use Rattle.columns_core.proofs.BitLemmas.{length-low_bits, low_bits-add}
use Rattle.parquet_base.specs.Bytes.{little_endian}
use Rattle.parquet_encoding.specs.Bits.{bits_at, packed}
use Rattle.parquet_encoding.proofs.BitsLemmas.{take-packed}
use Rattle.parquet_page.specs.Levels.{present_count}
use Rattle.parquet_page.specs.Stretches.{BeginsOtherwise, BeginsWith}

-- the bits of levels of one bit are the places that they tell of
levels-bits : (bytes : List ℕ) (place n : ℕ) → low_bits (bits_at bytes place n) n ≡ map (λ level. level == 1) (packed bytes 1 place n)
unfolding low_bits packed
levels-bits bytes place zero = refl
levels-bits bytes place (suc n) =
    let m = little_endian bytes / 2 ^ place in
    let one : suc n ≡ n + 1 = omega arith in
    let first : m % 2 ^ suc n % 2 ≡ m % 2 = ap (λ t. m % 2 ^ t % 2) one ∙ mod-mod-pow m n 1 in
    let rest : m % 2 ^ suc n / 2 ≡ bits_at bytes (place + 1) n = ap (λ t. m % 2 ^ t / 2) one ∙ field_of m n 1 ∙ ap (λ t. t % 2 ^ n) (shr-shr (little_endian bytes) place 1) in
    ap (λ t. (t == 1) ∷ low_bits (m % 2 ^ suc n / 2) n) first ∙ ap (λ t. (m % 2 == 1) ∷ low_bits t n) rest ∙ ap (λ places. (m % 2 == 1) ∷ places) (levels-bits bytes (place + 1) n)

-- those at the front of others
pub bits_of_levels : (bytes : List ℕ) (width place seen count bits : ℕ) → width ≡ 1 → bits ≡ bits_at bytes place seen → seen ≤ count → low_bits bits seen ≡ map (λ level. level == 1) (take seen (packed bytes width place count))
bits_of_levels bytes width place seen count bits one is few =
    rw one (ap (λ n. low_bits n seen) is ∙ levels-bits bytes place seen ∙ ap (map (λ level. level == 1)) (sym (take-packed seen bytes 1 place count few)))

-- ---- how many are set

one_is : (bit : ℕ) → bit < 2 → ones bit ≡ cond (bit == 1) 1 0
unfolding ones
one_is zero h = refl
one_is (suc zero) h = refl
one_is (suc (suc bit)) h = absurd (omega arith)

pub ones_present : (bits count : ℕ) → bits < 2 ^ count → ones bits ≡ present_count (low_bits bits count)
unfolding low_bits ones
ones_present bits zero h = let e : bits ≡ 0 = omega arith in ap ones e
ones_present bits (suc count) h =
    let e : bits ≡ bits / 2 * 2 ^ 1 + bits % 2 = omega arith in
    let half = ones_present (bits / 2) count (omega arith) in
    let split : ones bits ≡ ones (bits / 2) + ones (bits % 2) = ap ones e ∙ ones_cat 1 (bits / 2) (bits % 2) (omega arith) in
    let bit = one_is (bits % 2) (omega arith) in
    let counted : present_count (low_bits bits (suc count)) ≡ cond (bits % 2 == 1) 1 0 + present_count (low_bits (bits / 2) count) = sum_by-cons (λ (present : Bool). cond present 1 0) (bits % 2 == 1) (low_bits (bits / 2) count) in
    omega (arith, half, split, bit, counted)

-- ---- the places of one kind at the front

same_bits : (bits count kind : ℕ) → ((k : ℕ) → k < count → bits / 2 ^ k % 2 ≡ kind) → low_bits bits count ≡ replicate count (kind == 1)
unfolding low_bits
same_bits bits zero kind same = refl
same_bits bits (suc count) kind same =
    let whole : bits / 2 ^ 0 ≡ bits = omega arith in
    let first : bits % 2 ≡ kind = ap (λ t. t % 2) (sym whole) ∙ same 0 (omega arith) in
    let others = same_bits (bits / 2) count kind (λ k below. let e : 1 + k ≡ suc k = omega arith in ap (λ t. t % 2) (shr-shr bits 1 k ∙ ap (λ t. bits / 2 ^ t) e) ∙ same (suc k) (omega arith)) in
    ap (λ t. (t == 1) ∷ low_bits (bits / 2) count) first ∙ ap (λ places. (kind == 1) ∷ places) others

other_bit : (x y : ℕ) → x < 2 → y < 2 → (x ≡ y → ⊥) → (x == 1) ≡ (y == 1) → ⊥
other_bit zero zero hx hy other e = other refl
other_bit zero (suc zero) hx hy other e = absurd cc
other_bit (suc zero) zero hx hy other e = absurd cc
other_bit (suc zero) (suc zero) hx hy other e = other refl
other_bit (suc (suc x)) y hx hy other e = absurd (omega arith)
other_bit x (suc (suc y)) hx hy other e = absurd (omega arith)

other_bits : (bits count kind : ℕ) → kind < 2 → (bits % 2 ≡ kind → ⊥) → BeginsOtherwise (kind == 1) (low_bits bits count)
unfolding low_bits
other_bits bits zero kind low other = tt
other_bits bits (suc count) kind low other = other_bit (bits % 2) kind (omega arith) low other

pub bits_begin : (bits rows same wide : ℕ) → wide ≡ bits → same ≤ rows → ((k : ℕ) → k < same → wide / 2 ^ k % 2 ≡ wide % 2) → (same < rows → wide / 2 ^ same % 2 ≡ wide % 2 → ⊥)
    → BeginsWith rows (wide % 2 == 1) same (low_bits bits rows) (low_bits (wide / 2 ^ same) (rows - same))
bits_begin bits rows same wide is most equal ends =
    let all : rows ≡ same + (rows - same) = omega arith in
    record {
      split =
          ap (λ n. low_bits n rows) (sym is) ∙ ap (low_bits wide) all ∙ low_bits-add wide same (rows - same)
          ∙ ap (λ places. places ++ low_bits (wide / 2 ^ same) (rows - same)) (same_bits wide same (wide % 2) equal);
      most = most;
      longest = elim (cases_lt same rows) [
        | inl less ↦ inr (other_bits (wide / 2 ^ same) (rows - same) (wide % 2) (omega arith) (ends less))
        | inr more ↦ inl (omega (arith, more, most))
      ];
    }

-- fewer bits are left behind some
pub bits_behind : (bits rows same : ℕ) → bits < 2 ^ rows → same ≤ rows → bits / 2 ^ same < 2 ^ (rows - same)
bits_behind bits rows same few most = let all : rows ≡ rows - same + same = omega arith in shr_below bits (rows - same) same (rw all at few)

-- ---- rows of both kinds

-- how much a place adds to the count
abbrev one : Bool → ℕ
one present = cond present 1 0

both_kinds : (kind : Bool) (same : ℕ) (behind : List Bool) → BeginsOtherwise kind behind → 0 < length behind → 0 < same
    → (0 < same * one kind + present_count behind) × (same * one kind + present_count behind < same + length behind)
both_kinds kind same [] other more some = absurd (omega arith)
both_kinds true same (true ∷ places) other more some = absurd (other refl)
both_kinds false same (false ∷ places) other more some = absurd (other refl)
both_kinds true same (false ∷ places) other more some =
    let counted = sum_by-cons one false places in
    let most = count_by-le-length (λ present. present) places in
    (omega (arith, counted, most), omega (arith, counted, most))
both_kinds false same (true ∷ places) other more some =
    let counted = sum_by-cons one true places in
    let most = count_by-le-length (λ present. present) places in
    (omega (arith, counted, most), omega (arith, counted, most))

begins_both : (kind : Bool) (rows same : ℕ) (places behind : List Bool) → BeginsWith rows kind same places behind → length places ≡ rows → 0 < same → same < rows → (0 < present_count places) × (present_count places < rows)
begins_both kind rows same places behind begins all some fewer =
    let counted : present_count places ≡ same * one kind + present_count behind =
    ap present_count begins.split ∙ sum_by-append one (replicate same kind) behind ∙ ap (λ n. n + present_count behind) (sum_by-replicate one same kind) in
    let size : length places ≡ same + length behind = ap length begins.split ∙ length-append (replicate same kind) behind ∙ ap (λ n. n + length behind) (length-replicate same kind) in
    elim begins.longest [
      | inl full ↦ absurd (omega (arith, full, fewer))
      | inr other ↦ let both = both_kinds kind same behind other (omega (arith, size, all, fewer)) some in (omega (arith, both.0, counted), omega (arith, both.1, counted, size, all))
    ]

-- bits of which only some are those of the lowest
pub word_has_both : (bits rows same wide : ℕ) → wide ≡ bits → 0 < same → same < rows → ((k : ℕ) → k < same → wide / 2 ^ k % 2 ≡ wide % 2) → (same < rows → wide / 2 ^ same % 2 ≡ wide % 2 → ⊥)
    → (0 < present_count (low_bits bits rows)) × (present_count (low_bits bits rows) < rows)
word_has_both bits rows same wide is some fewer equal ends =
    begins_both (wide % 2 == 1) rows same (low_bits bits rows) (low_bits (wide / 2 ^ same) (rows - same)) (bits_begin bits rows same wide is (omega (arith, fewer)) equal ends) (length-low_bits bits rows) some fewer

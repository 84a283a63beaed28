-- The rows of a word that have a value, from the first on.
use Rattle.std.proofs.Common.{◌≡◌, ℕ, zero, suc, ◌+◌, ◌-◌, ◌*◌, ◌<◌, ◌/◌, ◌%◌, ◌^◌, Bool, true, false, List, [], ◌∷◌, ◌++◌, length, set, replicate, refl, sym, ap, ap₂, ◌∙◌, arith, bit_and}
use Rattle.std.specs.Prelude.{◌==◌}
use Rattle.std.proofs.lemmas.Nat.{mod-pow-add, shr-shr}
use Rattle.std.proofs.Math.Nat.{pow-suc}
use Rattle.columns_core.specs.Bits.{low_bits}
use lib.Bits.{and_self, and_step}
use lib.Count.{count_trailing_zeros, under}
use Rattle.parquet_page.specs.Levels.{present_count}
use Rattle.flat_values.specs.Decoded.{spread_over}
use Rattle.parquet_page.proofs.SpelledLemmas.{absent_same, present_suc}

-- ---- the lowest bit

pub record IsLowest (n row : ℕ) : Type 0 where
  pub null : n % 2 ^ row ≡ 0
  pub present : n / 2 ^ row % 2 ≡ 1
  pub behind : bit_and n (n - 1) + 2 ^ row ≡ n

lowest-by : (n t digit : ℕ) → n % 2 ≡ digit → 0 < n → (0 < n / 2 → IsLowest (n / 2) t) → IsLowest n (under digit t)
lowest-by n t zero even some rest =
    let half = rest (omega arith) in
    let twice : 2 ^ suc t ≡ 2 ^ t * 2 = pow-suc 2 t in
    let more : suc t ≡ t + 1 = omega arith in
    let one : suc t ≡ 1 + t = omega arith in
    let less : (n - 1) / 2 ≡ n / 2 - 1 = omega arith in
    let odd : (n - 1) % 2 ≡ 1 = omega arith in
    record {
      null = ap (λ k. n % 2 ^ k) more ∙ omega (arith, mod-pow-add n t 1, half.null);
      present = ap (λ k. n / 2 ^ k % 2) one ∙ ap (λ m. m % 2) (sym (shr-shr n 1 t)) ∙ half.present;
      behind = omega (arith, and_step n (n - 1), ap (bit_and (n / 2)) less, half.behind, twice, odd);
    }
lowest-by n t (suc digit) odd some rest =
    let less : (n - 1) / 2 ≡ n / 2 = omega arith in
    let even : (n - 1) % 2 ≡ 0 = omega arith in
    record {
      null = omega arith;
      present = omega arith;
      behind = omega (arith, and_step n (n - 1), ap (bit_and (n / 2)) less, and_self (n / 2), even);
    }

within-by : (k n t digit : ℕ) → n % 2 ≡ digit → 0 < n → (0 < n / 2 → t < k) → under digit t < suc k
within-by k n t zero even some rest = omega (arith, rest (omega arith))
within-by k n t (suc digit) odd some rest = omega arith

pub lowest : (k n : ℕ) → 0 < n → n < 2 ^ k → (count_trailing_zeros k n < k) × IsLowest n (count_trailing_zeros k n)
unfolding count_trailing_zeros
lowest zero n some fits = absurd (omega arith)
lowest (suc k) n some fits =
    let half : (rest : 0 < n / 2) → (count_trailing_zeros k (n / 2) < k) × IsLowest (n / 2) (count_trailing_zeros k (n / 2)) = λ rest. lowest k (n / 2) rest (omega (arith, fits, pow-suc 2 k)) in (
      within-by k n (count_trailing_zeros k (n / 2)) (n % 2) refl some (λ rest. (half rest).0),
      lowest-by n (count_trailing_zeros k (n / 2)) (n % 2) refl some (λ rest. (half rest).1),
    )

-- ---- rows that are still to come

-- where so many values were taken
abbrev pub still : ℕ → List Bool → List Bool
still zero places = places
still (suc i) [] = []
still (suc i) (false ∷ places) = false ∷ still (suc i) places
still (suc i) (true ∷ places) = false ∷ still i places

-- the row of a value
abbrev pub row_of : ℕ → List Bool → ℕ
row_of i [] = 0
row_of i (false ∷ places) = suc (row_of i places)
row_of zero (true ∷ places) = 0
row_of (suc i) (true ∷ places) = suc (row_of i places)

pub row-within : (i : ℕ) (places : List Bool) → i < present_count places → row_of i places < length places
row-within i [] some = absurd (omega (arith, some))
row-within i (false ∷ places) some = omega (arith, row-within i places (omega (arith, some, absent_same places)))
row-within zero (true ∷ places) some = omega arith
row-within (suc i) (true ∷ places) some = omega (arith, row-within i places (omega (arith, some, present_suc places)))

pub spread-none : {T : Type 0} (null : T) (places : List Bool) → spread_over null places [] ≡ replicate (length places) null
spread-none null [] = refl
spread-none null (false ∷ places) = ap (λ xs. null ∷ xs) (spread-none null places)
spread-none null (true ∷ places) = ap (λ xs. null ∷ xs) (spread-none null places)

-- the next value is that of the next row
pub spread-more : {T : Type 0} (null : T) (places : List Bool) (values : List T) (value : T) → length values < present_count places
    → spread_over null places (values ++ value ∷ []) ≡ set (spread_over null places values) (row_of (length values) places) value
spread-more null [] values value some = absurd (omega (arith, some))
spread-more null (false ∷ places) values value some = ap (λ xs. null ∷ xs) (spread-more null places values value (omega (arith, some, absent_same places)))
spread-more null (true ∷ places) [] value some = refl
spread-more null (true ∷ places) (own ∷ values) value some = ap (λ xs. own ∷ xs) (spread-more null places values value (omega (arith, some, present_suc places)))

-- ---- the bits of those rows

is-odd : (n : ℕ) → (n % 2 == 1) ≡ true → n % 2 ≡ 1
is-odd n e = grind arith

is-even : (n : ℕ) → (n % 2 == 1) ≡ false → n % 2 ≡ 0
is-even n e = grind arith

even-is : (n : ℕ) → n % 2 ≡ 0 → (n % 2 == 1) ≡ false
even-is n e = grind arith

pub some-still : (n i : ℕ) (places : List Bool) → low_bits n (length places) ≡ still i places → i < present_count places → 0 < n
unfolding low_bits
some-still n i [] bits some = absurd (omega (arith, some))
some-still n zero (false ∷ places) bits some =
    let rest : low_bits (n / 2) (length places) ≡ places = cc in
    omega (arith, some-still (n / 2) zero places rest (omega (arith, some, absent_same places)))
some-still n zero (true ∷ places) bits some = let first : (n % 2 == 1) ≡ true = cc in omega (arith, is-odd n first)
some-still n (suc i) (false ∷ places) bits some =
    let rest : low_bits (n / 2) (length places) ≡ still (suc i) places = cc in
    omega (arith, some-still (n / 2) (suc i) places rest (omega (arith, some, absent_same places)))
some-still n (suc i) (true ∷ places) bits some =
    let rest : low_bits (n / 2) (length places) ≡ still i places = cc in
    omega (arith, some-still (n / 2) i places rest (omega (arith, some, present_suc places)))

-- the lowest bit is that of the next row
pub record IsTaken (n row i : ℕ) (places : List Bool) : Type 0 where
  pub own : row ≡ row_of i places
  pub rest : low_bits (n - 2 ^ row) (length places) ≡ still (suc i) places

-- of an even number, by its half
halved : (n row : ℕ) → n % 2 ≡ 0 → n % 2 ^ suc row ≡ 0 → n / 2 ^ suc row % 2 ≡ 1 → (n / 2 % 2 ^ row ≡ 0) × (n / 2 / 2 ^ row % 2 ≡ 1) × ((n - 2 ^ suc row) / 2 ≡ n / 2 - 2 ^ row) × ((n - 2 ^ suc row) % 2 ≡ 0)
halved n row even null present =
    let twice : 2 ^ suc row ≡ 2 ^ row * 2 = pow-suc 2 row in
    let more : suc row ≡ row + 1 = omega arith in
    let one : suc row ≡ 1 + row = omega arith in
    let null_more : n % 2 ^ (row + 1) ≡ 0 = ap (λ k. n % 2 ^ k) (sym more) ∙ null in (
      omega (arith, mod-pow-add n row 1, null_more, even),
      ap (λ m. m % 2) (shr-shr n 1 row) ∙ ap (λ k. n / 2 ^ k % 2) (sym one) ∙ present,
      omega (arith, twice),
      omega (arith, twice, even),
    )

module _ (n row i j : ℕ) (places : List Bool) (even : n % 2 ≡ 0) (taken : (r : ℕ) → n / 2 % 2 ^ r ≡ 0 → n / 2 / 2 ^ r % 2 ≡ 1 → IsTaken (n / 2) r j places) where
  taken-behind : (first : Bool) → row_of i (first ∷ places) ≡ suc (row_of j places) → still (suc i) (first ∷ places) ≡ false ∷ still (suc j) places → n % 2 ^ row ≡ 0 → n / 2 ^ row % 2 ≡ 1 → IsTaken n row i (first ∷ places)
  unfolding low_bits
  taken-behind first same others = at row
    where
      at : (r : ℕ) → n % 2 ^ r ≡ 0 → n / 2 ^ r % 2 ≡ 1 → IsTaken n r i (first ∷ places)
      at zero null present = absurd (omega (arith, present, even))
      at (suc r) null present =
          let half = halved n r even null present in
          let is = taken r half.0 half.1 in
          record {
            own = ap suc is.own ∙ sym same;
            rest = ap₂ (λ bit bits. bit ∷ bits) (even-is (n - 2 ^ suc r) half.3) (ap (λ m. low_bits m (length places)) half.2 ∙ is.rest) ∙ sym others;
          }

pub taken : (n row i : ℕ) (places : List Bool) → low_bits n (length places) ≡ still i places → i < present_count places → n % 2 ^ row ≡ 0 → n / 2 ^ row % 2 ≡ 1 → IsTaken n row i places
unfolding low_bits
taken n row i [] bits some null present = absurd (omega (arith, some))
taken n row zero (false ∷ places) bits some null present =
    let first : (n % 2 == 1) ≡ false = cc in
    let rest : low_bits (n / 2) (length places) ≡ places = cc in
    taken-behind n row zero zero places (is-even n first) (λ r. taken (n / 2) r zero places rest (omega (arith, some, absent_same places))) false refl refl null present
taken n row zero (true ∷ places) bits some null present =
    let first : (n % 2 == 1) ≡ true = cc in
    let rest : low_bits (n / 2) (length places) ≡ places = cc in
    at row (is-odd n first) rest null present
  where
    at : (r : ℕ) → n % 2 ≡ 1 → low_bits (n / 2) (length places) ≡ places → n % 2 ^ r ≡ 0 → n / 2 ^ r % 2 ≡ 1 → IsTaken n r zero (true ∷ places)
    at zero odd rest null present =
        let less : (n - 1) / 2 ≡ n / 2 = omega arith in
        record {
          own = refl;
          rest = ap₂ (λ bit bits. bit ∷ bits) (even-is (n - 1) (omega arith)) (ap (λ m. low_bits m (length places)) less ∙ rest);
        }
    at (suc r) odd rest null present =
        let more : suc r ≡ r + 1 = omega arith in
        absurd (omega (arith, ap (λ k. n % 2 ^ k) (sym more) ∙ null, mod-pow-add n r 1, odd))
taken n row (suc i) (false ∷ places) bits some null present =
    let first : (n % 2 == 1) ≡ false = cc in
    let rest : low_bits (n / 2) (length places) ≡ still (suc i) places = cc in
    taken-behind n row (suc i) (suc i) places (is-even n first) (λ r. taken (n / 2) r (suc i) places rest (omega (arith, some, absent_same places))) false refl refl null present
taken n row (suc i) (true ∷ places) bits some null present =
    let first : (n % 2 == 1) ≡ false = cc in
    let rest : low_bits (n / 2) (length places) ≡ still i places = cc in
    taken-behind n row (suc i) i places (is-even n first) (λ r. taken (n / 2) r i places rest (omega (arith, some, present_suc places))) true refl refl null present

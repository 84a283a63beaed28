-- Varints, a byte at a time.
use Rattle.std.proofs.Common.{◌≡◌, ℕ, zero, suc, ◌+◌, ◌-◌, ◌*◌, ◌^◌, ◌<◌, ◌≤◌, List, [], ◌∷◌, Option, Some, None, refl, sym, ap, ◌∙◌, arith, inl, inr, length}
use Rattle.std.proofs.lemmas.Bool.{le-ltb, lt-ltb, cases_lt}
use Rattle.std.proofs.Math.Nat.{mul-le-mul_right, pow-le-pow_right, pow-suc}
use Rattle.parquet_base.proofs.EndLemmas.{IsEnd_behind}
use Rattle.parquet_base.specs.Reading.{map_value, IsEnd}
use Rattle.parquet_base.specs.Varint.{varint_within, varint}

-- the number so far, and what the bytes that are left add to it
abbrev pub so_far : ℕ → ℕ → ℕ → List ℕ → Option (ℕ × List ℕ)
so_far number scale most rest = map_value (λ high. number + scale * high) (varint_within most rest)

regroup : (number scale low : ℕ) (o : Option (ℕ × List ℕ)) →
    map_value (λ high. number + scale * high) (map_value (λ high. low + 128 * high) o)
    ≡ map_value (λ high. number + low * scale + scale * 128 * high) o
regroup number scale low None = refl
regroup number scale low (Some x) =
    let e : number + scale * (low + 128 * x.0) ≡ number + low * scale + scale * 128 * x.0 = omega arith in
    ap (λ (n : ℕ). Some (n, x.1)) e

pub more : (number scale most byte : ℕ) (rest : List ℕ) → 128 ≤ byte →
    so_far number scale (suc most) (byte ∷ rest) ≡ so_far (number + (byte - 128) * scale) (scale * 128) most rest
unfolding varint_within
more number scale most byte rest high =
    rw (le-ltb byte 128 high) (regroup number scale (byte - 128) (varint_within most rest))

pub last : (number scale most byte : ℕ) (rest : List ℕ) → byte < 128 →
    so_far number scale (suc most) (byte ∷ rest) ≡ Some (number + byte * scale, rest)
unfolding varint_within
last number scale most byte rest low =
    let e : number + scale * byte ≡ number + byte * scale = omega arith in
    rw (lt-ltb byte 128 low) (ap (λ (n : ℕ). Some (n, rest)) e)

pub ended : (number scale most : ℕ) → so_far number scale most [] ≡ None
unfolding varint_within
ended number scale zero = refl
ended number scale (suc most) = refl

-- the tenth byte is not the last
pub too_long : (number scale byte : ℕ) (rest : List ℕ) → 128 ≤ byte → so_far number scale 1 (byte ∷ rest) ≡ None
unfolding varint_within
too_long number scale byte rest high = rw (le-ltb byte 128 high) refl

-- what is read within ten bytes is a varint where it is below 2 ^ 64
pub is_spelled : (bytes : List ℕ) (n : ℕ) (rest : List ℕ) → varint_within 10 bytes ≡ Some (n, rest) → n < 2 ^ 64 → varint bytes ≡ Some (n, rest)
unfolding varint
is_spelled bytes n rest e fits = rw (e, lt-ltb n (2 ^ 64) fits) refl

pub is_too_large : (bytes : List ℕ) (n : ℕ) (rest : List ℕ) → varint_within 10 bytes ≡ Some (n, rest) → 2 ^ 64 ≤ n → varint bytes ≡ None
unfolding varint
is_too_large bytes n rest e large = rw (e, le-ltb n (2 ^ 64) large) refl

pub is_unspelled : (bytes : List ℕ) → varint_within 10 bytes ≡ None → varint bytes ≡ None
unfolding varint
is_unspelled bytes e = rw e refl

-- a number of one byte
pub short : (byte : ℕ) (rest : List ℕ) → byte < 128 → varint (byte ∷ rest) ≡ Some (byte, rest)
unfolding varint_within
short byte rest low = is_spelled (byte ∷ rest) byte rest (rw (lt-ltb byte 128 low) refl) (omega arith)

-- a loop reads nine bytes that are followed by others
pub record IsPart (bytes : List ℕ) (number scale counter : ℕ) (rest : List ℕ) : Type 0 where
  pub scale_is : scale ≡ 128 ^ counter
  pub below : number < scale
  pub few : counter ≤ 9
  pub same : so_far number scale (10 - counter) rest ≡ varint_within 10 bytes
  pub ends : IsEnd bytes rest

pub begins : (bytes : List ℕ) → IsEnd bytes bytes → IsPart bytes 0 1 0 bytes
begins bytes ends = record { scale_is = refl; below = omega arith; few = omega arith; same = same_none (varint_within 10 bytes); ends = ends }
  where
    same_none : (o : Option (ℕ × List ℕ)) → map_value (λ high. 0 + 1 * high) o ≡ o
    same_none None = refl
    same_none (Some x) = let e : 0 + 1 * x.0 ≡ x.0 = omega arith in ap (λ (n : ℕ). Some (n, x.1)) e

-- nothing wraps
pub record HasRoom (number scale byte : ℕ) : Type 0 where
  pub part : byte * scale < 2 ^ 64
  pub whole : number + byte * scale < 2 ^ 64
  pub scales : scale * 128 < 2 ^ 64
  pub below : number + byte * scale < scale * 128

pub has_room : (bytes : List ℕ) (number scale counter byte : ℕ) (rest : List ℕ) → IsPart bytes number scale counter rest → counter < 9 → byte < 128 → HasRoom number scale byte
has_room bytes number scale counter byte rest p lt low =
    let top : 128 ^ counter ≤ 128 ^ 8 = let le : counter ≤ 8 = omega arith in pow-le-pow_right (omega arith) le in
    let small : scale ≤ 2 ^ 56 = rw p.scale_is top in
    let product : byte * scale ≤ 127 * scale = mul-le-mul_right scale (omega arith) in
    let below : number < scale = p.below in
    record { part = omega arith; whole = omega arith; scales = omega arith; below = omega arith }

pub goes_on : (bytes : List ℕ) (number scale counter byte : ℕ) (rest after : List ℕ) → IsPart bytes number scale counter rest → counter < 9 →
    rest ≡ byte ∷ after → 128 ≤ byte → byte < 256 → IsPart bytes (number + (byte - 128) * scale) (scale * 128) (counter + 1) after
goes_on bytes number scale counter byte rest after p lt split high fits =
    let room = has_room bytes number scale counter (byte - 128) rest p lt (omega arith) in
    let k : 10 - counter ≡ suc (10 - (counter + 1)) = omega arith in
    record {
      scale_is = ap (λ (n : ℕ). n * 128) p.scale_is ∙ sym (pow_next counter);
      below = room.below;
      few = omega arith;
      same = sym (more number scale (10 - (counter + 1)) byte after high)
          ∙ ap (λ (n : ℕ). so_far number scale n (byte ∷ after)) (sym k)
          ∙ ap (λ (s : List ℕ). so_far number scale (10 - counter) s) (sym split) ∙ p.same;
      ends = IsEnd_behind bytes rest byte after p.ends split;
    }
  where
    pow_next : (n : ℕ) → 128 ^ (n + 1) ≡ 128 ^ n * 128
    pow_next n = let e : n + 1 ≡ suc n = omega arith in rw e (pow-suc 128 n)

pub finds : (bytes : List ℕ) (number scale counter byte : ℕ) (rest after : List ℕ) → IsPart bytes number scale counter rest → counter ≤ 9 →
    rest ≡ byte ∷ after → byte < 128 → varint_within 10 bytes ≡ Some (number + byte * scale, after)
finds bytes number scale counter byte rest after p le split low =
    let k : 10 - counter ≡ suc (9 - counter) = omega arith in
    sym p.same ∙ ap (λ (s : List ℕ). so_far number scale (10 - counter) s) split ∙ ap (λ (n : ℕ). so_far number scale n (byte ∷ after)) k
    ∙ last number scale (9 - counter) byte after low

pub finds_none : (bytes : List ℕ) (number scale counter : ℕ) (rest : List ℕ) → IsPart bytes number scale counter rest → length rest ≡ 0 → varint bytes ≡ None
finds_none bytes number scale counter rest p none =
    is_unspelled bytes (sym p.same ∙ ended_at rest none)
  where
    ended_at : (s : List ℕ) → length s ≡ 0 → so_far number scale (10 - counter) s ≡ None
    ended_at [] e = ended number scale (10 - counter)
    ended_at (x ∷ xs) e = absurd (omega arith)

-- at the tenth byte
pub tenth_scale : (bytes : List ℕ) (number scale counter : ℕ) (rest : List ℕ) → IsPart bytes number scale counter rest → 9 ≤ counter → scale ≡ 2 ^ 63
tenth_scale bytes number scale counter rest p le =
    let few : counter ≤ 9 = p.few in
    let nine : counter ≡ 9 = omega arith in
    p.scale_is ∙ ap (λ (n : ℕ). 128 ^ n) nine

pub too_large : (bytes : List ℕ) (number scale counter byte : ℕ) (rest after : List ℕ) → IsPart bytes number scale counter rest → 9 ≤ counter →
    rest ≡ byte ∷ after → 2 ≤ byte → varint bytes ≡ None
too_large bytes number scale counter byte rest after p le split large =
    elim (cases_lt byte 128) [
      | inl low ↦
          let double : 2 * scale ≤ byte * scale = mul-le-mul_right scale large in
          let tenth = tenth_scale bytes number scale counter rest p le in
          is_too_large bytes _ after (finds bytes number scale counter byte rest after p p.few split low) (omega (arith, double, tenth))
      | inr high ↦
          let few : counter ≤ 9 = p.few in
          let nine : 10 - counter ≡ 1 = omega arith in
          is_unspelled bytes (sym p.same ∙ ap (λ (s : List ℕ). so_far number scale (10 - counter) s) split ∙ ap (λ (n : ℕ). so_far number scale n (byte ∷ after)) nine
          ∙ too_long number scale byte after high)
    ]

pub tenth_fits : (bytes : List ℕ) (number scale counter byte : ℕ) (rest : List ℕ) → IsPart bytes number scale counter rest → 9 ≤ counter → byte < 2 → number + byte * scale < 2 ^ 64
tenth_fits bytes number scale counter byte rest p le low =
    let product : byte * scale ≤ 1 * scale = mul-le-mul_right scale (omega arith) in
    let tenth = tenth_scale bytes number scale counter rest p le in
    let below : number < scale = p.below in
    omega (arith, product, tenth)

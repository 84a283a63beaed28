-- Truth values, eight a byte.
use Rattle.std.proofs.Common.{◌≡◌, ℕ, zero, suc, ◌+◌, ◌*◌, ◌^◌, ◌<◌, ◌≤◌, inl, inr, Bool, true, false, List, [], ◌∷◌, ◌++◌, refl, sym, ap, ◌∙◌, arith, length, append_assoc, append-nil, length-append}
use Rattle.std.proofs.Math.Nat.{pow-suc}
use Rattle.parquet_plain.specs.Bodies.{bit, bits_bytes, number_bytes, number_of_bits}
use Rattle.parquet_plain.proofs.BitLemmas.{bits_split}
use Rattle.parquet_plain.proofs.BodyLemmas.{bits-few}

-- What is written and what a byte holds are the bits so far: whatever follows, the bytes come out alike.
pub record Holds (start body : List ℕ) (bits : List Bool) (byte weight : ℕ) : Type 0 where
  pub held : List Bool
  pub few : length held < 8
  pub is_byte : byte ≡ number_of_bits held
  pub is_weight : weight ≡ 2 ^ length held
  pub whole : (rest : List Bool) → body ++ bits_bytes (held ++ rest) ≡ start ++ bits_bytes (bits ++ rest)

pub holds_none : (start : List ℕ) → Holds start start [] 0 1
unfolding number_of_bits
holds_none start = record { held = []; few = omega arith; is_byte = refl; is_weight = refl; whole = λ rest. refl }

bits-last : (bits : List Bool) (b : Bool) → number_of_bits (bits ++ b ∷ []) ≡ number_of_bits bits + bit b * 2 ^ length bits
unfolding number_of_bits
bits-last [] true = omega arith
bits-last [] false = omega arith
bits-last (x ∷ bits) true = omega (arith, bits-last bits true, pow-suc 2 (length bits))
bits-last (x ∷ bits) false = omega (arith, bits-last bits false, pow-suc 2 (length bits))

length-last : (held : List Bool) (b : Bool) → length (held ++ b ∷ []) ≡ length held + 1
length-last held b = length-append held (b ∷ [])

-- one bit more
one-more : {start body : List ℕ} {bits : List Bool} {byte weight : ℕ} (is : Holds start body bits byte weight) (b : Bool) (rest : List Bool) →
    body ++ bits_bytes ((is.held ++ b ∷ []) ++ rest) ≡ start ++ bits_bytes ((bits ++ b ∷ []) ++ rest)
one-more {start = start} {body = body} {bits = bits} is b rest =
    ap (λ (bs : List Bool). body ++ bits_bytes bs) (append_assoc is.held (b ∷ []) rest) ∙ is.whole (b ∷ rest)
    ∙ ap (λ (bs : List Bool). start ++ bits_bytes bs) (sym (append_assoc bits (b ∷ []) rest))

pow_some : (k : ℕ) → 0 < 2 ^ k
pow_some zero = omega arith
pow_some (suc k) = omega (arith, pow-suc 2 k, pow_some k)

doubled : (n : ℕ) → 2 ^ (n + 1) ≡ 2 * 2 ^ n
doubled n =
    let next : n + 1 ≡ suc n = omega arith in
    ap (λ (k : ℕ). 2 ^ k) next ∙ omega (arith, pow-suc 2 n)

-- eight places
seventh : (n : ℕ) → n < 8 → 2 ^ n ≡ 128 → n ≡ 7
seventh zero lt e = absurd (omega (arith, e))
seventh (suc zero) lt e = absurd (omega (arith, e))
seventh (suc (suc zero)) lt e = absurd (omega (arith, e))
seventh (suc (suc (suc zero))) lt e = absurd (omega (arith, e))
seventh (suc (suc (suc (suc zero)))) lt e = absurd (omega (arith, e))
seventh (suc (suc (suc (suc (suc zero))))) lt e = absurd (omega (arith, e))
seventh (suc (suc (suc (suc (suc (suc zero)))))) lt e = absurd (omega (arith, e))
seventh (suc (suc (suc (suc (suc (suc (suc zero))))))) lt e = refl
seventh (suc (suc (suc (suc (suc (suc (suc (suc n)))))))) lt e = absurd (omega arith)

power_small : (n : ℕ) → n < 8 → 2 ^ n ≤ 128
power_small zero lt = omega arith
power_small (suc zero) lt = omega arith
power_small (suc (suc zero)) lt = omega arith
power_small (suc (suc (suc zero))) lt = omega arith
power_small (suc (suc (suc (suc zero)))) lt = omega arith
power_small (suc (suc (suc (suc (suc zero))))) lt = omega arith
power_small (suc (suc (suc (suc (suc (suc zero)))))) lt = omega arith
power_small (suc (suc (suc (suc (suc (suc (suc zero))))))) lt = omega arith
power_small (suc (suc (suc (suc (suc (suc (suc (suc n)))))))) lt = absurd (omega arith)

-- a byte with a bit more, or without
pub with_bit : (b : Bool) (byte weight next : ℕ) → b ≡ true → next ≡ byte + weight → next ≡ byte + bit b * weight
with_bit b byte weight next set e =
    let one : next ≡ byte + 1 * weight = omega (arith, e) in
    one ∙ ap (λ (c : Bool). byte + bit c * weight) (sym set)

pub without_bit : (b : Bool) (byte weight next : ℕ) → b ≡ false → next ≡ byte → next ≡ byte + bit b * weight
without_bit b byte weight next unset e =
    let none : next ≡ byte + 0 * weight = omega (arith, e) in
    none ∙ ap (λ (c : Bool). byte + bit c * weight) (sym unset)

pub holds_as : (start body next : List ℕ) (bits others : List Bool) (byte weight byte' weight' : ℕ) → next ≡ body → others ≡ bits → byte' ≡ byte → weight' ≡ weight →
    Holds start body bits byte weight → Holds start next others byte' weight'
holds_as start body next bits others byte weight byte' weight' a b d e is = record {
  held = is.held;
  few = is.few;
  is_byte = d ∙ is.is_byte;
  is_weight = e ∙ is.is_weight;
  whole = λ rest. ap (λ (bs : List ℕ). bs ++ bits_bytes (is.held ++ rest)) a ∙ is.whole rest ∙ ap (λ (bs : List Bool). start ++ bits_bytes (bs ++ rest)) (sym b);
}

-- the byte has room for another
pub holds_more : (start body : List ℕ) (bits : List Bool) (byte weight next : ℕ) (b : Bool) → next ≡ byte + bit b * weight → (weight ≡ 128 → ⊥) →
    Holds start body bits byte weight → Holds start body (bits ++ b ∷ []) next (2 * weight)
holds_more start body bits byte weight next b own room is =
    record {
      held = is.held ++ b ∷ [];
      few = omega (arith, length-last is.held b, is.few, not_full (length is.held) is.few (λ e. room (is.is_weight ∙ ap (λ (n : ℕ). 2 ^ n) e)));
      is_byte = own ∙ ap (λ (n : ℕ). n + bit b * weight) is.is_byte ∙ ap (λ (w : ℕ). number_of_bits is.held + bit b * w) is.is_weight ∙ sym (bits-last is.held b);
      is_weight = ap (λ (w : ℕ). 2 * w) is.is_weight ∙ sym (doubled (length is.held)) ∙ ap (λ (n : ℕ). 2 ^ n) (sym (length-last is.held b));
      whole = one-more is b;
    }
  where
    not_full : (n : ℕ) → n < 8 → (n ≡ 7 → ⊥) → n < 7
    not_full n lt ne = omega (arith, ne)

-- the byte is full, and written
pub holds_full : (start body next : List ℕ) (bits : List Bool) (byte weight last : ℕ) (b : Bool) → last ≡ byte + bit b * weight → weight ≡ 128 → next ≡ body ++ last ∷ [] →
    Holds start body bits byte weight → Holds start next (bits ++ b ∷ []) 0 1
unfolding number_of_bits
holds_full start body next bits byte weight last b own full written is =
    let held : List Bool = is.held ++ b ∷ [] in
    let eight : length held ≡ 8 = omega (arith, length-last is.held b, seventh (length is.held) is.few (sym is.is_weight ∙ full)) in
    let same : last ≡ number_of_bits held = own ∙ ap (λ (n : ℕ). n + bit b * weight) is.is_byte ∙ ap (λ (w : ℕ). number_of_bits is.held + bit b * w) is.is_weight ∙ sym (bits-last is.held b) in
    record {
      held = [];
      few = omega arith;
      is_byte = refl;
      is_weight = refl;
      whole = λ rest. ap (λ (bs : List ℕ). bs ++ bits_bytes rest) written ∙ append_assoc body (last ∷ []) (bits_bytes rest) ∙ ap (λ (n : ℕ). body ++ (n ∷ bits_bytes rest)) same
          ∙ ap (λ (bs : List ℕ). body ++ bs) (sym (bits_split held rest (omega (arith, eight)) (omega (arith, eight)) (inl eight))) ∙ one-more is b rest;
    }

-- a byte holds bits that are left, or none
pub holds_last : (start body next : List ℕ) (bits : List Bool) (byte weight : ℕ) → 1 < weight → next ≡ body ++ byte ∷ [] → Holds start body bits byte weight → next ≡ start ++ bits_bytes bits
unfolding bits_bytes number_bytes number_of_bits
holds_last start body next bits byte weight some written is =
    let none : is.held ++ [] ≡ is.held = append-nil is.held in
    written ∙ ap (λ (n : ℕ). body ++ n ∷ []) is.is_byte
    ∙ ap (λ (bs : List ℕ). body ++ bs) (sym (bits_split is.held [] (held_some is.held (rw (← is.is_weight) some)) (omega (arith, is.few)) (inr refl)))
    ∙ is.whole [] ∙ ap (λ (bs : List Bool). start ++ bits_bytes bs) (append-nil bits)
  where
    held_some : (held : List Bool) → 1 < 2 ^ length held → 0 < length held
    held_some [] lt = absurd (omega (arith, lt))
    held_some (b ∷ held) lt = omega arith

pub holds_whole : (start body : List ℕ) (bits : List Bool) (byte weight : ℕ) → weight ≤ 1 → Holds start body bits byte weight → body ≡ start ++ bits_bytes bits
unfolding bits_bytes number_bytes number_of_bits
holds_whole start body bits byte weight none is =
    let empty : is.held ≡ [] = held_none is.held (rw (← is.is_weight) none) in
    sym (append-nil body) ∙ ap (λ (bs : List Bool). body ++ bits_bytes (bs ++ [])) (sym empty) ∙ is.whole [] ∙ ap (λ (bs : List Bool). start ++ bits_bytes bs) (append-nil bits)
  where
    held_none : (held : List Bool) → 2 ^ length held ≤ 1 → held ≡ []
    held_none [] le = refl
    held_none (b ∷ held) le = absurd (omega (arith, le, pow-suc 2 (length held), pow_some (length held)))

-- what a byte holds is small
pub holds_fits : (start body : List ℕ) (bits : List Bool) (byte weight : ℕ) → Holds start body bits byte weight → (byte < weight) × (weight ≤ 128)
holds_fits start body bits byte weight is =
    (omega (arith, is.is_byte, is.is_weight, bits-few is.held), omega (arith, is.is_weight, power_small (length is.held) is.few))

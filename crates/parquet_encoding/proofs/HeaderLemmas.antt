-- What stands before the first block, and all that is read.
use Rattle.std.proofs.Common.{◌≡◌, ℕ, ◌-◌, ◌*◌, ◌/◌, ◌%◌, ◌<◌, Bool, true, false, ◌&&◌, List, [], length, take, drop, Option, Some, None, refl, sym, ap, ◌∙◌, arith, inl, inr, ℤ}
use Rattle.std.specs.Prelude.{unwrap_or, is_some, option_map, ◌==◌, nat_lt}
use Rattle.std.proofs.lemmas.Bool.{eq-eqb, eqb-true, ltb-true, cases_lt}
use Rattle.std.proofs.Math.Nat.{div-add-mod}
use Rattle.std.proofs.lemmas.Bool.Decides.{eqb_tells}
use Rattle.std.proofs.lemmas.List.{take_all, length-take}
use Rattle.parquet_base.specs.Reading.{◌>>=◌, given, after}
use Rattle.parquet_base.specs.Varint.{varint, zigzag}
use Rattle.parquet_encoding.specs.Places.{VarintAt}
use Rattle.parquet_encoding.specs.DeltaBinary.{Shape, is_block, shape_at, blocks, running_sums, delta_binary}
use Rattle.parquet_encoding.specs.DeltaLeft.{HeaderAt}
use Rattle.parquet_encoding.specs.declared.delta_binary.Header.{Header}
use Rattle.parquet_encoding.proofs.RunningLemmas.{length-running}

-- ---- the shape of blocks

both : (a b : Bool) → a && b ≡ true → (a ≡ true) × (b ≡ true)
both true true e = (refl, refl)
both true false e = absurd cc
both false b e = absurd cc

pub record BlockFacts (values parts : ℕ) : Type 0 where
  pub some_parts : 0 < parts
  pub some : 0 < values / parts
  pub whole : values / parts % 32 ≡ 0

pub block_facts : (values parts : ℕ) → is_block values parts ≡ true → BlockFacts values parts
block_facts values parts e =
    let a = both _ (values / parts % 32 == 0) e in
    let b = both _ (values % parts == 0) a.0 in
    let d = both _ (nat_lt 0 parts) b.0 in
    let f = both (nat_lt 0 values) (values % 128 == 0) d.0 in
    let some = ltb-true 0 values f.0 in
    let exact = eqb-true (values % parts) 0 b.1 in
    let parts-some = ltb-true 0 parts d.1 in
    record { some_parts = parts-some; some = positive values parts parts-some some exact; whole = eqb-true (values / parts % 32) 0 a.1 }
  where
    positive : (values parts : ℕ) → 0 < parts → 0 < values → values % parts ≡ 0 → 0 < values / parts
    positive values parts some-parts some exact =
        elim (cases_lt 0 (values / parts)) [
          | inl some ↦ some
          | inr none ↦
              let zero : values / parts ≡ 0 = omega arith in
              let product = ap (λ q. parts * q) zero in
              absurd (omega (arith, div-add-mod values parts))
        ]

pub shape_is : (bytes : List ℕ) (values parts total a b d : ℕ) → VarintAt bytes 0 (values, a) → VarintAt bytes a (parts, b) → VarintAt bytes b (total, d) → is_block values parts ≡ true
    → shape_at bytes ≡ Some (record { size = values / parts; miniblocks = parts; total = total }, drop d bytes)
unfolding shape_at
shape_is bytes values parts total a b d first second third e = rw (first.value, second.value, third.value, e) refl

pub not_shape : (bytes : List ℕ) (values parts total a b d : ℕ) → VarintAt bytes 0 (values, a) → VarintAt bytes a (parts, b) → VarintAt bytes b (total, d) → is_block values parts ≡ false → shape_at bytes ≡ None
unfolding shape_at
not_shape bytes values parts total a b d first second third e = rw (first.value, second.value, third.value, e) refl

pub no_values : (bytes : List ℕ) → varint bytes ≡ None → shape_at bytes ≡ None
unfolding shape_at
no_values bytes e = rw e refl

pub no_parts : (bytes : List ℕ) (values a : ℕ) → VarintAt bytes 0 (values, a) → varint (drop a bytes) ≡ None → shape_at bytes ≡ None
unfolding shape_at
no_parts bytes values a first e = rw (first.value, e) refl

pub no_total : (bytes : List ℕ) (values parts a b : ℕ) → VarintAt bytes 0 (values, a) → VarintAt bytes a (parts, b) → varint (drop b bytes) ≡ None → shape_at bytes ≡ None
unfolding shape_at
no_total bytes values parts a b first second e = rw (first.value, second.value, e) refl

-- ---- what is read

pub no_shape : (bytes : List ℕ) (count : ℕ) → shape_at bytes ≡ None → delta_binary count bytes ≡ None
unfolding delta_binary
no_shape bytes count e = rw e refl

pub no_first : (bytes rest : List ℕ) (shape : Shape) (count : ℕ) → shape_at bytes ≡ Some (shape, rest) → varint rest ≡ None → delta_binary count bytes ≡ None
unfolding delta_binary
no_first bytes rest shape count e none = rw (e, none) refl

-- the numbers that deltas make of the first, and the bytes after them
abbrev pub read_of : ℤ → ℕ → Option (List ℤ × List ℕ) → Option (List ℤ × List ℕ)
read_of first count deltas = deltas >>= λ read. Some (take count (running_sums first read.0), read.1)

abbrev pub all_deltas : Header → ℕ → List ℕ → Option (List ℤ × List ℕ)
all_deltas header count bytes = blocks (length bytes) header.size header.parts (count - 1) (drop header.start bytes)

pub read_is : (bytes : List ℕ) (header : Header) (count : ℕ) → HeaderAt bytes header → header.total ≡ count → delta_binary count bytes ≡ read_of header.first count (all_deltas header count bytes)
unfolding delta_binary
read_is bytes header count at same = rw (at.shape, at.first, eq-eqb header.total count same, ← at.signed) refl

pub other_total : (bytes : List ℕ) (header : Header) (count : ℕ) → HeaderAt bytes header → (header.total ≡ count → ⊥) → delta_binary count bytes ≡ None
unfolding delta_binary
other_total bytes header count at differs =
    elim (eqb_tells header.total count) [
      | inl same ↦ absurd (differs same.1)
      | inr other ↦ rw (at.shape, at.first, other.0) (nothing at.number (all_deltas header count bytes))
    ]
  where
    nothing : (number : ℕ) (o : Option (List ℤ × List ℕ)) → ◌>>=◌ {B = List ℤ × List ℕ} o (λ read. given false (take count (running_sums (zigzag number) read.0), read.1)) ≡ None
    nothing number None = refl
    nothing number (Some read) = refl

pub after_read : (first : ℤ) (count : ℕ) (o : Option (List ℤ × List ℕ)) → after (read_of first count o) ≡ after o
after_read first count None = refl
after_read first count (Some read) = refl

pub is_some-after : {A : Type 0} (o : Option (A × List ℕ)) (rest : List ℕ) → after o ≡ Some rest → is_some o ≡ true
is_some-after None rest e = absurd cc
is_some-after (Some x) rest e = refl

-- no number is wanted
pub none_read : (first : ℤ) (count : ℕ) (o : Option (List ℤ × List ℕ)) → count ≡ 0 → is_some o ≡ true → Some [] ≡ option_map (λ read. read.0) (read_of first count o)
none_read first count None none e = absurd cc
none_read first count (Some read) none e = ap (λ n. Some (take n (running_sums first read.0))) (sym none)

-- as many numbers are wanted as there are
pub all_read : (first : ℤ) (count : ℕ) (o : Option (List ℤ × List ℕ)) → 0 < count → ((read : List ℤ × List ℕ) → o ≡ Some read → length read.0 ≡ count - 1)
    → option_map (running_sums first) (option_map (λ read. read.0) o) ≡ option_map (λ read. read.0) (read_of first count o)
all_read first count None positive long = refl
all_read first count (Some read) positive long =
    ap Some (sym (take_all count (running_sums first read.0) (omega (arith, length-running first read.0, long read refl))))

-- how many are read
pub length-read : (first : ℤ) (count : ℕ) (o : Option (List ℤ × List ℕ)) → is_some o ≡ true → ((read : List ℤ × List ℕ) → o ≡ Some read → length read.0 ≡ count - 1)
    → length (unwrap_or (option_map (λ read. read.0) (read_of first count o)) []) ≡ count
length-read first count None e long = absurd cc
length-read first count (Some read) e long = length-take count (running_sums first read.0) ∙ omega (arith, length-running first read.0, long read refl)

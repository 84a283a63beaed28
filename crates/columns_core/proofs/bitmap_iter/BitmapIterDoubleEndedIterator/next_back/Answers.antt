use Rattle.std.proofs.Common.{◌≡◌, ◌+◌, ◌-◌, ◌^◌, ◌/◌, ◌%◌, ◌∙◌, [], ◌∷◌, ◌++◌, length, ap, sym, arith}
use Rattle.std.specs.Prelude.{◌==◌}
use Rattle.parquet_base.specs.Bytes.{little_endian}
use Rattle.columns_core.specs.Bits.{bits_of}
use Rattle.columns_core.proofs.BitLemmas.{length-low_bits, no_bits, bits_of-last}
use Rattle.columns_core.proofs.bitmap_iter.BitmapIterDoubleEndedIterator.next_back.Goals as goal

pub returns-then-self-eq0-clause-steps : goal.returns-then-self-eq0-clause-steps
returns-then-self-eq0-clause-steps c =
    let s = c.self.inside in
    let none = sym c.self.view_is ∙ ap (bits_of s.bytes.now s.start) c.if-self-eq0.true ∙ no_bits (little_endian s.bytes.now / 2 ^ s.start) in
    (none, none)

pub returns-clause-steps : goal.returns-clause-steps
returns-clause-steps c =
    let s = c.self.inside in
    let r = c.from_bit-place.result in
    let rest = s.left - 1 in
    let place : r.1 + s.start ≡ s.start + r.1 = omega arith in
    let there : rest + s.start ≡ s.start + rest = omega arith in
    let last : c.bit_at.result ≡ (little_endian s.bytes.now / 2 ^ (s.start + rest) % 2 == 1) =
    c.bit_at.ensures ∙ ap (λ n. n % 2 == 1) (ap (λ t. little_endian r.0.now / 2 ^ t) (sym place) ∙ c.from_bit-place.ensures.same s.start ∙ ap (λ t. little_endian s.bytes.now / 2 ^ t) there) in
    sym c.self.view_is ∙ bits_of-last s.bytes.now s.start s.left rest (omega (arith, c.if-self-eq0.false))
    ∙ ap (λ bit. bits_of s.bytes.now s.start rest ++ bit ∷ []) (sym last)

pub returns-clause-goes : goal.returns-clause-goes
returns-clause-goes c =
    let s = c.self.inside in
    let before = length-low_bits (little_endian s.bytes.now / 2 ^ s.start) s.left in
    let seen = ap length c.self.view_is in
    let after = length-low_bits (little_endian s.bytes.now / 2 ^ s.start) (s.left - 1) in
    record { on = λ _. (tt, tt, omega (arith, before, seen, after, c.if-self-eq0.false)); keeps = tt; rests = λ _. tt }

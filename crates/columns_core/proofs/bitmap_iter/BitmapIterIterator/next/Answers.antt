use Rattle.std.proofs.Common.{◌+◌, ◌-◌, ◌^◌, ◌/◌, ◌∙◌, ◌∷◌, length, ap, sym, arith}
use Rattle.parquet_base.specs.Bytes.{little_endian}
use Rattle.columns_core.specs.Bits.{bits_of}
use Rattle.columns_core.proofs.BitLemmas.{length-low_bits, no_bits, bits_of-first, bits_of-same}
use Rattle.columns_core.proofs.bitmap_iter.BitmapIterIterator.next.Goals as goal

pub returns-then-self-eq0-clause-steps : goal.returns-then-self-eq0-clause-steps
returns-then-self-eq0-clause-steps c =
    let s = c.self.inside in
    let none = sym c.self.view_is ∙ ap (bits_of s.bytes.now s.start) c.if-self-eq0.true ∙ no_bits (little_endian s.bytes.now / 2 ^ s.start) in
    (none, none)

pub returns-clause-steps : goal.returns-clause-steps
returns-clause-steps c =
    let s = c.self.inside in
    let r = c.from_bit-start.result in
    let rest = s.left - 1 in
    let behind = bits_of-same s.bytes.now r.0.now (s.start + 1) r.1 rest (c.from_bit-start.ensures.same 0) in
    sym c.self.view_is ∙ bits_of-first s.bytes.now s.start s.left rest (omega (arith, c.if-self-eq0.false))
    ∙ ap (λ bit. bit ∷ bits_of s.bytes.now (s.start + 1) rest) (sym c.bit_at-bit.ensures) ∙ ap (λ bits. c.bit_at-bit.result ∷ bits) (sym behind)

pub returns-clause-goes : goal.returns-clause-goes
returns-clause-goes c =
    let s = c.self.inside in
    let before = length-low_bits (little_endian s.bytes.now / 2 ^ s.start) s.left in
    let seen = ap length c.self.view_is in
    let after = length-low_bits (little_endian c.from_bit-start.result.0.now / 2 ^ c.from_bit-start.result.1) (s.left - 1) in
    record { on = λ _. (tt, tt, omega (arith, before, seen, after, c.if-self-eq0.false)); keeps = tt; rests = λ _. tt }

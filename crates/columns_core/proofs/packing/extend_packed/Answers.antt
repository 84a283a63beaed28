use Rattle.std.proofs.Common.{◌≡◌, ◌∙◌, ◌<◌, ◌+◌, ◌-◌, ◌*◌, ◌/◌, ◌%◌, ◌^◌, length, ap, sym, subst, arith}
use Rattle.std.specs.Prelude.{bit_and}
use Rattle.std.proofs.lemmas.Nat.{mod_below, pow_pos}
use Rattle.parquet_base.specs.Bytes.{little_endian}
use Rattle.columns_core.proofs.PackingLemmas.{masked_bits, joined_bits, number_behind, packed_again, last_byte, shifted_fits}
use Rattle.columns_core.proofs.packing.extend_packed.Goals as goal

pub or_bits-requires-clause-free : goal.or_bits-requires-clause-free
or_bits-requires-clause-free c =
    last_byte c.args.out.now.items c.push_bits.new.out.items c.args.count (c.len-before.result - 1) c.requires.packed c.in_default.ensures.kept (omega (arith, c.len-before.ensures)) (omega (arith, c.if-head-gt0.true, c.min-head.ensures)) (omega (arith, c.if-head-gt0.true, c.min-head.ensures))

pub or_bits-requires-clause-fits : goal.or_bits-requires-clause-fits
or_bits-requires-clause-fits c =
    let head = c.min-head.result in
    let first = c.from_bit-offset.result in
    let few : head < 8 = omega (arith, c.min-head.ensures) in
    let these = masked_bits (little_endian first.0.now / 2 ^ first.1) head c.byte_at.result c.low_ones.result few c.byte_at.ensures c.low_ones.ensures in
    let small = mod_below (little_endian first.0.now / 2 ^ first.1) (2 ^ head) (pow_pos head) in
    shifted_fits (bit_and c.byte_at.result c.low_ones.result) head (c.args.count % 8) (subst (λ n. n < 2 ^ head) (sym these) small) (omega (arith, c.if-head-gt0.true, c.min-head.ensures))

pub returns-then-head-gt0-clause-added : goal.returns-then-head-gt0-clause-added
returns-then-head-gt0-clause-added c =
    let head = c.min-head.result in
    let first = c.from_bit-offset.result in
    let rest = c.from_bit-place.result in
    let number = little_endian c.args.bytes.now / 2 ^ c.args.offset in
    let few : head < 8 = omega (arith, c.min-head.ensures) in
    let a : first.1 ≡ first.1 + 0 = omega arith in
    let b : c.args.offset + 0 ≡ c.args.offset = omega arith in
    let same : little_endian first.0.now / 2 ^ first.1 ≡ number = ap (λ k. little_endian first.0.now / 2 ^ k) a ∙ c.from_bit-offset.ensures.same 0 ∙ ap (λ k. little_endian c.args.bytes.now / 2 ^ k) b in
    let these = masked_bits (little_endian first.0.now / 2 ^ first.1) head c.byte_at.result c.low_ones.result few c.byte_at.ensures c.low_ones.ensures ∙ ap (λ n. n % 2 ^ head) same in
    let behind = number_behind c.args.bytes.now first.0.now rest.0.now c.args.offset first.1 rest.1 head c.from_bit-offset.ensures.same c.from_bit-place.ensures.same in
    let there : 8 * (c.len-before.result - 1) + c.args.count % 8 ≡ c.args.count = omega (arith, c.len-before.ensures, c.if-head-gt0.true, c.min-head.ensures, c.requires.packed.needed) in
    let read = c.in_default.ensures.added ∙ ap (λ n. little_endian c.args.out.now.items + 2 ^ (8 * length c.args.out.now.items) * (n % 2 ^ (c.args.len - head))) behind in
    let set = c.or_bits.ensures.added ∙ ap (λ k. little_endian c.push_bits.new.out.items + 2 ^ k * bit_and c.byte_at.result c.low_ones.result) there in
    joined_bits (little_endian c.args.out.now.items) number c.args.count (length c.args.out.now.items) c.args.len head (bit_and c.byte_at.result c.low_ones.result) (little_endian c.push_bits.new.out.items) (little_endian c.or_bits.new.bytes.items)
    c.requires.packed.needed c.min-head.ensures read set these

pub returns-then-head-gt0-clause-packed : goal.returns-then-head-gt0-clause-packed
returns-then-head-gt0-clause-packed c =
    packed_again c.args.out.now.items c.or_bits.new.bytes.items c.args.count c.args.len (little_endian c.args.bytes.now / 2 ^ c.args.offset % 2 ^ c.args.len) c.requires.packed
    (omega (arith, c.or_bits.ensures.len, c.in_default.ensures.len, c.min-head.ensures, c.requires.packed.needed)) (mod_below (little_endian c.args.bytes.now / 2 ^ c.args.offset) (2 ^ c.args.len) (pow_pos c.args.len)) (returns-then-head-gt0-clause-added c)

pub returns-else-head-gt0-clause-added : goal.returns-else-head-gt0-clause-added
returns-else-head-gt0-clause-added c =
    let head = c.min-head.result in
    let rest = c.from_bit-place.result in
    let number = little_endian c.args.bytes.now / 2 ^ c.args.offset in
    let behind = number_behind c.args.bytes.now c.from_bit-offset.result.0.now rest.0.now c.args.offset c.from_bit-offset.result.1 rest.1 head c.from_bit-offset.ensures.same c.from_bit-place.ensures.same in
    let read = c.in_default.ensures.added ∙ ap (λ n. little_endian c.args.out.now.items + 2 ^ (8 * length c.args.out.now.items) * (n % 2 ^ (c.args.len - head))) behind in
    let none : head ≡ 0 = omega (arith, c.if-head-gt0.false) in
    let nothing : 0 ≡ number % 2 ^ head = sym (ap (λ k. number % 2 ^ k) none ∙ omega arith) in
    joined_bits (little_endian c.args.out.now.items) number c.args.count (length c.args.out.now.items) c.args.len head 0 (little_endian c.push_bits.new.out.items) (little_endian c.push_bits.new.out.items)
    c.requires.packed.needed c.min-head.ensures read (omega arith) nothing

pub returns-else-head-gt0-clause-packed : goal.returns-else-head-gt0-clause-packed
returns-else-head-gt0-clause-packed c =
    packed_again c.args.out.now.items c.push_bits.new.out.items c.args.count c.args.len (little_endian c.args.bytes.now / 2 ^ c.args.offset % 2 ^ c.args.len) c.requires.packed
    (omega (arith, c.in_default.ensures.len, c.min-head.ensures, c.if-head-gt0.false, c.requires.packed.needed)) (mod_below (little_endian c.args.bytes.now / 2 ^ c.args.offset) (2 ^ c.args.len) (pow_pos c.args.len)) (returns-else-head-gt0-clause-added c)

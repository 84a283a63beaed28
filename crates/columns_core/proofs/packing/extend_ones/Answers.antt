use Rattle.std.proofs.Common.{◌≡◌, ◌∙◌, ◌≤◌, ◌+◌, ◌-◌, ◌*◌, ◌%◌, ◌^◌, length, ap, sym, arith}
use Rattle.std.proofs.lemmas.Nat.{pow_pos}
use Rattle.parquet_base.specs.Bytes.{little_endian}
use Rattle.columns_core.proofs.PackingLemmas.{joined_bits, packed_again, last_byte, shifted_fits, high_ones, low_ones_of}
use Rattle.columns_core.proofs.packing.extend_ones.Goals as goal

pub or_bits-requires-clause-free : goal.or_bits-requires-clause-free
or_bits-requires-clause-free c =
    last_byte c.args.out.now.items c.push_ones.new.out.items c.args.count (c.len-before.result - 1) c.requires.packed c.in_ok-push_ones.ensures.kept (omega (arith, c.len-before.ensures)) (omega (arith, c.if-head-gt0.true, c.min-head.ensures)) (omega (arith, c.if-head-gt0.true, c.min-head.ensures))

pub or_bits-requires-clause-fits : goal.or_bits-requires-clause-fits
or_bits-requires-clause-fits c =
    let head = c.min-head.result in
    shifted_fits c.low_ones.result head (c.args.count % 8) (omega (arith, c.low_ones.ensures, pow_pos head)) (omega (arith, c.if-head-gt0.true, c.min-head.ensures))

pub returns-then-head-gt0-clause-added : goal.returns-then-head-gt0-clause-added
returns-then-head-gt0-clause-added c =
    let head = c.min-head.result in
    let more = c.args.additional in
    let few : head ≤ more = omega (arith, c.min-head.ensures) in
    let old = c.args.out.now.items in
    let there : 8 * (c.len-before.result - 1) + c.args.count % 8 ≡ c.args.count = omega (arith, c.len-before.ensures, c.if-head-gt0.true, c.min-head.ensures, c.requires.packed.needed) in
    let read = c.in_ok-push_ones.ensures.added ∙ ap (λ n. little_endian old + 2 ^ (8 * length old) * n) (sym (high_ones more head few)) in
    let set = c.or_bits.ensures.added ∙ ap (λ k. little_endian c.push_ones.new.out.items + 2 ^ k * c.low_ones.result) there in
    joined_bits (little_endian old) (2 ^ more - 1) c.args.count (length old) more head c.low_ones.result (little_endian c.push_ones.new.out.items) (little_endian c.or_bits.new.bytes.items)
    c.requires.packed.needed c.min-head.ensures read set (c.low_ones.ensures ∙ sym (low_ones_of more head few))
    ∙ ap (λ n. little_endian old + 2 ^ c.args.count * n) (low_ones_of more more (omega arith))

pub returns-then-head-gt0-clause-packed : goal.returns-then-head-gt0-clause-packed
returns-then-head-gt0-clause-packed c =
    packed_again c.args.out.now.items c.or_bits.new.bytes.items c.args.count c.args.additional (2 ^ c.args.additional - 1) c.requires.packed
    (omega (arith, c.or_bits.ensures.len, c.in_ok-push_ones.ensures.len, c.min-head.ensures, c.requires.packed.needed)) (omega (arith, pow_pos c.args.additional)) (returns-then-head-gt0-clause-added c)

pub returns-else-head-gt0-clause-added : goal.returns-else-head-gt0-clause-added
returns-else-head-gt0-clause-added c =
    let head = c.min-head.result in
    let more = c.args.additional in
    let few : head ≤ more = omega (arith, c.min-head.ensures) in
    let old = c.args.out.now.items in
    let read = c.in_ok-push_ones.ensures.added ∙ ap (λ n. little_endian old + 2 ^ (8 * length old) * n) (sym (high_ones more head few)) in
    let none : head ≡ 0 = omega (arith, c.if-head-gt0.false) in
    let nothing : 0 ≡ (2 ^ more - 1) % 2 ^ head = sym (ap (λ k. (2 ^ more - 1) % 2 ^ k) none ∙ omega arith) in
    joined_bits (little_endian old) (2 ^ more - 1) c.args.count (length old) more head 0 (little_endian c.push_ones.new.out.items) (little_endian c.push_ones.new.out.items)
    c.requires.packed.needed c.min-head.ensures read (omega arith) nothing
    ∙ ap (λ n. little_endian old + 2 ^ c.args.count * n) (low_ones_of more more (omega arith))

pub returns-else-head-gt0-clause-packed : goal.returns-else-head-gt0-clause-packed
returns-else-head-gt0-clause-packed c =
    packed_again c.args.out.now.items c.push_ones.new.out.items c.args.count c.args.additional (2 ^ c.args.additional - 1) c.requires.packed
    (omega (arith, c.in_ok-push_ones.ensures.len, c.min-head.ensures, c.if-head-gt0.false, c.requires.packed.needed)) (omega (arith, pow_pos c.args.additional)) (returns-else-head-gt0-clause-added c)

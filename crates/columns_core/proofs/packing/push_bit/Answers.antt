use Rattle.std.proofs.Common.{◌≡◌, ◌∙◌, ◌+◌, ◌-◌, ◌*◌, ◌^◌, length, ap, arith}
use Rattle.std.specs.Prelude.{if◌then◌else◌}
use Rattle.std.proofs.lemmas.List.{take_all}
use Rattle.parquet_base.specs.Bytes.{little_endian}
use Rattle.columns_core.proofs.PackingLemmas.{little_endian-push, packed_again, last_byte, small_constant}
use Rattle.columns_core.proofs.packing.push_bit.Goals as goal

pub or_bits-requires-clause-free : goal.or_bits-requires-clause-free
or_bits-requires-clause-free c =
    let old = c.args.out.now.items in
    last_byte old old c.args.count (c.len-last.result - 1) c.requires.packed (take_all (length old) old (omega arith)) (omega (arith, c.len-last.ensures)) (omega (arith, c.if-used-eq0.false)) (omega (arith, c.if-used-eq0.false))

pub returns-then-used-eq0-clause-added : goal.returns-then-used-eq0-clause-added
returns-then-used-eq0-clause-added c =
    let old = c.args.out.now.items in
    let border : 8 * length old ≡ c.args.count = omega (arith, c.requires.packed.needed, c.if-used-eq0.true) in
    let bit = c.one_or_zero-bit.result in
    ap little_endian c.in_ok-push.ensures.items ∙ little_endian-push old bit ∙ ap (λ k. little_endian old + 2 ^ k * bit) border ∙ ap (λ n. little_endian old + 2 ^ c.args.count * n) c.one_or_zero-bit.ensures

pub returns-then-used-eq0-clause-packed : goal.returns-then-used-eq0-clause-packed
returns-then-used-eq0-clause-packed c =
    let small = small_constant c.args.value 1 in
    packed_again c.args.out.now.items c.push.new.self.items c.args.count 1 (if c.args.value then 1 else 0) c.requires.packed (omega (arith, c.in_ok-push.ensures.len, c.requires.packed.needed, c.if-used-eq0.true)) small (returns-then-used-eq0-clause-added c)

use Rattle.std.proofs.Common.{arith, sym, ◌*◌, ◌+◌, ◌∙◌, ap, get_or}
use Rattle.std.proofs.Math.Pow.{pow_mono}
use Rattle.parquet_base.proofs.BytesLemmas.{little_endian-none}
use Rattle.flat_values.proofs.NumberLemmas.{next_byte, grown}
use Rattle.flat_values.proofs.fixed_bytes.convert_i128.Goals as goal

pub loop-byte-init : goal.loop-byte-init
loop-byte-init c = (sym little_endian-none, omega arith)

pub overflow_mul-pattern : goal.overflow_mul-pattern
overflow_mul-pattern c =
    record { fits = omega (arith, c.loop-byte.invariant.1, pow_mono {i = 8 * c.loop-byte.byte-index} {j = 120} (omega (arith, c.loop-byte-test.true, c.requires.length, c.requires.fits))) }

pub overflow_add-pattern : goal.overflow_add-pattern
overflow_add-pattern c =
    let i = c.loop-byte.byte-index in
    let b = grown c.loop-byte.pattern (get_or c.args.value.now i 0) i c.loop-byte.invariant.1 (omega (arith, c.type_inv.value i)) in
    record { fits = omega (arith, b, pow_mono {i = 8 * (i + 1)} {j = 128} (omega (arith, c.loop-byte-test.true, c.requires.length, c.requires.fits))) }

pub loop-byte-preserved : goal.loop-byte-preserved
loop-byte-preserved c =
    let i = c.loop-byte.byte-index in
    let bytes = c.args.value.now in (
      ap (λ p. p * 256 + get_or bytes i 0) c.loop-byte.invariant.0 ∙ next_byte bytes i (omega (arith, c.loop-byte-test.true)),
      grown c.loop-byte.pattern (get_or bytes i 0) i c.loop-byte.invariant.1 (omega (arith, c.type_inv.value i)),
    )

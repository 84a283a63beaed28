use Rattle.std.proofs.Common.{arith, ◌-◌, ◌<◌, ◌^◌, ◌∙◌}
use Rattle.std.specs.Int.{w128}
use Rattle.std.proofs.lemmas.Int.{to_z_pos}
use Rattle.std.proofs.Math.Pow.{pow_mono}
use Rattle.flat_values.proofs.NumberLemmas.{not_negative}
use Rattle.flat_values.proofs.fixed_bytes.signed.Goals as goal

pub overflow_cast-result : goal.overflow_cast-result
overflow_cast-result c =
    record { sfits = omega (arith, c.if-pattern-half.true, c.power-half.ensures, pow_mono {i = c.args.bits - 1} {j = 127} (omega (arith, c.requires.fits))) }

pub below_zero-requires : goal.below_zero-requires
below_zero-requires c =
    omega (arith, c.if-pattern-half.false, c.power-half.ensures, c.requires.some, pow_mono {i = c.args.bits - 1} {j = 127} (omega (arith, c.requires.fits)))

pub returns-then-pattern-half : goal.returns-then-pattern-half
returns-then-pattern-half c =
    let low : c.args.pattern < 2 ^ (c.args.bits - 1) = omega (arith, c.if-pattern-half.true, c.power-half.ensures) in
    to_z_pos w128 c.args.pattern (omega (arith, low, pow_mono {i = c.args.bits - 1} {j = 127} (omega (arith, c.requires.fits))))
    ∙ not_negative c.args.bits c.args.pattern low

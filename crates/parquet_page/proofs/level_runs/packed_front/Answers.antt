use Rattle.std.proofs.Common.{◌+◌, ◌*◌, arith}
use Rattle.std.proofs.lemmas.Bool.{ltb-true}
use Rattle.parquet_page.proofs.LevelLemmas.{bits_end, bits_front}
use Rattle.parquet_page.proofs.level_runs.packed_front.Goals as goal

pub returns-clause-same : goal.returns-clause-same
returns-clause-same c =
    let run = c.args.run.now in
    let front = c.front_bits-bits.ensures in
    let equal = c.equal_bits-count.ensures in
    bits_front c.args.bytes.now run.width (8 * run.place + run.bit) run.count c.front_bits-bits.result.1 c.equal_bits-count.result c.front_bits-bits.result.0 c.from.result
    c.if-run-ne1.false front.bits c.from.ensures front.within equal.within equal.same

pub returns-clause-ends : goal.returns-clause-ends
returns-clause-ends c = λ ends.
    let run = c.args.run.now in
    let front = c.front_bits-bits.ensures in
    let below = ltb-true _ _ ends in (
      omega (arith, below, front.within),
      bits_end c.args.bytes.now run.width (8 * run.place + run.bit) run.count c.front_bits-bits.result.1 c.equal_bits-count.result c.front_bits-bits.result.0 c.from.result
          c.if-run-ne1.false front.bits c.from.ensures front.within below (c.equal_bits-count.ensures.ends below),
    )

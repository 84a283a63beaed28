use Rattle.std.proofs.Common.{◌+◌, ◌*◌, ◌<◌, arith}
use Rattle.parquet_page.proofs.WordLemmas.{bits_of_levels, word_has_both}
use Rattle.parquet_page.proofs.level_runs.packed_word.Goals as goal

pub returns-clause-places : goal.returns-clause-places
returns-clause-places c =
    let run = c.args.run.now in
    let front = c.front_bits-bits.ensures in
    bits_of_levels c.args.bytes.now run.width (8 * run.place + run.bit) c.front_bits-bits.result.1 run.count c.front_bits-bits.result.0 c.if-run-ne1.false front.bits front.within

pub returns-clause-both : goal.returns-clause-both
returns-clause-both c =
    let rows = c.front_bits-bits.result.1 in
    let equal = c.equal_bits.ensures in
    let fewer : c.equal_bits.result < rows = omega (arith, equal.within, c.if-equal_bits-rows.false) in
    word_has_both c.front_bits-bits.result.0 rows c.equal_bits.result c.from.result c.from.ensures equal.some fewer equal.same equal.ends

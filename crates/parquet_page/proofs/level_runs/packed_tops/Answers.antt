use Rattle.std.proofs.Common.{◌+◌, ◌*◌}
use Rattle.parquet_page.proofs.LevelLemmas.{ones_of_levels}
use Rattle.parquet_page.proofs.level_runs.packed_tops.Goals as goal

pub returns-then-top-eq1-clause-tops : goal.returns-then-top-eq1-clause-tops
returns-then-top-eq1-clause-tops c =
    let run = c.args.run.now in
    let front = c.front_bits-bits.ensures in
    ones_of_levels c.args.bytes.now run.width c.args.top (8 * run.place + run.bit) c.front_bits-bits.result.1 run.count c.front_bits-bits.result.0 c.if-run-eq1.true c.if-top-eq1.true front.bits front.within

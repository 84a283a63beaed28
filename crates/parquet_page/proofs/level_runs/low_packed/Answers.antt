use Rattle.std.proofs.Common.{◌+◌, ◌*◌, arith}
use Rattle.std.specs.Prelude.{nat_le}
use Rattle.std.proofs.lemmas.Bool.{lt-leb}
use Rattle.parquet_encoding.specs.PackedRun.{packed_values}
use Rattle.parquet_page.proofs.LevelLemmas.{bits_low, high_first}
use Rattle.parquet_page.proofs.level_runs.low_packed.Goals as goal

pub returns-then-top-gt0-clause-low : goal.returns-then-top-gt0-clause-low
returns-then-top-gt0-clause-low c = let run = c.args.run.now in bits_low c.args.bytes.now run.width c.args.top (8 * run.place + run.bit) run.count c.if-run-eq1.true c.if-top-gt0.true

pub returns-else-first-top-clause-high : goal.returns-else-first-top-clause-high
returns-else-first-top-clause-high c = λ _.
    high_first (λ level. nat_le level c.args.top) c.first.result (packed_values c.args.run.now c.args.bytes.now) c.first.ensures (lt-leb c.first.result c.args.top (omega (arith, c.if-first-top.false)))

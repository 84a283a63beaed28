use Rattle.std.proofs.Common.{◌+◌, ◌*◌, arith}
use Rattle.parquet_encoding.proofs.BitsLemmas.{first_packed}
use Rattle.parquet_page.proofs.level_runs.front_bits.Goals as goal

pub returns-clause-bits : goal.returns-clause-bits
returns-clause-bits c =
    let run = c.args.run.now in
    cc (c.first.ensures, first_packed c.args.bytes.now c.min-count.result (8 * run.place + run.bit) 1 (omega arith))

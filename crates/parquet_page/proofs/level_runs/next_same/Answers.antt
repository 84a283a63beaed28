use Rattle.std.proofs.Common.{◌<◌, length, arith}
use Rattle.parquet_encoding.specs.HybridLeft.{hybrid_values}
use Rattle.parquet_encoding.specs.HybridRun.{count_of, run_values}
use Rattle.parquet_encoding.proofs.RunLemmas.{length-run_values}
use Rattle.parquet_page.proofs.LevelLemmas.{otherwise_front}
use Rattle.parquet_page.proofs.level_runs.next_same.Goals as goal

pub returns-clause-ends : goal.returns-clause-ends
returns-clause-ends c = λ ends.
    let bytes = c.args.bytes.now in
    let run = c.in_ok-run.run' in
    let same = c.run_front.result in
    let own = c.run_front.ensures.ends ends in
    let inside : same.count < length (run_values run bytes) = omega (arith, own.0, length-run_values bytes run) in
    otherwise_front (hybrid_values c.args.levels.now bytes) (run_values run bytes) same.count (count_of run) same.level c.in_ok-run.ensures.values inside own.1

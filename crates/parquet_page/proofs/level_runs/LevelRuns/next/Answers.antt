use Rattle.std.proofs.Common.{◌<◌, arith}
use Rattle.parquet_encoding.specs.HybridLeft.{hybrid_left}
use Rattle.parquet_page.proofs.LevelLemmas.{run_of_places}
use Rattle.parquet_page.proofs.level_runs.LevelRuns.next.Goals as goal

pub returns-clause-begins : goal.returns-clause-begins
returns-clause-begins c =
    let bytes = c.args.levels.now in
    let self = c.args.self.now in
    let some : 0 < c.skip_same-count.result = omega (arith, c.in_ok-first.ensures.some, c.skip_same-count.ensures.some) in
    (run_of_places self.top c.args.limit c.in_ok-first.first.level c.skip_same-count.result (hybrid_left self.levels bytes) (hybrid_left c.skip_same-count.new.levels bytes) self.low c.requires.spelled c.skip_same-count.ensures.spelled
    some c.skip_same-count.ensures.begins).begins

pub returns-clause-spelled : goal.returns-clause-spelled
returns-clause-spelled c =
    let bytes = c.args.levels.now in
    let self = c.args.self.now in
    let some : 0 < c.skip_same-count.result = omega (arith, c.in_ok-first.ensures.some, c.skip_same-count.ensures.some) in
    (run_of_places self.top c.args.limit c.in_ok-first.first.level c.skip_same-count.result (hybrid_left self.levels bytes) (hybrid_left c.skip_same-count.new.levels bytes) self.low c.requires.spelled c.skip_same-count.ensures.spelled
    some c.skip_same-count.ensures.begins).spelled

use Rattle.std.proofs.Common.{◌≡◌, ◌∙◌, ◌≤◌, ap, arith, map, sym, take}
use Rattle.std.specs.Prelude.{◌==◌}
use Rattle.parquet_encoding.specs.HybridLeft.{hybrid_left}
use Rattle.parquet_encoding.specs.HybridRun.{count_of, run_values}
use Rattle.parquet_page.specs.ValidityParts.{word_places}
use Rattle.parquet_page.proofs.LevelLemmas.{word_of_places}
use Rattle.parquet_page.proofs.level_runs.LevelRuns.next_word.Goals as goal

pub returns-clause-word : goal.returns-clause-word
returns-clause-word c =
    let bytes = c.args.levels.now in
    let self = c.args.self.now in
    let word = c.in_ok-word.word in
    let run = c.in_ok-run.field-0 in
    let top : self.top ≡ 1 = omega (arith, self.low, c.if-self-eq0.false) in
    let within : word.rows ≤ count_of run = omega (arith, c.in_ok-word.ensures.within, ap count_of c.in-Packed.is) in
    let told = c.in_ok-word.ensures.places ∙ ap (λ run. map (λ level. level == 1) (take word.rows (run_values run bytes))) (sym c.in-Packed.is) in
    let own = word_of_places self.top word.rows (count_of run) (hybrid_left self.levels bytes) (hybrid_left c.skip.new.self bytes) (run_values run bytes) (word_places word) top c.requires.spelled c.skip.ensures c.in_ok-run.ensures.values within told in
    (own.split, c.in_ok-word.ensures.some, omega (arith, within, c.in_ok-run.ensures.most))

pub returns-clause-spelled : goal.returns-clause-spelled
returns-clause-spelled c =
    let bytes = c.args.levels.now in
    let self = c.args.self.now in
    let word = c.in_ok-word.word in
    let run = c.in_ok-run.field-0 in
    let top : self.top ≡ 1 = omega (arith, self.low, c.if-self-eq0.false) in
    let within : word.rows ≤ count_of run = omega (arith, c.in_ok-word.ensures.within, ap count_of c.in-Packed.is) in
    let told = c.in_ok-word.ensures.places ∙ ap (λ run. map (λ level. level == 1) (take word.rows (run_values run bytes))) (sym c.in-Packed.is) in
    (word_of_places self.top word.rows (count_of run) (hybrid_left self.levels bytes) (hybrid_left c.skip.new.self bytes) (run_values run bytes) (word_places word) top c.requires.spelled c.skip.ensures c.in_ok-run.ensures.values within told).spelled

use Rattle.std.proofs.Common.{None, Some, subst, sym}
use Rattle.parquet_page.specs.Content.{data_content}
use Rattle.parquet_page.specs.Levels.{body_of}
use Rattle.parquet_page.specs.LevelsLeft.{places}
use Rattle.parquet_page.specs.Plan.{plan}
use Rattle.parquet_page.specs.Runs.{GivesRun}
use Rattle.parquet_page.specs.ValidityLeft.{IsLongest}
use Rattle.parquet_page.specs.declared.level_runs.LevelRuns.{LevelRuns}
use Rattle.parquet_page.specs.declared.run.Run.{Run}
use Rattle.parquet_page.specs.declared.validity_part.ValidityPart.TheVariants.{Run as OfRun, Word as OfWord}
use Rattle.parquet_page.proofs.ValidityLemmas.{kept-run, kept-word, longest-at, part-at}
use Rattle.parquet_page.proofs.validity.OptionalPageValidity.next_part.Goals as goal

pub returns-in-Some-clause-part : goal.returns-in-Some-clause-part
returns-in-Some-clause-part c =
    let levels = c.in-Ok.levels.now in
    let body = body_of c.in-Ok.field-0-0.now levels c.in-Ok.field-0-2.now in
    let old = c.args.self.now.runs in
    let new = c.next_word.new.self in
    let word = c.in-Some.word in
    let own = c.in-Some.ensures.word in
    part-at c.args.limit old new (data_content c.args.page.now) body (Some (OfWord word)) c.in-Ok.ensures.parts (kept-word c.args.limit word (places old levels) (places new levels) own.0 own.1 own.2)

pub returns-clause-part : goal.returns-clause-part
returns-clause-part c =
    let levels = c.in-Ok.levels.now in
    let body = body_of c.in-Ok.field-0-0.now levels c.in-Ok.field-0-2.now in
    let new = c.next.new.self in
    let run = c.in_ok-present in
    let G : LevelRuns → Run → Type 0 = λ old given. GivesRun c.args.limit (plan None (places old levels)) (plan None (places new levels)) (Some given) in
    let kept = (kept-run c.args.limit run.rows run.present (places c.next_word.new.self levels) (places new levels) run.ensures.begins run.ensures.some).gives in
    let given : G c.next_word.new.self c.kept_run.result = subst (G c.next_word.new.self) (sym c.kept_run.ensures) kept in
    let gives : G c.args.self.now.runs c.kept_run.result = subst (λ (old : LevelRuns). G old c.kept_run.result) c.in_default-next_word.ensures.kept given in
    part-at c.args.limit c.args.self.now.runs new (data_content c.args.page.now) body (Some (OfRun c.kept_run.result)) c.in-Ok.ensures.parts gives

pub returns-clause-longest : goal.returns-clause-longest
returns-clause-longest c =
    let levels = c.in-Ok.levels.now in
    let body = body_of c.in-Ok.field-0-0.now levels c.in-Ok.field-0-2.now in
    let new = c.next.new.self in
    let run = c.in_ok-present in
    let L : Run → Type 0 = λ given. IsLongest c.args.limit (Some given) (plan None (places new levels)) in
    let kept = (kept-run c.args.limit run.rows run.present (places c.next_word.new.self levels) (places new levels) run.ensures.begins run.ensures.some).longest in
    longest-at c.args.limit new (data_content c.args.page.now) body (Some (OfRun c.kept_run.result)) c.in-Ok.ensures.parts (subst L (sym c.kept_run.ensures) kept)

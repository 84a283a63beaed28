use Rattle.std.proofs.Common.{◌≡◌, ◌≤◌, ◌∙◌, ap, sym, [], take, drop, Some, arith}
use Rattle.std.specs.Prelude.{unwrap_or}
use Rattle.parquet_encoding.specs.HybridRun.{count_of}
use Rattle.parquet_encoding.specs.HybridLeft.{hybrid_left, hybrid_values}
use Rattle.parquet_encoding.proofs.StepLemmas.{same_some}
use Rattle.parquet_encoding.proofs.HybridLeftLemmas.{nothing_left, parts_of, left_front, left_behind}
use Rattle.parquet_encoding.proofs.hybrid.HybridRle.next_run.Goals as goal

pub returns-then-count-eq0-clause-ended : goal.returns-then-count-eq0-clause-ended
unfolding hybrid_left
returns-then-count-eq0-clause-ended c =
    let s = c.open.new.self in
    let there = same_some _ _ c.open.ensures.same c.requires.spelled in
    let none : count_of s.run ≡ 0 = omega arith in
    let left = nothing_left s.run s.width c.args.bytes.now s.behind s.next there none (c.open.ensures.filled none) in
    ap (λ o. unwrap_or o []) (sym c.open.ensures.same ∙ left)

pub behind-self-requires-clause-lies : goal.behind-self-requires-clause-lies
unfolding hybrid_left
behind-self-requires-clause-lies c =
    let s = c.open.new.self in
    let there = same_some _ _ c.open.ensures.same c.requires.spelled in
    (c.args.bytes.now, omega arith, (parts_of s.run s.width c.args.bytes.now s.behind s.next there).lies)

pub returns-clause-values : goal.returns-clause-values
unfolding hybrid_left
returns-clause-values c =
    let s = c.open.new.self in
    let there = same_some _ _ c.open.ensures.same c.requires.spelled in
    let few : c.min-count.result ≤ count_of s.run = omega arith in
    left_front s.run c.front-run.result s.width c.args.bytes.now s.behind s.next c.min-count.result there few (c.front-run.ensures.values c.args.bytes.now)
    ∙ ap (λ o. take c.min-count.result (unwrap_or o [])) c.open.ensures.same
    ∙ ap (λ n. take n (hybrid_values c.args.self.now c.args.bytes.now)) (sym c.front-run.ensures.count)

pub returns-clause-lies : goal.returns-clause-lies
unfolding hybrid_left
returns-clause-lies c =
    let s = c.open.new.self in
    let there = same_some _ _ c.open.ensures.same c.requires.spelled in
    c.front-run.ensures.lies c.args.bytes.now (parts_of s.run s.width c.args.bytes.now s.behind s.next there).lies

pub returns-clause-rest : goal.returns-clause-rest
unfolding hybrid_left
returns-clause-rest c =
    let s = c.open.new.self in
    let bytes = c.args.bytes.now in
    let there = same_some _ _ c.open.ensures.same c.requires.spelled in
    let few : c.min-count.result ≤ count_of s.run = omega arith in
    let lies = c.behind-self.ensures.lies bytes (parts_of s.run s.width bytes s.behind s.next there).lies in
    left_behind s.run c.behind-self.result s.width bytes s.behind s.next c.min-count.result there few lies (c.behind-self.ensures.values bytes)
    ∙ ap Some (ap (λ o. drop c.min-count.result (unwrap_or o [])) c.open.ensures.same ∙ ap (λ n. drop n (hybrid_values c.args.self.now bytes)) (sym c.front-run.ensures.count))

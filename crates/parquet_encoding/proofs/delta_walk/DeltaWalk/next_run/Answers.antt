use Rattle.std.proofs.Common.{◌≤◌, ◌∙◌, ap, sym, [], take, drop, Some, arith}
use Rattle.std.specs.Prelude.{unwrap_or}
use Rattle.parquet_encoding.specs.DeltaWalk.{deltas_behind, deltas_left, deltas}
use Rattle.parquet_encoding.proofs.StepLemmas.{same_some}
use Rattle.parquet_encoding.proofs.DeltaWalkLemmas.{left_of, parts_of, left_front, left_behind}
use Rattle.parquet_encoding.proofs.BlockLemmas.{behind_of}
use Rattle.parquet_encoding.proofs.delta_walk.DeltaWalk.next_run.Goals as goal

pub behind-self-requires-clause-lies : goal.behind-self-requires-clause-lies
unfolding deltas_left
behind-self-requires-clause-lies c =
    let s = c.open_next.new.self in
    let there = same_some _ _ c.open_next.ensures.same c.requires.spelled in
    (c.args.bytes.now, omega arith, (parts_of s.run _ c.args.bytes.now there).lies)

pub returns-clause-deltas : goal.returns-clause-deltas
unfolding deltas_left
returns-clause-deltas c =
    let s = c.open_next.new.self in
    let there = same_some _ _ c.open_next.ensures.same c.requires.spelled in
    let few : c.min-count.result ≤ s.run.count = omega arith in
    left_front s.run c.front-run.result _ c.args.bytes.now c.min-count.result there few (c.front-run.ensures.deltas c.args.bytes.now)
    ∙ ap (λ o. take c.min-count.result (unwrap_or o [])) c.open_next.ensures.same
    ∙ ap (λ n. take n (deltas c.args.self.now c.args.bytes.now)) (sym c.front-run.ensures.count)

pub returns-clause-lies : goal.returns-clause-lies
unfolding deltas_left
returns-clause-lies c =
    let s = c.open_next.new.self in
    let there = same_some _ _ c.open_next.ensures.same c.requires.spelled in
    c.front-run.ensures.lies c.args.bytes.now (parts_of s.run _ c.args.bytes.now there).lies

pub returns-clause-rest : goal.returns-clause-rest
unfolding deltas_left deltas_behind
returns-clause-rest c =
    let s = c.open_next.new.self in
    let bytes = c.args.bytes.now in
    let there = same_some _ _ c.open_next.ensures.same c.requires.spelled in
    let few : c.min-count.result ≤ s.run.count = omega arith in
    let lies = c.behind-self.ensures.lies bytes (parts_of s.run _ bytes there).lies in
    ap (λ least. left_of c.behind-self.result (behind_of s.size s.parts least s.behind s.widths s.parts_left s.next bytes) bytes) c.behind-self.ensures.least
    ∙ left_behind s.run c.behind-self.result _ bytes c.min-count.result there few lies (c.behind-self.ensures.deltas bytes)
    ∙ ap Some (ap (λ o. drop c.min-count.result (unwrap_or o [])) c.open_next.ensures.same ∙ ap (λ n. drop n (deltas c.args.self.now bytes)) (sym c.front-run.ensures.count))

use Rattle.std.proofs.Common.{◌∙◌, ◌+◌, ◌++◌, List, Option, [], ℕ, ap, arith, drop, sym}
use Rattle.std.specs.Prelude.{is_some, replicate, unwrap_or}
use Rattle.parquet_encoding.specs.HybridLeft.{hybrid_values}
use Rattle.parquet_page.proofs.LevelLemmas.{copies-join}
use Rattle.parquet_page.proofs.level_runs.skip_same.Goals as goal

pub loop-count-preserved : goal.loop-count-preserved
loop-count-preserved c =
    let bytes = c.args.bytes.now in
    let more = c.in-Some.more in
    let before = c.loop-count.invariant in
    let level = c.args.first.level in
    let behind = ap (λ (o : Option (List ℕ)). unwrap_or o []) (sym c.skip-in-loop-count.ensures) in
    record {
      spelled = ap is_some c.skip-in-loop-count.ensures;
      same = before.same
          ∙ ap (λ xs. replicate c.loop-count.count level ++ xs) (c.in-Some.ensures.same ∙ ap (λ x. replicate more.count x ++ drop more.count (hybrid_values c.loop-count.levels bytes)) c.if-more-first.false)
          ∙ copies-join c.loop-count.count more.count level (drop more.count (hybrid_values c.loop-count.levels bytes))
          ∙ ap (λ xs. replicate (c.loop-count.count + more.count) level ++ xs) behind;
      most = omega (arith, before.most, c.in-Some.ensures.most);
      some = omega (arith, before.some);
    }

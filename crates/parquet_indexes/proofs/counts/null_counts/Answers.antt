use Rattle.std.proofs.Common.{arith, ◌∙◌, ap, []}
use Rattle.std.specs.Prelude.{◌++◌, ◌∷◌}
use Rattle.std.proofs.lemmas.Grind.{common_steps}
use Rattle.parquet_indexes.proofs.CountLemmas.{counts-more}
use Rattle.parquet_indexes.proofs.counts.null_counts.Goals as goal

pub loop-page-preserved : goal.loop-page-preserved
loop-page-preserved c = record {
  even = grind (arith, common_steps);
  counts = counts-more c.args.pages.now c.loop-page.page-index c.page-item.result c.loop-page.values.items c.push.new.self.items c.loop-page.validity c.push-in-loop-page.new.self
      c.told_count-count.result c.loop-page-test.true c.page-item.is c.told_count-count.ensures c.loop-page.invariant.even c.loop-page.invariant.counts
      (c.in_ok-push.ensures.items ∙ ap (λ n. c.loop-page.values.items ++ n ∷ []) c.unwrap_or.ensures)
      (c.in_ok-push-2.ensures.ok ∙ ap (λ b. c.loop-page.validity ++ b ∷ []) c.is_some.ensures);
}

use Rattle.std.proofs.Common.{◌+◌, ap, sym, ◌∙◌, refl, sum_by, List, take}
use Rattle.std.proofs.lemmas.List.{take_all}
use Rattle.std.proofs.lemmas.List.Sums.{sum_by_more}
use Rattle.parquet_write.specs.declared.facts.GroupFacts.{GroupFacts}
use Rattle.parquet_write.proofs.footer.rows_of.Goals as goal

pub loop-group-init : goal.loop-group-init
loop-group-init c = refl

pub loop-group-preserved : goal.loop-group-preserved
loop-group-preserved c =
    let more = sum_by_more (λ (group : GroupFacts). group.rows) c.args.groups.now c.loop-group.group-index c.group-item.result c.loop-group-test.true in
    let own = ap (λ (group : GroupFacts). group.rows) c.group-item.is in
    c.in_ok-rows.ensures.ok ∙ ap (λ n. n + c.group-item.result.rows) c.loop-group.invariant ∙ ap (λ n. sum_by (λ (group : GroupFacts). group.rows) (take c.loop-group.group-index c.args.groups.now) + n) own ∙ sym more

pub returns-clause-sum : goal.returns-clause-sum
returns-clause-sum c = c.loop-group.invariant ∙ ap (λ (groups : List GroupFacts). sum_by (λ (group : GroupFacts). group.rows) groups) (take_all c.loop-group.group-index c.args.groups.now c.loop-group-test.false)

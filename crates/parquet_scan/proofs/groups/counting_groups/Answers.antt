use Rattle.std.proofs.Common.{◌≡◌, ◌∙◌, ap, arith, drop, length, refl, subst, take}
use Rattle.std.specs.List.{list_all}
use Rattle.std.proofs.lemmas.List.{length-map, take_at}
use Rattle.std.proofs.lemmas.Result.{err_from_is_err_and}
use Rattle.parquet_scan.specs.declared.bound.Bound.{Bound}
use Rattle.parquet_scan.specs.Causes.{causes_of_bound}
use Rattle.parquet_scan.specs.Rows.{group_keeps}
use Rattle.parquet_scan.proofs.BoundLemmas.{all_count, counts_more, nothing_more}
use Rattle.parquet_scan.proofs.CauseLemmas.{ComesFrom, tells_of_all}
use Rattle.parquet_scan.proofs.groups.counting_groups.Goals as goal

pub returns-in_err-rule_out-clause-cause : goal.returns-in_err-rule_out-clause-cause
returns-in_err-rule_out-clause-cause c =
    let p = err_from_is_err_and c.from_residual-in_err-rule_out.result c.from_residual-in_err-rule_out.ensures.1 in
    let causes = causes_of_bound c.args.fields.now c.args.groups.now in
    rw (p.1, p.2) (tells_of_all causes c.args.bounds.now c.loop-bound.bound-index c.bound-item.result c.in_err-rule_out.field-0.0 c.loop-bound-test.true
    (subst (λ (bound : Bound). ComesFrom (causes bound) c.in_err-rule_out.field-0.0) c.bound-item.is c.in_err-rule_out.ensures.cause))

pub loop-bound-init : goal.loop-bound-init
loop-bound-init c = record {
  none = refl;
  counts = c.in_ok-counts.ensures.items_if_clones_equal (λ y e. e) ∙ all_count c.args.fields.now c.args.groups.now;
}

pub loop-bound-preserved : goal.loop-bound-preserved
loop-bound-preserved c =
    let fields = c.args.fields.now in
    let groups = c.args.groups.now in
    let bounds = c.args.bounds.now in
    let bound = c.bound-item.result in
    let i = c.loop-bound.bound-index in
    let now = c.rule_out.new.counts in
    let counts = c.loop-bound.invariant.counts in
    let long : length now ≡ c.loop-bound.counts.len =
    omega (arith, c.rule_out.ensures.length, c.deref_mut.ensures.len, ap length c.deref_mut.ensures.value, ap length counts, length-map groups (λ group. list_all (group_keeps fields group) (take i bounds))) in
    record {
      none = nothing_more (causes_of_bound fields groups) bounds i bound c.loop-bound-test.true c.bound-item.is c.loop-bound.invariant.none c.in_ok-rule_out.ensures.ok;
      counts = take_at now (drop (length now) c.loop-bound.counts.items) c.loop-bound.counts.len long
          ∙ counts_more fields bounds groups i bound c.deref_mut.result.now now c.loop-bound-test.true c.bound-item.is (c.deref_mut.ensures.value ∙ counts) c.in_ok-rule_out.ensures.counts;
    }

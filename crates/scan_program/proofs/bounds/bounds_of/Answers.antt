use Rattle.std.proofs.Common.{ap, sym, ◌∙◌, ◌+◌, [], map, take, drop, arith}
use Rattle.std.specs.Prelude.{None, if◌then◌else◌}
use Rattle.std.proofs.lemmas.List.Folds.{list_all-map}
use Rattle.scan_program.specs.Parsed.{as_written, bounds_behind}
use Rattle.scan_program.specs.Words.{BoundEnd, all_bounds, has_name}
use Rattle.scan_program.proofs.ItemLemmas.{bound_step, no_more_bounds}
use Rattle.scan_program.proofs.bounds.bounds_of.Goals as goal

pub returns-then-not-name_fields : goal.returns-then-not-name_fields
returns-then-not-name_fields c =
    sym (ap (λ b. if b then all_bounds (map as_written c.args.ends.now) [] c.args.fields.now else None)
    (list_all-map (λ (end : BoundEnd). has_name c.args.fields.now end.name) as_written c.args.ends.now ∙ sym c.name_fields.ensures ∙ c.if-not-name_fields.true))

pub returns-then-not-branch : goal.returns-then-not-branch
returns-then-not-branch c =
    let step = bound_step (map as_written c.args.ends.now) c.loop-i.bounds.items c.push_bound.new.bounds.items c.args.fields.now c.loop-i.i c.index-fields-i.result c.index-fields-i.result
    c.in_ok-push_bound.field-0 c.loop-i-test.true c.index-fields-i.is c.in_ok-push_bound.ensures in
    sym (ap (λ b. if b then all_bounds (map as_written c.args.ends.now) [] c.args.fields.now else None)
    (list_all-map (λ (end : BoundEnd). has_name c.args.fields.now end.name) as_written c.args.ends.now ∙ sym c.name_fields.ensures ∙ c.if-not-name_fields.false)
    ∙ c.loop-i.invariant ∙ step ∙ ap (λ good. if good then bounds_behind (map as_written c.args.ends.now) c.push_bound.new.bounds.items (take (c.loop-i.i + 1) c.args.fields.now) (drop (c.loop-i.i + 1) c.args.fields.now) else None) c.if-not-branch.true)

pub loop-i-preserved : goal.loop-i-preserved
loop-i-preserved c =
    let step = bound_step (map as_written c.args.ends.now) c.loop-i.bounds.items c.push_bound.new.bounds.items c.args.fields.now c.loop-i.i c.index-fields-i.result c.index-fields-i.result
    c.in_ok-push_bound.field-0 c.loop-i-test.true c.index-fields-i.is c.in_ok-push_bound.ensures in
    c.loop-i.invariant ∙ step ∙ ap (λ good. if good then bounds_behind (map as_written c.args.ends.now) c.push_bound.new.bounds.items (take (c.loop-i.i + 1) c.args.fields.now) (drop (c.loop-i.i + 1) c.args.fields.now) else None) c.if-not-branch.false

pub returns : goal.returns
returns c =
    sym (ap (λ b. if b then all_bounds (map as_written c.args.ends.now) [] c.args.fields.now else None)
    (list_all-map (λ (end : BoundEnd). has_name c.args.fields.now end.name) as_written c.args.ends.now ∙ sym c.name_fields.ensures ∙ c.if-not-name_fields.false)
    ∙ c.loop-i.invariant ∙ no_more_bounds (map as_written c.args.ends.now) c.loop-i.bounds.items c.args.fields.now c.loop-i.i (omega arith))

use Rattle.std.proofs.Common.{◌≡◌, ◌-◌, suc, ◌∙◌, true, refl, arith, length}
use Rattle.std.proofs.lemmas.Result.{err_from_is_err_and}
use Rattle.parquet_meta.specs.Tree.{leaves_below}
use Rattle.parquet_meta.proofs.Steps.{refuses-on}
use Rattle.parquet_meta.proofs.TreeLemmas as trees
use Rattle.parquet_meta.proofs.tree.leaves_below.Goals as goal

pub walk-preserved-then-group-eq0 : goal.walk-preserved-then-group-eq0
walk-preserved-then-group-eq0 c =
    trees.closes (leaves_below c.args.children c.args.elements.now) c.pop.new.self.items c.in-Some.group c.walk.columns.items c.walk.rest.now (rw c.in-Some.ensures.items at c.walk.invariant) c.if-group-eq0.true

pub returns-in_err-element : goal.returns-in_err-element
returns-in_err-element c =
    let p = err_from_is_err_and c.from_residual-in_err-element.result c.from_residual-in_err-element.ensures.1 in
    let left : c.in-Some.group.left ≡ suc (c.in-Some.group.left - 1) = omega (arith, c.if-group-eq0.false) in
    let opened : c.len.result ≡ length c.pop.new.self.items = c.len.ensures ∙ c.pop.new.self.ok.0 in
    rw (p.1, p.2) (trees.lacks _ c.pop.new.self.items c.in-Some.group (c.in-Some.group.left - 1) c.walk.columns.items c.walk.rest.now (rw c.in-Some.ensures.items at c.walk.invariant) left
    (rw opened at c.in_err-element.ensures))

pub returns-in_err-leaf-in-Some-physical_type : goal.returns-in_err-leaf-in-Some-physical_type
returns-in_err-leaf-in-Some-physical_type c =
    let p = err_from_is_err_and c.from_residual-in_err-leaf-in-Some-physical_type.result c.from_residual-in_err-leaf-in-Some-physical_type.ensures.1 in
    let left : c.in-Some.group.left ≡ suc (c.in-Some.group.left - 1) = omega (arith, c.if-group-eq0.false) in
    let opened : c.len.result ≡ length c.pop.new.self.items = c.len.ensures ∙ c.pop.new.self.ok.0 in
    rw (p.1, p.2) (refuses-on true _ _ _
    (λ none. trees.leaf_fails _ c.pop.new.self.items c.in-Some.group _ (c.in-Some.group.left - 1) c.walk.columns.items c.walk.rest.now c.in_ok-element.element.now c.in_ok-element.behind.now c.in_ok-element.repetition c.in-Some-physical_type.code
    (rw c.in-Some.ensures.items at c.walk.invariant) left refl refl
    (rw opened at c.in_ok-element.ensures)
    c.in-Some-physical_type.is none)
    (rw (c.as_slice.ensures.value, c.in_ok-push-2.ensures.items) at c.in_err-leaf-in-Some-physical_type.ensures))

pub walk-preserved-in-Continue-branch-5 : goal.walk-preserved-in-Continue-branch-5
walk-preserved-in-Continue-branch-5 c =
    let left : c.in-Some.group.left ≡ suc (c.in-Some.group.left - 1) = omega (arith, c.if-group-eq0.false) in
    let opened : c.len.result ≡ length c.pop.new.self.items = c.len.ensures ∙ c.pop.new.self.ok.0 in
    rw (c.in_ok-push-in-Some-physical_type.ensures.items, c.in_ok-push-2.ensures.items)
    (trees.passes _ c.pop.new.self.items c.in-Some.group _ (c.in-Some.group.left - 1) c.walk.columns.items c.walk.rest.now c.in_ok-element.element.now c.in_ok-element.behind.now c.in_ok-element.repetition c.in-Some-physical_type.code c.in_ok-leaf-in-Some-physical_type.leaf
    (rw c.in-Some.ensures.items at c.walk.invariant) left refl refl
    (rw opened at c.in_ok-element.ensures)
    c.in-Some-physical_type.is (rw (c.as_slice.ensures.value, c.in_ok-push-2.ensures.items) at c.in_ok-leaf-in-Some-physical_type.ensures))

pub walk-preserved : goal.walk-preserved
walk-preserved c =
    let left : c.in-Some.group.left ≡ suc (c.in-Some.group.left - 1) = omega (arith, c.if-group-eq0.false) in
    let opened : c.len.result ≡ length c.pop.new.self.items = c.len.ensures ∙ c.pop.new.self.ok.0 in
    rw (c.in_ok-push-in-None.ensures.items, c.in_ok-push-2.ensures.items)
    (trees.opens _ c.pop.new.self.items c.in-Some.group _ _ (c.in-Some.group.left - 1) c.walk.columns.items c.walk.rest.now c.in_ok-element.element.now c.in_ok-element.behind.now c.in_ok-element.repetition _
    (rw c.in-Some.ensures.items at c.walk.invariant) left refl refl
    (rw opened at c.in_ok-element.ensures)
    c.in-None.is refl refl c.children_of.ensures)

use Rattle.std.proofs.Common.{sym, ◌∙◌, true}
use Rattle.std.proofs.lemmas.Result.{err_from_is_err_and}
use Rattle.parquet_meta.specs.File.{group_of}
use Rattle.parquet_meta.proofs.ListLemmas.{making-goes_on, making-fails, making-ends}
use Rattle.parquet_meta.proofs.Steps.{refuses-on}
use Rattle.parquet_meta.proofs.groups.groups_of.Goals as goal

pub returns-in_err-group_of : goal.returns-in_err-group_of
returns-in_err-group_of c =
    let p = err_from_is_err_and c.from_residual-in_err-group_of.result c.from_residual-in_err-group_of.ensures.1 in
    let steps = rw c.in-Some.is at c.next.ensures.steps in
    rw (p.1, p.2) (refuses-on true _ _ _
    (λ none. making-fails (group_of c.args.leaves.now) c.args.groups.items c.groups.group-iterator.rest.items c.next.new.self.rest.items c.in-Some.group c.groups.found.items c.groups.invariant steps.0 none)
    c.in_err-group_of.ensures)

pub groups-preserved : goal.groups-preserved
groups-preserved c =
    let steps = rw c.in-Some.is at c.next.ensures.steps in
    rw c.in_ok-push.ensures.items
    (making-goes_on (group_of c.args.leaves.now) c.args.groups.items c.groups.group-iterator.rest.items c.next.new.self.rest.items c.in-Some.group c.groups.found.items c.in_ok-group_of.field-0
    c.groups.invariant steps.0 c.in_ok-group_of.ensures)

pub returns : goal.returns
returns c =
    rw c.new.ensures
    (making-ends (group_of c.args.leaves.now) c.args.groups.items c.groups.group-iterator.rest.items c.groups.found.items c.groups.invariant (sym c.groups.group-iterator.rest.ok.0 ∙ c.in-None.ensures.steps.0))

use Rattle.std.proofs.Common.{arith}
use Rattle.std.proofs.lemmas.Result.{err_from_is_err_and}
use Rattle.inspect_program.proofs.GroupLemmas.{group_failed, group_more, groups_told}
use Rattle.inspect_program.proofs.groups.push_groups.Goals as goal

pub returns-in_err-push_group : goal.returns-in_err-push_group
returns-in_err-push_group g c =
    let p = err_from_is_err_and c.from_residual.result c.from_residual.ensures.1 in
    rw (p.1, p.2) (group_failed c.push_group.new.text c.args.singles.now c.args.groups.now c.loop-i.i c.index-groups-i.result c.loop-i-test.true c.index-groups-i.is c.loop-i.invariant c.in_err-push_group.ensures)

pub loop-i-preserved : goal.loop-i-preserved
loop-i-preserved g c =
    group_more tt c.args.singles.now c.args.groups.now c.loop-i.i c.index-groups-i.result c.loop-i-test.true c.index-groups-i.is c.loop-i.invariant c.in_ok-push_group.ensures

pub returns : goal.returns
returns g c = groups_told c.args.singles.now c.args.groups.now c.loop-i.i (omega arith) c.loop-i.invariant

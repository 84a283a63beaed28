use Rattle.inspect_program.proofs.GroupLemmas.{group_told}
use Rattle.inspect_program.proofs.groups.push_group.Goals as goal

pub returns : goal.returns
returns g c =
    group_told c.args.singles.now c.args.number c.args.group.now c.args.text.now c.push_group_line.new.text c.push_chunks.new.text c.push_chunks.result c.in_ok-push_group_line.ensures c.push_chunks.ensures

use Rattle.parquet_read.proofs.GroupListLemmas.{all_lists_each, all_lists_not}
use Rattle.parquet_read.proofs.groups_left.has_lists.Goals as goal

pub returns-then-are_so_many : goal.returns-then-are_so_many
returns-then-are_so_many c = all_lists_each c.args.groups c.args.fields c.args.all.now c.are_so_many.result c.has_lists_each.result c.are_so_many.ensures c.if-are_so_many.true c.has_lists_each.ensures

pub returns-else-are_so_many : goal.returns-else-are_so_many
returns-else-are_so_many c = all_lists_not c.args.groups c.args.fields c.args.all.now c.are_so_many.result c.are_so_many.ensures c.if-are_so_many.false

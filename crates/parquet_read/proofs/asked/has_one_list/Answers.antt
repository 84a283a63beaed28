use Rattle.parquet_read.proofs.ListLemmas.{one_list_each, other_lists}
use Rattle.parquet_read.proofs.asked.has_one_list.Goals as goal

pub returns-then-are_so_many : goal.returns-then-are_so_many
returns-then-are_so_many c = one_list_each c.args.fields c.args.lists.now c.are_so_many.result c.are_single.result c.are_so_many.ensures c.if-are_so_many.true c.are_single.ensures

pub returns-else-are_so_many : goal.returns-else-are_so_many
returns-else-are_so_many c = other_lists c.args.fields c.args.lists.now c.are_so_many.result c.are_so_many.ensures c.if-are_so_many.false

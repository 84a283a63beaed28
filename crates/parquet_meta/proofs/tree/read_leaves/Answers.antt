use Rattle.std.proofs.Common.{ap}
use Rattle.parquet_meta.specs.Tree.{leaves}
use Rattle.parquet_meta.proofs.ListLemmas.{first-is, none-there}
use Rattle.parquet_meta.proofs.TreeLemmas.{below_first}
use Rattle.parquet_meta.proofs.tree.read_leaves.Goals as goal

pub returns-in_default : goal.returns-in_default
unfolding leaves
returns-in_default c = ap leaves (none-there c.args.elements.now c.in_default.len_below)

pub returns-in-Some : goal.returns-in-Some
returns-in-Some c =
    below_first c.args.elements.now c.root-item.result _ _ (first-is c.args.elements.now c.root-item.result c.in-len1-up.len_at_least c.root-item.is) c.in-Some.is

pub returns-in-None : goal.returns-in-None
returns-in-None c =
    let is = below_first c.args.elements.now c.root-item.result _ _ (first-is c.args.elements.now c.root-item.result c.in-len1-up.len_at_least c.root-item.is) c.in-None.is in
    rw is (rw c.children_of.ensures at c.leaves_below.ensures)

use Rattle.std.proofs.Common.{◌+◌, ◌*◌, length}
use Rattle.parquet_meta.specs.Tree.{leaves_below}
use Rattle.parquet_meta.proofs.TreeLemmas.{IsWalking}
use Rattle.parquet_meta.proofs.tree.leaves_below.Given as goal

abbrev pub invariant-walk : goal.invariant-walk
invariant-walk l = IsWalking (leaves_below l.fn.children l.fn.elements) l.groups.items l.columns.items l.rest

abbrev pub decreases-walk : goal.decreases-walk
decreases-walk l = 2 * length l.rest + length l.groups.items

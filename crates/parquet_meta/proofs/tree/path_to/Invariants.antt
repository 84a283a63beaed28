use Rattle.std.proofs.Common.{◌≡◌, take}
use Rattle.parquet_meta.specs.OpenGroups.{path_of}
use Rattle.parquet_meta.proofs.tree.path_to.Given as goal

abbrev pub invariant-names : goal.invariant-names
invariant-names l = l.path.items ≡ path_of (take l.group-index l.groups)

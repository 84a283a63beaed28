use Rattle.std.proofs.Common.{◌≡◌, take}
use Rattle.columns_core.proofs.same_array.has_same_cells.Given as goal

abbrev pub invariant-loop-i : goal.invariant-loop-i
invariant-loop-i g l = take l.i (g.A.Columnar.shown l.a).1 ≡ take l.i (g.A.Columnar.shown l.b).1

use Rattle.std.proofs.Common.{◌≡◌, false, take}
use Rattle.std.specs.List.{list_any}
use Rattle.columns_core.specs.Array.{cells}
use Rattle.put_program.specs.Request.{is_null_cell}
use Rattle.put_program.proofs.request.has_null.Given as goal

abbrev pub invariant-loop-row : goal.invariant-loop-row
invariant-loop-row l = list_any is_null_cell (take l.row (cells l.array)) ≡ false

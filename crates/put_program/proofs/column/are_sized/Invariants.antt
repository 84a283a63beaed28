use Rattle.std.proofs.Common.{◌≡◌, true, take}
use Rattle.std.specs.List.{list_all}
use Rattle.put_program.specs.Request.{is_sized}
use Rattle.put_program.proofs.column.are_sized.Given as goal

abbrev pub invariant-loop-row : goal.invariant-loop-row
invariant-loop-row l = list_all (is_sized l.size) (take l.row l.array.items) ≡ true

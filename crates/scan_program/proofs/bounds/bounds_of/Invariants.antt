use Rattle.std.proofs.Common.{◌≡◌, drop, take, map, []}
use Rattle.scan_program.specs.Words.{all_bounds}
use Rattle.scan_program.specs.Parsed.{as_written, bounds_behind}
use Rattle.scan_program.proofs.bounds.bounds_of.Given as goal

-- the bounds so far stand in front of those of the fields that are left
abbrev pub invariant-loop-i : goal.invariant-loop-i
invariant-loop-i l =
    all_bounds (map as_written l.ends) [] l.fields ≡ bounds_behind (map as_written l.ends) l.bounds.items (take l.i l.fields) (drop l.i l.fields)

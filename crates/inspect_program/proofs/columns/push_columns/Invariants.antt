use Rattle.std.proofs.Common.{◌≡◌, ◌++◌, drop}
use Rattle.std.specs.Prelude.{flat_map}
use Rattle.std.specs.List.{enumerate_from}
use Rattle.inspect_program.specs.Columns.{column_line}
use Rattle.inspect_program.proofs.columns.push_columns.Given as goal

-- the text and the lines of the columns that are left are the whole
abbrev pub invariant-loop-i : goal.invariant-loop-i
invariant-loop-i l =
    l.text ++ flat_map (column_line l.columns) (enumerate_from l.i (drop l.i l.columns))
    ≡ l.initial.text ++ flat_map (column_line l.columns) (enumerate_from 0 l.columns)

use Rattle.std.proofs.Common.{◌≡◌, ◌++◌, drop}
use Rattle.std.specs.Prelude.{flat_map, zip}
use Rattle.inspect_program.specs.Pages.{page_line}
use Rattle.inspect_program.proofs.pages.push_lines.Given as goal

-- the text and the lines of the pages that are left are the whole
abbrev pub invariant-loop-i : goal.invariant-loop-i
invariant-loop-i l =
    l.text ++ flat_map (page_line l.number) (zip (drop l.i l.rows) (drop l.i l.ends))
    ≡ l.initial.text ++ flat_map (page_line l.number) (zip l.rows l.ends)

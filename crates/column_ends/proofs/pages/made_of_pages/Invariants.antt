use Rattle.std.proofs.Common.{◌≡◌, ◌++◌, [], drop, map, take}
use Rattle.std.specs.List.{enumerate_from}
use Rattle.column_ends.specs.ByRule.{each_by, each_causes_by}
use Rattle.column_ends.specs.Converted.{each_made, high_of_page, low_of_page}
use Rattle.column_ends.specs.Counted.{bytes_of_ends}
use Rattle.column_ends.specs.Told.{stored_page}
use Rattle.column_ends.proofs.pages.made_of_pages.Given as goal

-- What is made of those so far stands in front of what is made of those that are left; they are without a cause, and their bytes are counted.
abbrev pub invariant-loop-i : goal.invariant-loop-i
invariant-loop-i g l =
    let stored = map (stored_page g.E.StoredEnd.stored) in
    let make = g.M.FromEnds.made l.of in
    let before = each_by l.rule (stored (take l.i l.pages)) in
    record {
      made : each_made make (each_by l.rule (stored l.pages)) ≡ l.made.items ++ map make (enumerate_from l.i (each_by l.rule (stored (drop l.i l.pages))));
      fine : each_causes_by l.rule (stored (take l.i l.pages)) ≡ [];
      bytes : l.bytes ≡ bytes_of_ends (map low_of_page before) (map high_of_page before);
    }

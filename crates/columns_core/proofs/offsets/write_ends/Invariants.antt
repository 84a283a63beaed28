use Rattle.std.proofs.Common.{◌≡◌, ◌≤◌, [], drop, length, map, take}
use Rattle.columns_core.proofs.OffsetLemmas.{EndsLeft}
use Rattle.columns_core.proofs.offsets.write_ends.Given as goal

-- the ends of the lengths so far were written
abbrev pub invariant-loop-i : goal.invariant-loop-i
invariant-loop-i g l =
    let value = g.O.Offset.value in
    record {
      ends : EndsLeft [] (value l.fn.start) l.fn.lengths (map value (take l.i l.ends)) (value l.end) (drop l.i l.fn.lengths);
      fits : value l.fn.start ≤ g.O.Offset.greatest → value l.end ≤ g.O.Offset.greatest;
      same : length l.ends ≡ length l.fn.ends;
    }

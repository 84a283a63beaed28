use Rattle.std.proofs.Common.{◌++◌, drop, map}
use Rattle.std.specs.List.{enumerate_from, flat_map}
use Rattle.parquet_scan.specs.Scan.{kept_of}
use Rattle.pq_common.proofs.TakenLemmas.{Leaves}
use Rattle.scan_program.specs.Report.{group_line}
use Rattle.scan_program.proofs.groups.push_groups.Given as goal

-- what is held and the lines of the groups that are left are not yet written
abbrev pub invariant-loop-i : goal.invariant-loop-i
invariant-loop-i g l =
    Leaves g.K.Sink l.initial.out l.out (l.initial.block ++ flat_map group_line (enumerate_from 0 (map kept_of l.kept)))
    (l.block ++ flat_map group_line (enumerate_from l.i (map kept_of (drop l.i l.kept))))

use Rattle.std.proofs.Common.{◌++◌, codes, drop}
use Rattle.std.specs.List.{flat_map}
use Rattle.pq_common.proofs.TakenLemmas.{Leaves}
use Rattle.scan_program.specs.Report.{interval_text}
use Rattle.scan_program.proofs.groups.push_others.Given as goal

-- what is held and the runs that are left are not yet written
abbrev pub invariant-loop-run : goal.invariant-loop-run
invariant-loop-run g l =
    Leaves g.K.Sink l.initial.out l.out (l.initial.block ++ flat_map (λ run. codes " " ++ interval_text run) l.runs)
    (l.block ++ flat_map (λ run. codes " " ++ interval_text run) (drop l.run-index l.runs))

use Rattle.parquet_scan.specs.Scan.{kept_of}
use Rattle.pq_common.proofs.TakenLemmas.{piece_refused, piece_taken}
use Rattle.scan_program.specs.Report.{group_line}
use Rattle.scan_program.proofs.ReportLemmas.{numbered_left}
use Rattle.scan_program.proofs.groups.push_groups.Goals as goal

pub returns-in_err-push_group : goal.returns-in_err-push_group
returns-in_err-push_group g c =
    piece_refused g.K.Sink _ _ _ _ c.loop-i.block _ _ _ _ _ _ _ c.from_residual.ensures.0
    (numbered_left group_line kept_of c.args.kept.now c.loop-i.i c.index-kept-i.result c.loop-i-test.true c.index-kept-i.is) c.loop-i.invariant c.in_err-push_group.ensures

pub loop-i-preserved : goal.loop-i-preserved
loop-i-preserved g c =
    piece_taken g.K.Sink _ _ _ _ c.loop-i.block _ _ _ _ _
    (numbered_left group_line kept_of c.args.kept.now c.loop-i.i c.index-kept-i.result c.loop-i-test.true c.index-kept-i.is) c.loop-i.invariant c.in_ok-push_group.ensures

use Rattle.std.proofs.Common.{ℕ, List, ◌++◌, subst}
use Rattle.std.proofs.lemmas.Result.{on_err_weaker}
use Rattle.pq_common.specs.Written.{IsAppendedBut}
use Rattle.pq_common.proofs.Appended.{front_behind}
use Rattle.scan_program.specs.Program.{report_of}
use Rattle.scan_program.proofs.report.write_report.Goals as goal

pub returns-clause-err : goal.returns-clause-err
returns-clause-err g c =
    let written = g.K.Sink.written in
    let report = report_of c.args.scanned.now.summary c.args.scanned.now.scan in
    let taken = subst (λ (front : List ℕ). IsAppendedBut (written c.args.out.now) (written c.push_report.new.out) (front ++ report) c.push_report.new.block)
    c.new-block.ensures c.in_ok-push_report.ensures.ok in
    on_err_weaker c.flush.result (front_behind _ _ _ report _ taken) c.flush.ensures.taken.err

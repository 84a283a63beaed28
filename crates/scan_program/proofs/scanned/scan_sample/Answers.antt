use Rattle.std.proofs.Common.{rules}
use Rattle.scan_program.proofs.ScanLemmas.{nothing_taken}
use Rattle.scan_program.proofs.scanned.scan_sample.Goals as goal

pub returns-clause-costs : goal.returns-clause-costs
returns-clause-costs g c taken =
    let costs = nothing_taken _ _ _ _ _ _ c.scan_source.result taken c.scan_source.ensures.costs in
    search rules

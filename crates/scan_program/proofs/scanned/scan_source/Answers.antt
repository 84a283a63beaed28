use Rattle.std.proofs.Common.{List, subst}
use Rattle.std.specs.Prelude.{IfOk}
use Rattle.parquet_scan.specs.Scan.{ScanCosts, request_of}
use Rattle.parquet_scan.specs.declared.bound.Bound.{Bound}
use Rattle.scan_program.proofs.scanned.scan_source.Goals as goal

pub returns-clause-costs : goal.returns-clause-costs
returns-clause-costs g c =
    let asked = c.args.asked.now in
    let P : List Bound → Type 0 = λ bounds. IfOk c.scan_where.result (λ _. ScanCosts (request_of asked.schema bounds asked.chunk_size asked.limit) (g.S.Source.told c.args.source.now)
    c.args.steps.now c.scan_where.new.steps (g.S.Source.taken c.args.source.now) (g.S.Source.taken c.scan_where.new.source)) in
    subst P c.as_slice.ensures c.scan_where.ensures.costs

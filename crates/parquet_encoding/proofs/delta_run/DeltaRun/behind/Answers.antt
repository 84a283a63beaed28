use Rattle.std.proofs.Common.{◌+◌, ◌-◌, ◌*◌, ◌∙◌, ap, arith, FitsSigned, rules}
use Rattle.std.specs.Int.{w64}
use Rattle.parquet_encoding.proofs.SumLemmas.{same_number}
use Rattle.parquet_encoding.proofs.DeltaRunLemmas.{packed_deltas, drop-deltas}
use Rattle.parquet_encoding.proofs.delta_run.DeltaRun.behind.Goals as goal

pub returns-clause-deltas : goal.returns-clause-deltas
returns-clause-deltas c bytes =
    let run = c.args.self.now in
    let fits : FitsSigned w64 run.least = search rules in
    let place = 8 * c.moved-place.result.0 + c.moved-place.result.1 in
    ap (λ least. packed_deltas least bytes run.width place (run.count - c.args.n)) (same_number run.least fits)
    ∙ drop-deltas run.least bytes run.width (8 * run.place + run.bit) c.args.n run.count place (omega arith)

pub returns-clause-least : goal.returns-clause-least
returns-clause-least c =
    let fits : FitsSigned w64 c.args.self.now.least = search rules in
    same_number c.args.self.now.least fits

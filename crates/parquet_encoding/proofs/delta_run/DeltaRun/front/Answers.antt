use Rattle.std.proofs.Common.{◌+◌, ◌*◌, ◌∙◌, ap, FitsSigned, rules}
use Rattle.std.specs.Int.{w64}
use Rattle.parquet_encoding.proofs.SumLemmas.{same_number}
use Rattle.parquet_encoding.proofs.DeltaRunLemmas.{packed_deltas, take-deltas}
use Rattle.parquet_encoding.proofs.delta_run.DeltaRun.front.Goals as goal

pub returns-clause-deltas : goal.returns-clause-deltas
returns-clause-deltas c bytes =
    let run = c.args.self.now in
    let fits : FitsSigned w64 run.least = search rules in
    ap (λ least. packed_deltas least bytes run.width (8 * run.place + run.bit) c.args.n) (same_number run.least fits)
    ∙ take-deltas run.least bytes run.width (8 * run.place + run.bit) c.args.n run.count c.requires

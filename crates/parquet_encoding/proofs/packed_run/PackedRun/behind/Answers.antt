use Rattle.std.proofs.Common.{◌≡◌, ◌+◌, ◌*◌, ◌-◌, ◌∙◌, sym, ap, arith}
use Rattle.parquet_encoding.specs.Bits.{packed}
use Rattle.parquet_encoding.proofs.BitsLemmas.{drop-packed}
use Rattle.parquet_encoding.proofs.packed_run.PackedRun.behind.Goals as goal

pub returns-clause-values : goal.returns-clause-values
returns-clause-values c bytes =
    let run = c.args.self.now in
    let moved : 8 * c.moved-place.result.0 + c.moved-place.result.1 ≡ 8 * run.place + run.bit + c.args.n * run.width = omega arith in
    ap (λ p. packed bytes run.width p (run.count - c.args.n)) moved ∙ sym (drop-packed c.args.n bytes run.width (8 * run.place + run.bit) run.count)

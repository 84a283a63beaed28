use Rattle.std.proofs.Common.{◌+◌, ◌*◌, ◌≤◌, ◌∙◌, ap, sym, take, arith}
use Rattle.std.proofs.lemmas.List.{take-replicate}
use Rattle.parquet_encoding.specs.HybridRun.{count_of, run_values}
use Rattle.parquet_encoding.proofs.BitsLemmas.{take-packed}
use Rattle.parquet_encoding.proofs.run.HybridRun.front.Goals as goal

pub returns-in-Packed-clause-values : goal.returns-in-Packed-clause-values
returns-in-Packed-clause-values c bytes =
    let run = c.in-Packed.run' in
    let few : c.args.n ≤ run.count = omega (arith, ap count_of c.in-Packed.is) in
    sym (take-packed c.args.n bytes run.width (8 * run.place + run.bit) run.count few)
    ∙ ap (λ whole. take c.args.n (run_values whole bytes)) (sym c.in-Packed.is)

pub returns-in-Repeated-clause-values : goal.returns-in-Repeated-clause-values
returns-in-Repeated-clause-values c bytes =
    let few : c.args.n ≤ c.in-Repeated.count = omega (arith, ap count_of c.in-Repeated.is) in
    sym (take-replicate c.args.n c.in-Repeated.count c.in-Repeated.value few)
    ∙ ap (λ whole. take c.args.n (run_values whole bytes)) (sym c.in-Repeated.is)

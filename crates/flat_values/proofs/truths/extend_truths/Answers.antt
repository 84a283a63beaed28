use Rattle.std.proofs.Common.{◌∙◌, ◌++◌, ap, arith}
use Rattle.flat_values.proofs.TruthLemmas.{bits_behind}
use Rattle.flat_values.proofs.truths.extend_truths.Goals as goal

pub returns-clause-added : goal.returns-clause-added
returns-clause-added c =
    let run = c.take-run.result in
    c.in_ok-extend_from_slice.ensures.ok
    ∙ ap (λ more. c.args.into.now ++ more) (bits_behind c.args.bytes.now run.place run.bit run.width run.count (λ i. omega (arith, c.type_inv.bytes i)) c.take-run.ensures.bits ∙ c.take-run.ensures.values)

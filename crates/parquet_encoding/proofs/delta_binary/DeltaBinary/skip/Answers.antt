use Rattle.std.proofs.Common.{◌∙◌, ap, drop, Some, FitsSigned, rules}
use Rattle.std.specs.Int.{w64}
use Rattle.parquet_encoding.specs.DeltaBinary.{running_sums}
use Rattle.parquet_encoding.specs.DeltaLeft.{delta_left}
use Rattle.parquet_encoding.specs.DeltaWalk.{deltas}
use Rattle.parquet_encoding.proofs.SumLemmas.{same_number}
use Rattle.parquet_encoding.proofs.RunningLemmas.{has_deltas, numbers_are, none_dropped}
use Rattle.parquet_encoding.proofs.delta_binary.DeltaBinary.skip.Goals as goal

pub returns-in_default-clause-rest : goal.returns-in_default-clause-rest
unfolding delta_left
returns-in_default-clause-rest c = none_dropped c.args.self.now.value _ c.args.n c.in_default.is

pub value_behind-self-requires : goal.value_behind-self-requires
unfolding delta_left
value_behind-self-requires c = has_deltas c.args.self.now.value c.in-Some.value _ c.in-Some.is c.requires

pub returns-clause-rest : goal.returns-clause-rest
unfolding delta_left
returns-clause-rest c =
    let fits : FitsSigned w64 c.in-Some.value = search rules in
    c.value_behind-self.ensures
    ∙ ap (λ v. Some (drop c.args.n (running_sums v (deltas c.args.self.now.deltas c.args.bytes.now)))) (same_number c.in-Some.value fits)
    ∙ ap (λ values. Some (drop c.args.n values)) (numbers_are c.args.self.now.value c.in-Some.value _ c.in-Some.is c.requires)

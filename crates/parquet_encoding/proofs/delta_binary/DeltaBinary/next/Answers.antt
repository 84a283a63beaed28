use Rattle.std.proofs.Common.{◌∙◌, ap, sym, drop, [], Some, FitsSigned, rules}
use Rattle.std.specs.Int.{w64}
use Rattle.std.specs.Prelude.{slice_get, unwrap_or}
use Rattle.parquet_encoding.specs.DeltaBinary.{running_sums}
use Rattle.parquet_encoding.specs.DeltaLeft.{delta_left}
use Rattle.parquet_encoding.specs.DeltaWalk.{deltas}
use Rattle.parquet_encoding.proofs.SumLemmas.{same_number}
use Rattle.parquet_encoding.proofs.RunningLemmas.{front_is, has_deltas, numbers_are, numbers_none}
use Rattle.parquet_encoding.proofs.delta_binary.DeltaBinary.next.Goals as goal

pub returns-in_err-value-clause-value : goal.returns-in_err-value-clause-value
unfolding delta_left
returns-in_err-value-clause-value c =
    c.from_residual.ensures ∙ ap (λ o. slice_get (unwrap_or o []) 0) (sym (numbers_none c.args.self.now.value _ c.in_err-value.was))

pub returns-in_err-value-clause-rest : goal.returns-in_err-value-clause-rest
unfolding delta_left
returns-in_err-value-clause-rest c =
    let none = numbers_none c.args.self.now.value _ c.in_err-value.was in
    none ∙ ap (λ o. Some (drop 1 (unwrap_or o []))) (sym none)

pub next_value-self-requires : goal.next_value-self-requires
unfolding delta_left
next_value-self-requires c = has_deltas c.args.self.now.value c.in_ok-value.value _ c.in_ok-value.was c.requires

pub returns-clause-value : goal.returns-clause-value
unfolding delta_left
returns-clause-value c =
    let fits : FitsSigned w64 c.in_ok-value.value = search rules in
    front_is c.args.self.now.value c.in_ok-value.value _ _ c.in_ok-value.was (same_number c.in_ok-value.value fits) c.requires

pub returns-clause-rest : goal.returns-clause-rest
unfolding delta_left
returns-clause-rest c =
    let fits : FitsSigned w64 c.in_ok-value.value = search rules in
    c.next_value-self.ensures
    ∙ ap (λ v. Some (drop 1 (running_sums v (deltas c.args.self.now.deltas c.args.bytes.now)))) (same_number c.in_ok-value.value fits)
    ∙ ap (λ values. Some (drop 1 values)) (numbers_are c.args.self.now.value c.in_ok-value.value _ c.in_ok-value.was c.requires)

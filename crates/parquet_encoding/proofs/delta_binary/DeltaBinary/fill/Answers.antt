use Rattle.std.proofs.Common.{◌≡◌, ◌++◌, ◌∙◌, ap, min, length, take, drop, [], Some, unwrap_or, arith, FitsSigned, rules}
use Rattle.std.specs.Int.{w64}
use Rattle.parquet_encoding.specs.DeltaBinary.{running_sums}
use Rattle.parquet_encoding.specs.DeltaLeft.{delta_left, numbers}
use Rattle.parquet_encoding.specs.DeltaWalk.{deltas}
use Rattle.parquet_encoding.proofs.SumLemmas.{same_number}
use Rattle.parquet_encoding.proofs.RunningLemmas.{has_deltas, numbers_are, numbers_none}
use Rattle.parquet_encoding.proofs.delta_binary.DeltaBinary.fill.Goals as goal

pub returns-in_default-clause-count : goal.returns-in_default-clause-count
unfolding delta_left
returns-in_default-clause-count c =
    let none : length (numbers c.args.self.now c.args.bytes.now) ≡ 0 = ap (λ o. length (unwrap_or o [])) (numbers_none c.args.self.now.value _ c.in_default.is) in
    omega arith

pub write_values-count-requires : goal.write_values-count-requires
unfolding delta_left
write_values-count-requires c = has_deltas c.args.self.now.value c.in-Some.value _ c.in-Some.is c.requires

pub returns-clause-count : goal.returns-clause-count
unfolding delta_left
returns-clause-count c =
    let fits : FitsSigned w64 c.in-Some.value = search rules in
    c.write_values-count.ensures.count
    ∙ ap (λ values. min (length c.args.out.now) (length values))
    (ap (λ v. running_sums v (deltas c.args.self.now.deltas c.args.bytes.now)) (same_number c.in-Some.value fits) ∙ numbers_are c.args.self.now.value c.in-Some.value _ c.in-Some.is c.requires)

pub returns-clause-values : goal.returns-clause-values
unfolding delta_left
returns-clause-values c =
    let fits : FitsSigned w64 c.in-Some.value = search rules in
    let n = c.write_values-count.result.0 in
    c.write_values-count.ensures.values
    ∙ ap (λ values. take n values ++ drop n c.args.out.now)
    (ap (λ v. running_sums v (deltas c.args.self.now.deltas c.args.bytes.now)) (same_number c.in-Some.value fits) ∙ numbers_are c.args.self.now.value c.in-Some.value _ c.in-Some.is c.requires)

pub returns-clause-rest : goal.returns-clause-rest
unfolding delta_left
returns-clause-rest c =
    let fits : FitsSigned w64 c.in-Some.value = search rules in
    c.write_values-count.ensures.rest
    ∙ ap (λ values. Some (drop c.write_values-count.result.0 values))
    (ap (λ v. running_sums v (deltas c.args.self.now.deltas c.args.bytes.now)) (same_number c.in-Some.value fits) ∙ numbers_are c.args.self.now.value c.in-Some.value _ c.in-Some.is c.requires)

use Rattle.std.proofs.Common.{◌∙◌, sym, ap, drop, Some, arith}
use Rattle.parquet_encoding.specs.DeltaBinary.{delta_binary}
use Rattle.parquet_encoding.specs.DeltaLeft.{delta_left}
use Rattle.parquet_encoding.specs.DeltaLength.{delta_length, delta_length_places}
use Rattle.parquet_encoding.specs.JoinedLeft.{joined_left}
use Rattle.parquet_encoding.proofs.StepLemmas.{not_ok}
use Rattle.parquet_encoding.proofs.JoinedLemmas.{joined_is, joined_exact, joined_counted, no_lengths}
use Rattle.parquet_encoding.proofs.delta_length.DeltaLength.try_new.Goals as goal

pub returns-in_err-lengths-clause-exact : goal.returns-in_err-lengths-clause-exact
unfolding delta_length
returns-in_err-lengths-clause-exact c = not_ok _ c.from_residual.ensures.0 ∙ sym (no_lengths (delta_binary c.args.count c.args.bytes.now) (sym c.in_err-lengths.ensures.exact))

pub returns-in_err-check_lengths-clause-exact : goal.returns-in_err-check_lengths-clause-exact
unfolding delta_length
returns-in_err-check_lengths-clause-exact c =
    not_ok _ c.from_residual-in_err-check_lengths.ensures.0
    ∙ c.in_err-check_lengths.ensures
    ∙ sym (joined_exact (delta_binary c.args.count c.args.bytes.now) (delta_left c.in_ok-lengths.lengths c.args.bytes.now) c.end-next.result c.args.bytes.now c.in_ok-lengths.ensures.values (c.in_ok-lengths.ensures.end ∙ ap (λ n. Some (drop n c.args.bytes.now)) (sym c.end-next.ensures)))

pub returns-clause-values : goal.returns-clause-values
unfolding delta_length_places joined_left
returns-clause-values c =
    joined_is (delta_binary c.args.count c.args.bytes.now) (delta_left c.in_ok-lengths.lengths c.args.bytes.now) c.end-next.result c.args.bytes.now c.in_ok-lengths.ensures.values (c.in_ok-lengths.ensures.end ∙ ap (λ n. Some (drop n c.args.bytes.now)) (sym c.end-next.ensures)) (omega (arith, c.in_ok-lengths.ensures.within, c.end-next.ensures))

pub returns-clause-exact : goal.returns-clause-exact
unfolding delta_length
returns-clause-exact c =
    c.in_ok-check_lengths.ensures
    ∙ sym (joined_exact (delta_binary c.args.count c.args.bytes.now) (delta_left c.in_ok-lengths.lengths c.args.bytes.now) c.end-next.result c.args.bytes.now c.in_ok-lengths.ensures.values (c.in_ok-lengths.ensures.end ∙ ap (λ n. Some (drop n c.args.bytes.now)) (sym c.end-next.ensures)))

pub returns-clause-counted : goal.returns-clause-counted
unfolding joined_left
returns-clause-counted c =
    joined_counted (delta_binary c.args.count c.args.bytes.now) (delta_left c.in_ok-lengths.lengths c.args.bytes.now) c.end-next.result c.args.count c.args.bytes.now c.in_ok-lengths.ensures.values (c.in_ok-lengths.ensures.end ∙ ap (λ n. Some (drop n c.args.bytes.now)) (sym c.end-next.ensures)) (omega (arith, c.in_ok-lengths.ensures.within, c.end-next.ensures))
    (joined_exact (delta_binary c.args.count c.args.bytes.now) (delta_left c.in_ok-lengths.lengths c.args.bytes.now) c.end-next.result c.args.bytes.now c.in_ok-lengths.ensures.values (c.in_ok-lengths.ensures.end ∙ ap (λ n. Some (drop n c.args.bytes.now)) (sym c.end-next.ensures)) ∙ sym c.in_ok-check_lengths.ensures)
    c.in_ok-lengths.ensures.counted

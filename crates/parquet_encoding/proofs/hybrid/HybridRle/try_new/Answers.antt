use Rattle.std.proofs.Common.{◌∙◌, sym, ap, length, arith}
use Rattle.std.specs.Prelude.{is_some}
use Rattle.std.proofs.lemmas.List.{length-replicate}
use Rattle.parquet_encoding.specs.HybridRun.{run_left}
use Rattle.parquet_encoding.specs.HybridLeft.{hybrid_left}
use Rattle.parquet_encoding.proofs.HybridLemmas.{no_bits, too_wide, has_runs, all_behind, all_here, counted}
use Rattle.parquet_encoding.proofs.StepLemmas.{not_ok}
use Rattle.parquet_encoding.proofs.hybrid.HybridRle.try_new.Goals as goal

pub returns-then-width-eq0-clause-values : goal.returns-then-width-eq0-clause-values
unfolding hybrid_left run_left
returns-then-width-eq0-clause-values c = all_here _ c.args.width c.args.count _ ∙ sym (no_bits c.args.bytes.now c.args.width c.args.count c.if-width-eq0.true)

pub returns-then-width-eq0-clause-exact : goal.returns-then-width-eq0-clause-exact
returns-then-width-eq0-clause-exact c = sym (ap is_some (no_bits c.args.bytes.now c.args.width c.args.count c.if-width-eq0.true))

pub returns-then-width-gt-MOST_BITS-clause-exact : goal.returns-then-width-gt-MOST_BITS-clause-exact
returns-then-width-gt-MOST_BITS-clause-exact c = sym (ap is_some (too_wide c.args.bytes.now c.args.width c.args.count c.if-width-gt-MOST_BITS.true))

pub returns-in_err-check_runs-clause-exact : goal.returns-in_err-check_runs-clause-exact
returns-in_err-check_runs-clause-exact c = not_ok _ c.from_residual.ensures.0 ∙ c.in_err-check_runs.ensures ∙ sym (ap is_some (has_runs c.args.bytes.now c.args.width c.args.count (omega arith) c.if-width-gt-MOST_BITS.false))

pub returns-clause-values : goal.returns-clause-values
unfolding hybrid_left run_left
returns-clause-values c = all_behind c.args.bytes.now c.args.width c.args.count ∙ sym (has_runs c.args.bytes.now c.args.width c.args.count (omega arith) c.if-width-gt-MOST_BITS.false)

pub returns-clause-exact : goal.returns-clause-exact
returns-clause-exact c = c.in_ok-check_runs.ensures ∙ sym (ap is_some (has_runs c.args.bytes.now c.args.width c.args.count (omega arith) c.if-width-gt-MOST_BITS.false))

pub returns-then-width-eq0-clause-counted : goal.returns-then-width-eq0-clause-counted
unfolding hybrid_left run_left
returns-then-width-eq0-clause-counted c = rw (all_here (length c.args.bytes.now) c.args.width c.args.count c.args.bytes.now) (length-replicate c.args.count 0)

pub returns-clause-counted : goal.returns-clause-counted
unfolding hybrid_left run_left
returns-clause-counted c =
    rw (all_behind c.args.bytes.now c.args.width c.args.count) (counted (length c.args.bytes.now) c.args.width c.args.bytes.now c.args.count (sym c.in_ok-check_runs.ensures))

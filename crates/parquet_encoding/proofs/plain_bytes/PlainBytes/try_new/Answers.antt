use Rattle.std.proofs.Common.{◌≡◌, ◌+◌, ◌-◌, ◌∙◌, sym, ap, drop, arith}
use Rattle.std.specs.Prelude.{is_some}
use Rattle.parquet_encoding.specs.Plain.{plain_bytes}
use Rattle.parquet_encoding.specs.PlainLeft.{strings_left}
use Rattle.parquet_encoding.proofs.StepLemmas.{not_ok}
use Rattle.parquet_encoding.proofs.StringLemmas.{walks_on, walk_stops, walk_ends, walk_ends_early, begins_strings, begins_somewhere, length-strings}
use Rattle.parquet_encoding.proofs.WalkLemmas.{of_some}
use Rattle.parquet_encoding.proofs.plain_bytes.PlainBytes.try_new.Goals as goal

pub returns-in_err-place-clause-exact : goal.returns-in_err-place-clause-exact
returns-in_err-place-clause-exact c =
    not_ok _ c.from_residual.ensures.0
    ∙ sym (walk_stops (drop c.loop.end c.args.bytes.now) (c.args.count - c.loop.counter) (omega arith) c.in_err-place.ensures.err) ∙ c.loop.invariant.same

pub loop-preserved : goal.loop-preserved
loop-preserved c =
    let bytes = c.args.bytes.now in
    let one : c.args.count - (c.loop.counter + 1) ≡ c.args.count - c.loop.counter - 1 = omega arith in
    record {
      within = c.in_ok-place.ensures.ok.within;
      same = ap (λ n. is_some (plain_bytes (drop (c.in_ok-place.place.0 + c.in_ok-place.place.1) bytes) n)) one
          ∙ walks_on bytes c.loop.end (c.args.count - c.loop.counter) c.in_ok-place.place (omega arith) c.in_ok-place.ensures.ok ∙ c.loop.invariant.same;
    }

pub returns-then-end-bytes-clause-exact : goal.returns-then-end-bytes-clause-exact
returns-then-end-bytes-clause-exact c =
    sym (walk_ends_early c.args.bytes.now c.loop.end (c.args.count - c.loop.counter) (omega arith) (omega arith)) ∙ c.loop.invariant.same

pub returns-clause-values : goal.returns-clause-values
unfolding strings_left
returns-clause-values c = begins_strings c.args.count c.args.bytes.now

pub returns-clause-exact : goal.returns-clause-exact
returns-clause-exact c =
    sym (walk_ends c.args.bytes.now c.loop.end (c.args.count - c.loop.counter) (omega arith) (omega arith)) ∙ c.loop.invariant.same

pub returns-clause-counted : goal.returns-clause-counted
unfolding strings_left
returns-clause-counted c =
    let spelled = sym (walk_ends c.args.bytes.now c.loop.end (c.args.count - c.loop.counter) (omega arith) (omega arith)) ∙ c.loop.invariant.same in
    sym (of_some _ _ (begins_somewhere c.args.count c.args.bytes.now (sym spelled)) (length-strings 0 c.args.count c.args.bytes.now))

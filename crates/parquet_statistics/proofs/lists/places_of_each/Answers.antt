use Rattle.std.proofs.Common.{◌≡◌, ◌+◌, ◌<◌, ◌≤◌, ℕ, arith, inl, inr}
use Rattle.std.specs.Prelude.{◌⊎◌}
use Rattle.std.proofs.lemmas.Result.{err_from_is_err_and}
use Rattle.columns_core.specs.Causes.{IsWantOfMemory}
use Rattle.columns_core.specs.declared.error.Error.{Error}
use Rattle.columns_core.specs.declared.error.Error.TheVariants as error
use Rattle.columns_core.specs.Offsets.{last}
use Rattle.parquet_statistics.proofs.SingleLemmas.{last_place, place_more}
use Rattle.parquet_statistics.proofs.lists.places_of_each.Goals as goal

pub loop-preserved : goal.loop-preserved
loop-preserved g c = place_more c.loop.places c.try_push.new.self c.loop.counter c.in_ok-try_push.ensures.ok c.loop.invariant

past_more : (e : Error) (most n m : ℕ) → n ≤ m → IsWantOfMemory e ⊎ ((e ≡ error.Overflow) × (most < n)) → IsWantOfMemory e ⊎ ((e ≡ error.Overflow) × (most < m))
past_more e most n m h (inl memory) = inl memory
past_more e most n m h (inr past) = let over = past.1 in inr (past.0, omega arith)

pub returns-in_err-try_push-clause-err : goal.returns-in_err-try_push-clause-err
returns-in_err-try_push-clause-err g c =
    let p = err_from_is_err_and c.from_residual-in_err-try_push.result c.from_residual-in_err-try_push.ensures.1 in
    let end = last_place c.loop.places c.loop.counter c.loop.invariant in
    rw (p.1, p.2) (past_more c.in_err-try_push.field-0.0 g.O.Offset.greatest (last c.loop.places + 1) c.args.count (omega (arith, end, c.loop-test.true, c.loop.auto.counter-end)) c.in_err-try_push.ensures.err.1)

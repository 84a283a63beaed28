use Rattle.std.proofs.Common.{arith}
use Rattle.parquet_encoding.specs.HybridLeft.{hybrid_left, hybrid_values}
use Rattle.flat_values.proofs.KeyLemmas.{copies_passed, run_within}
use Rattle.flat_values.proofs.keys.next_past.Goals as goal

pub chunk_has_past-requires-clause-some : goal.chunk_has_past-requires-clause-some
chunk_has_past-requires-clause-some c = omega (arith, run_within c.in_ok-value.field-0 c.args.bytes.now (hybrid_values c.args.keys.now c.args.bytes.now) c.in_ok-value.ensures.values, c.in_ok-value.ensures.some)

pub returns-in-Repeated-clause-passed : goal.returns-in-Repeated-clause-passed
returns-in-Repeated-clause-passed c =
    copies_passed c.args.entries c.in-Repeated.value c.in-Repeated.count c.in_ok-value.field-0 c.args.bytes.now (hybrid_values c.args.keys.now c.args.bytes.now) (hybrid_left c.next_run.new.self c.args.bytes.now) c.in-Repeated.is c.in_ok-value.ensures.values c.in_ok-value.ensures.some c.in_ok-value.ensures.rest

use Rattle.std.proofs.Common.{arith}
use Rattle.parquet_encoding.specs.HybridLeft.{hybrid_left, hybrid_values}
use Rattle.flat_values.proofs.KeyLemmas.{chunk_passed}
use Rattle.flat_values.proofs.keys.chunk_has_past.Goals as goal

pub returns-clause-passed : goal.returns-clause-passed
returns-clause-passed c =
    chunk_passed c.args.entries (hybrid_values c.args.keys.now c.args.bytes.now) c.fill-count.new.out _ (hybrid_left c.fill-count.new.self c.args.bytes.now) c.fill-count.result 128 c.some_key_is_past.result
    c.fill-count.ensures.values c.fill-count.ensures.count (omega arith) c.requires.some c.some_key_is_past.ensures c.fill-count.ensures.rest

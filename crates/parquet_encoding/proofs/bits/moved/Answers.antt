use Rattle.std.proofs.Common.{arith}
use Rattle.parquet_encoding.proofs.BitsLemmas.{whole_groups}
use Rattle.parquet_encoding.proofs.bits.moved.Goals as goal

pub overflow_mul-result : goal.overflow_mul-result
overflow_mul-result c = let split = whole_groups c.args.count c.args.width in omega arith

pub overflow_add-result : goal.overflow_add-result
overflow_add-result c = let split = whole_groups c.args.count c.args.width in omega arith

pub overflow_add-result-2 : goal.overflow_add-result-2
overflow_add-result-2 c = let split = whole_groups c.args.count c.args.width in omega arith

pub returns-clause-place : goal.returns-clause-place
returns-clause-place c = let split = whole_groups c.args.count c.args.width in omega arith

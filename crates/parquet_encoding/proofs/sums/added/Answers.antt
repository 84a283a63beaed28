use Rattle.std.proofs.Common.{arith}
use Rattle.parquet_encoding.proofs.SumLemmas.{added_is}
use Rattle.parquet_encoding.proofs.sums.added.Goals as goal

pub returns : goal.returns
returns c = added_is c.args.value c.args.least c.args.number c.cast_signed.result c.ranges.value c.ranges.least (omega arith) c.cast_signed.ensures

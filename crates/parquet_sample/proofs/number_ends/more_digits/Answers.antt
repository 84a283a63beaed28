use Rattle.std.proofs.Common.{arith}
use Rattle.parquet_sample.proofs.OrderLemmas.{power_of_some}
use Rattle.parquet_sample.proofs.number_ends.more_digits.Goals as goal

pub returns-clause-least : goal.returns-clause-least
returns-clause-least c = λ some. omega (arith, power_of_some c.ilog10.result some, c.ilog10.ensures.power_le, c.max.ensures)

use Rattle.std.proofs.Common.{inr, arith}
use Rattle.parquet_encoding.proofs.BlockLemmas.{body_is}
use Rattle.parquet_encoding.proofs.delta_walk.body_size.Goals as goal

pub returns-then-body-room-clause-err : goal.returns-then-body-room-clause-err
returns-then-body-room-clause-err c = inr (omega (arith, body_is c.args.size c.args.width c.requires))

pub returns-clause-size : goal.returns-clause-size
returns-clause-size c = body_is c.args.size c.args.width c.requires

use Rattle.std.proofs.Common.{arith}
use Rattle.parquet_scan.proofs.PruningLemmas.{field_there}
use Rattle.parquet_scan.proofs.request.place_of.Goals as goal

pub loop-place-init : goal.loop-place-init
loop-place-init c = record { left = field_there c.args.fields.now c.args.bound.now c.requires.legal; within = omega arith }

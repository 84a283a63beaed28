use Rattle.std.proofs.Common.{length, ◌-◌}
use Rattle.parquet_meta.proofs.Filling.{IsFilling}
use Rattle.parquet_meta.proofs.exact.fill_from.Given as goal

abbrev pub invariant-fill : goal.invariant-fill
invariant-fill g l = IsFilling g.S.Source.told g.S.Source.faults g.S.Source.taken g.S.Source.kept l.fn.source l.place l.fn.out l.source l.filled l.out

abbrev pub decreases-fill : goal.decreases-fill
decreases-fill g l = length l.initial.out - l.filled

use Rattle.std.proofs.Common.{refl}
use Rattle.parquet_scan.proofs.laws.runs_are_the_same.Goals as goal

pub returns : goal.returns
returns c = λ request chunk_size limit file. refl

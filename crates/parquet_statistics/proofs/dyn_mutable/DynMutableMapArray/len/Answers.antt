use Rattle.std.proofs.Common.{ap, length, sym}
use Rattle.parquet_statistics.specs.Made.{Made}
use Rattle.parquet_statistics.proofs.BuilderLemmas.{made_of_map}
use Rattle.parquet_statistics.proofs.dyn_mutable.DynMutableMapArray.len.Goals as goal

pub returns : goal.returns
returns c = ap (λ (all : Made). length all.cells) (sym (made_of_map c.args.self.now))

use Rattle.std.proofs.Common.{arith, inr, refl}
use Rattle.parquet_write.specs.Told.{file_told}
use Rattle.parquet_write.proofs.LengthLemmas.{many_columns}
use Rattle.parquet_write.proofs.file.add_end.Goals as goal

pub returns-then-columns : goal.returns-then-columns
returns-then-columns c = record {
  written = record { written = tt; short = record { fits = tt; cause = inr (refl, many_columns (file_told c.args.columns.now c.args.bases c.args.groups.now) (omega arith)) } };
}

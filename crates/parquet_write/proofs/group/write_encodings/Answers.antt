use Rattle.std.proofs.Common.{append_assoc}
use Rattle.parquet_write.proofs.StatisticsLemmas.{one-encoding, two-encodings}
use Rattle.parquet_write.proofs.group.write_encodings.Goals as goal

pub returns-in_ok-write_signed-in-Required : goal.returns-in_ok-write_signed-in-Required
returns-in_ok-write_signed-in-Required c = record { written = rw (c.in-Required.is, one-encoding) ((c.in_ok-write_signed-in-Required).ensures.written) }

pub returns-in_ok-write_signed-in_default-2 : goal.returns-in_ok-write_signed-in_default-2
returns-in_ok-write_signed-in_default-2 c = record {
  written = rw ((c.in_ok-write_signed-in_default-2).ensures.written, (c.in_ok-write_signed-in_default).ensures.written, two-encodings c.args.repetition c.in_default.not-Required) (simp append_assoc);
}

use Rattle.std.proofs.Common.{append_assoc}
use Rattle.parquet_write.proofs.StatisticsLemmas.{statistics-none, statistics-some}
use Rattle.parquet_write.proofs.group.write_statistics.Goals as goal

pub returns-in_ok-write_end-in-None : goal.returns-in_ok-write_end-in-None
returns-in_ok-write_end-in-None c = record {
  written = rw ((c.in_ok-write_end-in-None).ensures.written, c.in_ok-write_measure.ensures.written, c.in-None.is, statistics-none c.args.nulls) (simp append_assoc);
  few = c.in_ok-write_measure.ensures.few;
}

pub returns-in_ok-write_end-in-Some : goal.returns-in_ok-write_end-in-Some
returns-in_ok-write_end-in-Some c = record {
  written = rw (
    (c.in_ok-write_end-in-Some).ensures.written,
    (c.in_ok-write_binary-in-Some-2).ensures.written,
    (c.in_ok-write_field_header-in-Some-2).ensures.written,
    (c.in_ok-write_binary-in-Some).ensures.written,
    (c.in_ok-write_field_header-in-Some).ensures.written,
    c.in_ok-write_measure.ensures.written,
    c.in-Some.is,
    statistics-some c.args.nulls c.in-Some.ends,
    c.as_slice.ensures,
    (c.as_slice-in-Some).ensures,
  )
      (simp append_assoc);
  few = c.in_ok-write_measure.ensures.few;
}

use Rattle.std.proofs.Common.{append_assoc}
use Rattle.compact_write.specs.Written.{value_bytes, element_bytes, elements_bytes, fields_bytes}
use Rattle.parquet_write.proofs.offset_index.write_location.Goals as goal

pub returns : goal.returns
unfolding value_bytes element_bytes elements_bytes fields_bytes
returns c = record {
  written = rw (
    c.in_ok-write_end.ensures.written,
    c.in_ok-write_measure-2.ensures.written,
    c.in_ok-write_size.ensures.written,
    c.in_ok-write_measure.ensures.written,
  )
      (simp append_assoc);
  few = record { offset = c.in_ok-write_measure.ensures.few; size = c.in_ok-write_size.ensures.few; first_row = c.in_ok-write_measure-2.ensures.few };
}

use Rattle.std.proofs.Common.{append_assoc}
use Rattle.compact_write.specs.Written.{value_bytes, element_bytes, elements_bytes, fields_bytes}
use Rattle.parquet_write.proofs.schema.write_root.Goals as goal

pub returns : goal.returns
unfolding value_bytes element_bytes elements_bytes fields_bytes
returns c = record {
  written = rw (
    c.in_ok-write_end.ensures.written,
    c.in_ok-write_count_field.ensures.written,
    c.in_ok-write_binary.ensures.written,
    c.in_ok-write_field_header.ensures.written,
    c.in_ok-to_measure.ensures.same,
  )
      (simp append_assoc);
  few = c.in_ok-to_measure.ensures.few;
}

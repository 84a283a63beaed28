use Rattle.std.proofs.Common.{append_assoc}
use Rattle.parquet_write.proofs.schema.write_timestamp.Goals as goal

pub returns : goal.returns
returns c = record {
  written = rw (
    c.in_ok-write_end-4.ensures.written,
    c.in_ok-write_end-3.ensures.written,
    c.in_ok-write_end-2.ensures.written,
    c.in_ok-write_end.ensures.written,
    c.in_ok-write_struct_start-4.ensures.written,
    c.in_ok-write_struct_start-3.ensures.written,
    c.in_ok-write_field_header.ensures.written,
    c.in_ok-write_struct_start-2.ensures.written,
    c.in_ok-write_struct_start.ensures.written,
    c.unit_id.ensures,
    c.kind_of.ensures,
  )
      (simp append_assoc);
}

use Rattle.std.proofs.Common.{append_assoc}
use Rattle.parquet_write.proofs.ElementLemmas.{element-is}
use Rattle.parquet_write.proofs.schema.write_element.Goals as goal

pub returns : goal.returns
returns c = record {
  written = rw (
    c.in_ok-write_end.ensures.written,
    c.in_ok-write_logical_type.ensures.written,
    c.in_ok-write_binary.ensures.written,
    c.in_ok-write_field_header.ensures.written,
    c.in_ok-write_type.ensures.written,
    c.name_of.ensures,
    c.as_slice.ensures,
    element-is c.args.column.now,
  )
      (simp append_assoc);
  few = c.in_ok-write_type.ensures.few;
}

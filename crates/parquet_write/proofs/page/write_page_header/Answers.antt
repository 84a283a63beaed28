use Rattle.std.proofs.Common.{append_assoc}
use Rattle.compact_write.specs.Written.{value_bytes, element_bytes, elements_bytes, fields_bytes}
use Rattle.parquet_plain.specs.Structs.{page_header_bytes}
use Rattle.parquet_write.proofs.page.write_page_header.Goals as goal

pub returns : goal.returns
unfolding page_header_bytes value_bytes element_bytes elements_bytes fields_bytes
returns c = record {
  written = rw (
    c.in_ok-write_end-2.ensures.written,
    c.in_ok-write_end.ensures.written,
    c.in_ok-write_count_field-7.ensures.written,
    c.in_ok-write_count_field-6.ensures.written,
    c.in_ok-write_count_field-5.ensures.written,
    c.in_ok-write_count_field-4.ensures.written,
    c.in_ok-write_struct_start.ensures.written,
    c.in_ok-write_count_field-3.ensures.written,
    c.in_ok-write_count_field-2.ensures.written,
    c.in_ok-write_count_field.ensures.written,
  )
      (simp append_assoc);
}

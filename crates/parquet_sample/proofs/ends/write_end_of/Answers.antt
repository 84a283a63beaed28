use Rattle.std.proofs.Common.{ℕ, List, ◌++◌, sym, ap, ◌∙◌}
use Rattle.std.specs.Int.{w32, to_le_bytes}
use Rattle.parquet_plain.specs.Columns.{end_bytes}
use Rattle.parquet_plain.proofs.BodyLemmas.{eight-bytes, four-bytes}
use Rattle.parquet_sample.specs.Ends.{end_item}
use Rattle.parquet_sample.specs.Writing.{written_of}
use Rattle.parquet_sample.specs.declared.column.SampleColumn.{SampleColumn}
use Rattle.parquet_sample.proofs.ends.write_end_of.Goals as goal

pub returns-in_ok-extend_from_slice-in-Id : goal.returns-in_ok-extend_from_slice-in-Id
returns-in_ok-extend_from_slice-in-Id c = record {
  written = (c.in_ok-extend_from_slice-in-Id).ensures.items ∙ ap (λ (bs : List ℕ). c.args.bytes.now.items ++ bs) (c.to_le_bytes.ensures ∙ sym (eight-bytes c.args.number))
      ∙ ap (λ (column : SampleColumn). c.args.bytes.now.items ++ end_bytes (written_of column).column.type.physical_type (end_item column c.args.number)) (sym c.in-Id.is);
}

pub returns-in_ok-extend_from_slice-in-Qty : goal.returns-in_ok-extend_from_slice-in-Qty
returns-in_ok-extend_from_slice-in-Qty c = record {
  written = (c.in_ok-extend_from_slice-in-Qty).ensures.items
      ∙ ap (λ (bs : List ℕ). c.args.bytes.now.items ++ bs) ((c.to_le_bytes-in-Qty).ensures ∙ ap (to_le_bytes w32) (c.in_ok-to_measure-in-Qty).ensures.same ∙ sym (four-bytes c.args.number))
      ∙ ap (λ (column : SampleColumn). c.args.bytes.now.items ++ end_bytes (written_of column).column.type.physical_type (end_item column c.args.number)) (sym c.in-Qty.is);
}

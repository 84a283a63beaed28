use Rattle.std.proofs.Common.{ℕ, List, ◌++◌, ap, ◌∙◌, append_assoc, length}
use Rattle.compact_write.specs.Fields.{values_of}
use Rattle.compact_write.specs.Written.{elements_bytes}
use Rattle.parquet_meta.specs.declared.metadata.ColumnDescriptor.{ColumnDescriptor}
use Rattle.parquet_plain.specs.Structs.{root_value}
use Rattle.std.proofs.lemmas.List.Elements.{All-nil}
use Rattle.parquet_write.specs.Told.{IsTellableColumn}
use Rattle.parquet_write.proofs.ListLemmas.{all_have, all_written, none_written, one_has, one_written}
use Rattle.compact_write.specs.Written.{element_bytes}
use Rattle.parquet_plain.specs.Structs.{element_value}
use Rattle.parquet_write.proofs.schema.write_schema.Goals as goal

pub loop-column-init : goal.loop-column-init
loop-column-init c = record { written = none_written element_value c.write_root.new.out.items c.args.columns.now; few = All-nil IsTellableColumn }

pub loop-column-preserved : goal.loop-column-preserved
unfolding element_bytes
loop-column-preserved c =
    record {
      written = one_written element_value c.write_root.new.out.items c.loop-column.out.items _ c.args.columns.now c.loop-column.column-index c.column-item.result c.loop-column-test.true c.column-item.is c.loop-column.invariant.written
          c.in_ok-write_element.ensures.written;
      few = one_has IsTellableColumn c.args.columns.now c.loop-column.column-index c.column-item.result c.loop-column-test.true c.column-item.is c.loop-column.invariant.few c.in_ok-write_element.ensures.few;
    }

pub returns : goal.returns
unfolding elements_bytes
returns c =
    let columns : List ColumnDescriptor = c.args.columns.now in
    let behind = all_written element_value c.write_root.new.out.items c.loop-column.out.items columns c.loop-column.column-index c.loop-column-test.false c.loop-column.invariant.written in
    record {
      written = behind ∙ ap (λ (bs : List ℕ). bs ++ elements_bytes (values_of element_value columns)) c.in_ok-write_root.ensures.written
          ∙ append_assoc c.args.out.now.items (element_bytes (root_value (length columns))) (elements_bytes (values_of element_value columns));
      few = record { count = c.in_ok-write_root.ensures.few; each = all_have IsTellableColumn columns c.loop-column.column-index c.loop-column-test.false c.loop-column.invariant.few };
    }

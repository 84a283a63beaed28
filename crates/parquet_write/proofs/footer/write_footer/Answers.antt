use Rattle.std.proofs.Common.{◌≡◌, ◌<◌, ◌^◌, ℕ, suc, ◌+◌, add-one, List, ◌++◌, refl, sym, ap, subst, ◌∙◌, length, map}
use Rattle.std.proofs.lemmas.List.{length-map}
use Rattle.std.proofs.lemmas.List.Elements.{All-nil}
use Rattle.compact_write.specs.Fields.{values_of}
use Rattle.compact_write.specs.Written.{elements_bytes, fields_bytes, value_count}
use Rattle.compact_write.proofs.FieldLemmas.{value_count-values}
use Rattle.parquet_meta.specs.declared.metadata.ColumnDescriptor.{ColumnDescriptor}
use Rattle.parquet_meta.specs.declared.metadata.FileMetaData.{FileMetaData}
use Rattle.parquet_plain.specs.Structs.{element_value, footer_bytes, footer_fields, group_value, schema_values}
use Rattle.parquet_write.specs.Told.{IsTellableGroup, file_told, group_told}
use Rattle.parquet_write.specs.declared.facts.GroupFacts.{GroupFacts}
use Rattle.parquet_write.proofs.ListLemmas.{all_have, all_written_of, none_written, one_has, one_written}
use Rattle.parquet_write.proofs.StepLemmas.{ends, large, list_begins, part, small}
use Rattle.parquet_write.proofs.footer.write_footer.Goals as goal

count-schema : (columns : List ColumnDescriptor) → length columns + 1 ≡ value_count (schema_values columns)
count-schema columns = add-one (length columns) ∙ ap suc (sym (value_count-values element_value columns))

pub loop-group-init : goal.loop-group-init
loop-group-init c = record { written = none_written (λ group. group_value (group_told c.args.columns.now c.args.bases group)) c.write_list_start-2.new.out.items c.args.groups.now; few = All-nil (IsTellableGroup c.args.bases) }

pub loop-group-preserved : goal.loop-group-preserved
loop-group-preserved c =
    record {
      written = one_written (λ group. group_value (group_told c.args.columns.now c.args.bases group)) c.write_list_start-2.new.out.items c.loop-group.out.items _ c.args.groups.now c.loop-group.group-index c.group-item.result c.loop-group-test.true
          c.group-item.is c.loop-group.invariant.written c.in_ok-write_group.ensures.written;
      few = one_has (IsTellableGroup c.args.bases) c.args.groups.now c.loop-group.group-index c.group-item.result c.loop-group-test.true c.group-item.is c.loop-group.invariant.few c.in_ok-write_group.ensures.few;
    }

pub returns : goal.returns
unfolding footer_bytes
returns c =
    let told : FileMetaData = file_told c.args.columns.now c.args.bases c.args.groups.now in
    let groups : List GroupFacts = c.args.groups.now in
    let own = group_told c.args.columns.now c.args.bases in
    let whole : List ℕ = c.args.out.now.items ++ footer_bytes told in
    let s0 : c.args.out.now.items ++ fields_bytes 0 (footer_fields told) ≡ whole = refl in
    let s1 = small 0 1 1 1 _ _ _ whole refl s0 c.in_ok-write_count_field.ensures.written in
    let s2 = list_begins 1 2 12 _ (schema_values c.args.columns.now) _ _ _ whole (count-schema c.args.columns.now) s1 c.in_ok-write_list_start.ensures.written in
    let s3 = part (elements_bytes (schema_values c.args.columns.now)) _ _ _ whole s2 c.in_ok-write_schema.ensures.written in
    let s4 = large 2 3 _ _ _ _ _ whole c.in_ok-rows_of.ensures.sum s3 c.in_ok-write_measure.ensures.written in
    let count : length groups ≡ value_count (values_of group_value (map own groups)) = sym (value_count-values group_value (map own groups) ∙ length-map groups own) in
    let s5 = list_begins 3 4 12 _ (values_of group_value (map own groups)) _ _ _ whole count s4 c.in_ok-write_list_start-2.ensures.written in
    let s6 = part (elements_bytes (values_of group_value (map own groups))) _ _ _ whole s5
    (all_written_of group_value own c.write_list_start-2.new.out.items c.loop-group.out.items groups c.loop-group.group-index c.loop-group-test.false c.loop-group.invariant.written) in
    record {
      written = ends 4 _ _ whole s6 c.in_ok-write_end.ensures.written;
      few = record {
        schema = c.in_ok-write_schema.ensures.few;
        rows = subst (λ (n : ℕ). n < 2 ^ 63) c.in_ok-rows_of.ensures.sum c.in_ok-write_measure.ensures.few;
        each = all_have (IsTellableGroup c.args.bases) groups c.loop-group.group-index c.loop-group-test.false c.loop-group.invariant.few;
      };
    }

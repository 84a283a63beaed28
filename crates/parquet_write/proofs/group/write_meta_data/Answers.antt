use Rattle.std.proofs.Common.{◌≡◌, ℕ, List, ◌++◌, refl, sym, ap, ◌∙◌, length}
use Rattle.parquet_thrift.specs.Values.{binary}
use Rattle.compact_write.specs.Fields.{values_of}
use Rattle.compact_write.specs.Written.{elements_bytes, fields_bytes, value_count}
use Rattle.compact_write.proofs.FieldLemmas.{value_count-values}
use Rattle.parquet_meta.specs.declared.metadata.ColumnChunkMetaData.{ColumnChunkMetaData}
use Rattle.parquet_plain.specs.Description.{statistics_from}
use Rattle.parquet_plain.specs.Structs.{encodings_of, meta_data_fields, statistics_fields}
use Rattle.parquet_write.specs.Told.{HasTellableValues, column_told}
use Rattle.parquet_write.proofs.StepLemmas.{ends, large, list_begins, part, small, struct_begins}
use Rattle.parquet_write.proofs.group.write_meta_data.Goals as goal

pub returns : goal.returns
returns c =
    let told : ColumnChunkMetaData = column_told c.args.column.now c.args.bases c.args.chunk.now in
    let path : List (List ℕ) = c.args.column.now.path_in_schema in
    let whole : List ℕ = c.args.out.now.items ++ fields_bytes 0 (meta_data_fields told) in
    let names : c.as_slice-path.result.now ≡ path = c.as_slice-path.ensures in
    let count : length c.as_slice-path.result.now ≡ value_count (values_of binary path) = ap length names ∙ sym (value_count-values binary path) in
    let s0 : c.args.out.now.items ++ fields_bytes 0 (meta_data_fields told) ≡ whole = refl in
    let s1 = small 0 1 _ _ _ _ _ whole c.code_of.ensures.code s0 c.in_ok-write_count_field.ensures.written in
    let s2 = list_begins 1 2 5 _ (encodings_of c.args.column.now.primitive_type.repetition) _ _ _ whole c.encoding_count.ensures s1 c.in_ok-write_list_start.ensures.written in
    let s3 = part (elements_bytes (encodings_of c.args.column.now.primitive_type.repetition)) _ _ _ whole s2 c.in_ok-write_encodings.ensures.written in
    let s4 = list_begins 2 3 8 _ (values_of binary path) _ _ _ whole count s3 c.in_ok-write_list_start-2.ensures.written in
    let s5 = part (elements_bytes (values_of binary path)) _ _ _ whole s4 (c.in_ok-write_path.ensures.written ∙ ap (λ (xs : List (List ℕ)). c.write_list_start-2.new.out.items ++ elements_bytes (values_of binary xs)) names) in
    let s6 = small 3 4 0 0 _ _ _ whole refl s5 c.in_ok-write_count_field-2.ensures.written in
    let s7 = large 4 5 _ _ _ _ _ whole refl s6 c.in_ok-write_measure.ensures.written in
    let s8 = large 5 6 _ _ _ _ _ whole refl s7 c.in_ok-write_measure-2.ensures.written in
    let s9 = large 6 7 _ _ _ _ _ whole refl s8 c.in_ok-write_measure-3.ensures.written in
    let s10 = large 7 9 _ _ _ _ _ whole refl s9 c.in_ok-write_measure-4.ensures.written in
    let s11 = struct_begins 9 12 (statistics_fields (statistics_from c.args.chunk.now.nulls c.args.chunk.now.ends)) _ _ _ whole s10 c.in_ok-write_struct_start.ensures.written in
    let s12 = part (fields_bytes 0 (statistics_fields (statistics_from c.args.chunk.now.nulls c.args.chunk.now.ends))) _ _ _ whole s11 c.in_ok-write_statistics.ensures.written in
    let values : HasTellableValues c.args.chunk.now = record { start = c.in_ok-write_measure-4.ensures.few; size = c.in_ok-write_measure-2.ensures.few; rows = c.in_ok-write_measure.ensures.few; nulls = c.in_ok-write_statistics.ensures.few } in
    record { written = ends 12 _ _ whole s12 c.in_ok-write_end.ensures.written; few = values }

use Rattle.std.proofs.Common.{◌≡◌, ◌<◌, ◌^◌, ℕ, List, ◌++◌, refl, ap, subst}
use Rattle.compact_write.specs.Written.{element_bytes, fields_bytes}
use Rattle.parquet_meta.specs.declared.metadata.ColumnChunkMetaData.{ColumnChunkMetaData}
use Rattle.parquet_plain.specs.Structs.{chunk_fields, chunk_value, meta_data_fields}
use Rattle.parquet_write.specs.Told.{column_told}
use Rattle.parquet_write.proofs.StepLemmas.{ends, large, part, small, struct_begins, struct-bytes}
use Rattle.parquet_write.proofs.group.write_chunk.Goals as goal

pub returns : goal.returns
returns c =
    let told : ColumnChunkMetaData = column_told c.args.column.now c.args.bases c.args.chunk.now in
    let whole : List ℕ = c.args.out.now.items ++ element_bytes (chunk_value told) in
    let s0 : c.args.out.now.items ++ fields_bytes 0 (chunk_fields told) ≡ whole = ap (λ (bs : List ℕ). c.args.out.now.items ++ bs) (struct-bytes (chunk_fields told)) in
    let s1 = large 0 2 _ _ _ _ _ whole refl s0 c.in_ok-write_measure.ensures.written in
    let s2 = struct_begins 2 3 (meta_data_fields told) _ _ _ whole s1 c.in_ok-write_struct_start.ensures.written in
    let s3 = part (fields_bytes 0 (meta_data_fields told)) _ _ _ whole s2 c.in_ok-write_meta_data.ensures.written in
    let s4 = large 3 4 _ _ _ _ _ whole c.in_ok-sum.ensures.ok s3 c.in_ok-write_measure-2.ensures.written in
    let s5 = small 4 5 _ _ _ _ _ whole refl s4 c.in_ok-write_size.ensures.written in
    let s6 = large 5 6 _ _ _ _ _ whole c.in_ok-sum-2.ensures.ok s5 c.in_ok-write_measure-3.ensures.written in
    let s7 = small 6 7 _ _ _ _ _ whole refl s6 c.in_ok-write_size-2.ensures.written in
    record {
      written = ends 7 _ _ whole s7 c.in_ok-write_end.ensures.written;
      few = record {
        values = c.in_ok-write_meta_data.ensures.few;
        index = subst (λ (n : ℕ). n < 2 ^ 63) c.in_ok-sum-2.ensures.ok c.in_ok-write_measure-3.ensures.few;
        index_size = c.in_ok-write_size-2.ensures.few;
        locations = subst (λ (n : ℕ). n < 2 ^ 63) c.in_ok-sum.ensures.ok c.in_ok-write_measure-2.ensures.few;
        locations_size = c.in_ok-write_size.ensures.few;
      };
    }

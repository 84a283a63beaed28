use Rattle.std.proofs.Common.{◌≡◌, ◌<◌, ◌^◌, ℕ, List, ◌++◌, refl, ap, subst, ◌∙◌, length}
use Rattle.std.specs.Prelude.{sum_by, All}
use Rattle.compact_write.specs.Fields.{values_of}
use Rattle.compact_write.specs.Written.{element_bytes, elements_bytes, fields_bytes}
use Rattle.parquet_meta.specs.declared.metadata.RowGroupMetaData.{RowGroupMetaData}
use Rattle.parquet_plain.specs.Structs.{chunk_value, group_fields, group_value}
use Rattle.parquet_write.specs.Told.{IsTellableChunk, columns_told, group_told}
use Rattle.parquet_write.specs.declared.facts.ChunkFacts.{ChunkFacts}
use Rattle.parquet_write.proofs.GroupLemmas.{count-told, size-told}
use Rattle.parquet_write.proofs.StepLemmas.{ends, large, list_begins, part, struct-bytes}
use Rattle.parquet_write.proofs.group.write_group.Goals as goal

pub write_chunks-requires : goal.write_chunks-requires
write_chunks-requires c = record { even = ap length c.as_slice-chunks.ensures ∙ c.requires.even }

pub returns : goal.returns
returns c =
    let told : RowGroupMetaData = group_told c.args.columns.now c.args.bases c.args.group.now in
    let chunks : List ChunkFacts = c.args.group.now.chunks in
    let own : c.as_slice-chunks.result.now ≡ chunks = c.as_slice-chunks.ensures in
    let whole : List ℕ = c.args.out.now.items ++ element_bytes (group_value told) in
    let s0 : c.args.out.now.items ++ fields_bytes 0 (group_fields told) ≡ whole = ap (λ (bs : List ℕ). c.args.out.now.items ++ bs) (struct-bytes (group_fields told)) in
    let s1 = list_begins 0 1 12 _ (values_of chunk_value told.columns) _ _ _ whole (ap length own ∙ count-told c.args.columns.now c.args.bases chunks c.requires.even) s0 c.in_ok-write_list_start.ensures.written in
    let s2 = part (elements_bytes (values_of chunk_value told.columns)) _ _ _ whole s1
    (c.in_ok-write_chunks.ensures.written ∙ ap (λ (fs : List ChunkFacts). c.write_list_start.new.out.items ++ elements_bytes (values_of chunk_value (columns_told c.args.columns.now c.args.bases fs))) own) in
    let s3 = large 1 2 _ _ _ _ _ whole (c.in_ok-size_of.ensures ∙ ap (sum_by (λ (chunk : ChunkFacts). chunk.size)) own ∙ size-told c.args.columns.now c.args.bases chunks c.requires.even) s2 c.in_ok-write_measure.ensures.written in
    let s4 = large 2 3 _ _ _ _ _ whole refl s3 c.in_ok-write_measure-2.ensures.written in
    record {
      written = ends 3 _ _ whole s4 c.in_ok-write_end.ensures.written;
      few = record {
        chunks = subst (All (IsTellableChunk c.args.bases)) own c.in_ok-write_chunks.ensures.few;
        size = subst (λ (n : ℕ). n < 2 ^ 63) (c.in_ok-size_of.ensures ∙ ap (sum_by (λ (chunk : ChunkFacts). chunk.size)) own) c.in_ok-write_measure.ensures.few;
        rows = c.in_ok-write_measure-2.ensures.few;
      };
    }

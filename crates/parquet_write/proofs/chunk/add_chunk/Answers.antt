use Rattle.std.proofs.Common.{◌≡◌, ℕ, ◌-◌, ◌++◌, List, Option, ap, append-nil, arith, length, length-append, sym, ◌∙◌}
use Rattle.std.specs.List.{list_all}
use Rattle.parquet_meta.specs.declared.metadata.PhysicalType.{PhysicalType}
use Rattle.parquet_page.specs.Stored.{Stored}
use Rattle.parquet_plain.specs.Bodies.{present}
use Rattle.parquet_plain.specs.Bounds.{stored_bounds}
use Rattle.parquet_plain.specs.Columns.{Written, written_chunk}
use Rattle.parquet_plain.specs.Description.{PlainChunk, chunk_bytes, rows_of_chunk}
use Rattle.parquet_plain.specs.File.{all_locations_bytes, chunk_index_bytes, chunk_locations_bytes}
use Rattle.parquet_plain.specs.Short.{are_short_indexes, is_short_page}
use Rattle.parquet_plain.proofs.BoundLemmas.{ends-are}
use Rattle.parquet_plain.proofs.ShortLemmas.{and_both, and_second}
use Rattle.parquet_write.specs.Items.{unnamed_column}
use Rattle.parquet_write.proofs.AnswerLemmas.{overflows, too_large_whole}
use Rattle.parquet_write.proofs.PagingLemmas.{index-written, indexes-short, locations-written, rows_of_chunk-is, told_alike}
use Rattle.parquet_write.proofs.chunk.add_chunk.Goals as goal

pub returns-in_err-sizes-clause-short : goal.returns-in_err-sizes-clause-short
returns-in_err-sizes-clause-short g c =
    let to : Written = unnamed_column (g.I.Items.type_ c.args.items.now) (g.I.Items.at_most c.args.items.now) c.args.paging in
    let chunk : PlainChunk = written_chunk to (g.I.Items.items c.args.items.now) in
    let start : ℕ = length c.args.parts.now.chunks.items in
    let told = c.deref.ensures.value ∙ c.in_ok-paged.ensures.told in
    overflows _ (c.from_residual-in_err-sizes).result _ (c.from_residual-in_err-sizes).ensures.1
    (too_large_whole _ _ _ (λ large. and_second (list_all is_short_page chunk.pages) (are_short_indexes start chunk) (indexes-short start chunk c.deref.result.now told ∙ large)) c.in_err-sizes.ensures.short.cause)

pub returns-clause-adds : goal.returns-clause-adds
unfolding all_locations_bytes
returns-clause-adds g c =
    let to : Written = unnamed_column (g.I.Items.type_ c.args.items.now) (g.I.Items.at_most c.args.items.now) c.args.paging in
    let chunk : PlainChunk = written_chunk to (g.I.Items.items c.args.items.now) in
    let start : ℕ = length c.args.parts.now.chunks.items in
    let told = c.deref.ensures.value ∙ c.in_ok-paged.ensures.told in
    record {
      pages = c.in_ok-paged.ensures.written.written ∙ ap (λ (bs : List ℕ). c.args.parts.now.chunks.items ++ bs) (sym (append-nil (chunk_bytes chunk)));
      indexes = c.in_ok-sizes.ensures.index
          ∙ ap (λ (bs : List ℕ). c.args.parts.now.indexes.items ++ bs) (index-written start chunk c.deref.result.now told ∙ sym (append-nil (chunk_index_bytes chunk)));
      locations = c.in_ok-sizes.ensures.locations
          ∙ ap (λ (bs : List ℕ). c.args.parts.now.locations.items ++ bs) (locations-written start chunk c.deref.result.now told ∙ sym (append-nil (chunk_locations_bytes start chunk)));
    }

pub returns-clause-told : goal.returns-clause-told
unfolding written_chunk
returns-clause-told g c =
    let type : PhysicalType = g.I.Items.type_ c.args.items.now in
    let items : List (Option Stored) = g.I.Items.items c.args.items.now in
    let to : Written = unnamed_column type (g.I.Items.at_most c.args.items.now) c.args.paging in
    let chunk : PlainChunk = written_chunk to items in
    let out : List ℕ = c.args.parts.now.chunks.items in
    let told = c.deref.ensures.value ∙ c.in_ok-paged.ensures.told in
    let start : c.len-start.result ≡ length out = omega (arith, c.len-start.ensures) in
    let size : c.len.result - c.len-start.result ≡ length (chunk_bytes chunk) =
    omega (arith, c.len.ensures, c.len-start.ensures, ap length c.in_ok-paged.ensures.written.written, length-append out (chunk_bytes chunk)) in
    let rows : c.rows-rows.result ≡ rows_of_chunk chunk = c.rows-rows.ensures ∙ sym (rows_of_chunk-is to items c.requires) in
    let ends : c.in_ok-ends.ends ≡ chunk.ends = c.in_ok-ends.ensures ∙ ap (stored_bounds type) c.in_ok-paged.ensures.found.same ∙ ends-are type (g.I.Items.at_most c.args.items.now) (present items) in
    let index : c.len-index.result ≡ length c.args.parts.now.indexes.items = omega (arith, c.len-index.ensures) in
    let locations : c.len-locations.result ≡ length c.args.parts.now.locations.items = omega (arith, c.len-locations.ensures) in
    told_alike start size rows c.in_ok-paged.ensures.nulls ends index (c.in_ok-sizes.ensures.sizes.0 ∙ ap length (index-written (length out) chunk c.deref.result.now told))
    locations (c.in_ok-sizes.ensures.sizes.1 ∙ ap length (locations-written (length out) chunk c.deref.result.now told))

pub returns-clause-short : goal.returns-clause-short
returns-clause-short g c =
    let to : Written = unnamed_column (g.I.Items.type_ c.args.items.now) (g.I.Items.at_most c.args.items.now) c.args.paging in
    let chunk : PlainChunk = written_chunk to (g.I.Items.items c.args.items.now) in
    let start : ℕ = length c.args.parts.now.chunks.items in
    let told = c.deref.ensures.value ∙ c.in_ok-paged.ensures.told in
    record {
      fits = and_both (list_all is_short_page chunk.pages) (are_short_indexes start chunk) c.in_ok-paged.ensures.written.short.fits
          (indexes-short start chunk c.deref.result.now told ∙ c.in_ok-sizes.ensures.short.fits);
      cause = tt;
    }

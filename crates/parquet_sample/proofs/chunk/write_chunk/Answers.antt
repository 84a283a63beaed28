use Rattle.std.proofs.Common.{◌≡◌, ℕ, List, ◌-◌, ◌++◌, sym, ap, ◌∙◌, arith, append-nil, length, length-append}
use Rattle.parquet_plain.specs.Columns.{written_chunk}
use Rattle.parquet_plain.specs.Description.{PlainChunk, chunk_bytes, rows_of_chunk}
use Rattle.parquet_plain.specs.File.{all_locations_bytes, chunk_index_bytes, chunk_locations_bytes}
use Rattle.parquet_sample.specs.Parts.{sample_chunk}
use Rattle.parquet_sample.proofs.PageLemmas.{rows_of_chunk-sample}
use Rattle.parquet_write.proofs.PagingLemmas.{index-written, locations-written, told_alike}
use Rattle.parquet_sample.proofs.chunk.write_chunk.Goals as goal

pub returns-clause-adds : goal.returns-clause-adds
unfolding all_locations_bytes
returns-clause-adds c =
    let chunk : PlainChunk = sample_chunk c.args.column c.args.first c.args.rows in
    let start : ℕ = length c.args.parts.now.chunks.items in
    record {
      pages = c.in_ok-pages.ensures.written ∙ ap (λ (bs : List ℕ). c.args.parts.now.chunks.items ++ bs) (sym (append-nil (chunk_bytes chunk)));
      indexes = c.in_ok-write_column_index.ensures.written
          ∙ ap (λ (bs : List ℕ). c.args.parts.now.indexes.items ++ bs) (index-written start chunk c.deref.result.now (c.deref.ensures.value ∙ c.in_ok-pages.ensures.told) ∙ sym (append-nil (chunk_index_bytes chunk)));
      locations = c.in_ok-write_offset_index.ensures.written
          ∙ ap (λ (bs : List ℕ). c.args.parts.now.locations.items ++ bs) (locations-written start chunk c.deref-2.result.now (c.deref-2.ensures.value ∙ c.in_ok-pages.ensures.told) ∙ sym (append-nil (chunk_locations_bytes start chunk)));
    }

pub returns-clause-told : goal.returns-clause-told
unfolding written_chunk
returns-clause-told c =
    let chunk : PlainChunk = sample_chunk c.args.column c.args.first c.args.rows in
    let out : List ℕ = c.args.parts.now.chunks.items in
    let indexes : List ℕ = c.args.parts.now.indexes.items in
    let places : List ℕ = c.args.parts.now.locations.items in
    let index_bytes : List ℕ = chunk_index_bytes chunk in
    let place_bytes : List ℕ = chunk_locations_bytes (length out) chunk in
    let pages_written : c.write_pages.new.out.items ≡ out ++ chunk_bytes chunk = c.in_ok-pages.ensures.written in
    let index_written : c.write_column_index.new.out.items ≡ indexes ++ index_bytes =
    c.in_ok-write_column_index.ensures.written ∙ ap (λ (bs : List ℕ). indexes ++ bs) (index-written (length out) chunk c.deref.result.now (c.deref.ensures.value ∙ c.in_ok-pages.ensures.told)) in
    let places_written : c.write_offset_index.new.out.items ≡ places ++ place_bytes =
    c.in_ok-write_offset_index.ensures.written ∙ ap (λ (bs : List ℕ). places ++ bs) (locations-written (length out) chunk c.deref-2.result.now (c.deref-2.ensures.value ∙ c.in_ok-pages.ensures.told)) in
    let a : c.len-start.result ≡ length out = omega (arith, c.len-start.ensures) in
    let b : c.len-3.result - c.len-start.result ≡ length (chunk_bytes chunk) = omega (arith, c.len-3.ensures, c.len-start.ensures, ap length pages_written, length-append out (chunk_bytes chunk)) in
    let d : c.from.result ≡ rows_of_chunk chunk = c.from.ensures ∙ sym (rows_of_chunk-sample c.args.column c.args.first c.args.rows) in
    let e : c.from-2.result ≡ chunk.nulls = c.from-2.ensures ∙ c.null_count.ensures in
    let f : c.in_ok-ends.ends ≡ chunk.ends = c.in_ok-ends.ensures in
    let g : c.len-index.result ≡ length indexes = omega (arith, c.len-index.ensures) in
    let h : c.in_ok-index_size.index_size ≡ length index_bytes = omega (arith, c.in_ok-index_size.ensures, c.len.ensures, c.len-index.ensures, ap length index_written, length-append indexes index_bytes) in
    let i : c.len-locations.result ≡ length places = omega (arith, c.len-locations.ensures) in
    let j : c.in_ok-locations_size.locations_size ≡ length place_bytes = omega (arith, c.in_ok-locations_size.ensures, c.len-2.ensures, c.len-locations.ensures, ap length places_written, length-append places place_bytes) in
    told_alike a b d e f g h i j

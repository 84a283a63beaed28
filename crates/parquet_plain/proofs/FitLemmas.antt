-- A file of fewer than 2 ^ 63 bytes has a footer that can be written: all places lie in the file.
use Rattle.std.proofs.Common.{ℕ, ◌+◌, ◌^◌, ◌<◌, ◌≤◌, List, [], ◌∷◌, ◌++◌, ap, arith, length, map, length-append}
use Rattle.std.specs.Prelude.{sum_by}
use Rattle.std.proofs.lemmas.List.{length-map}
use Rattle.std.proofs.lemmas.List.Concat.{flat_map-append}
use Rattle.std.proofs.lemmas.List.Sums.{sum_by-cons}
use Rattle.parquet_meta.specs.declared.metadata.ColumnChunkMetaData.{ColumnChunkMetaData}
use Rattle.parquet_meta.specs.declared.metadata.ColumnDescriptor.{ColumnDescriptor}
use Rattle.parquet_plain.specs.Description.{PlainChunk, PlainColumn, PlainGroup, PlainFile, chunk_bytes, descriptor_of}
use Rattle.parquet_plain.specs.File.{Starts, behind, behind_all, column_at, columns_at, chunks_of, data_bytes, indexes_bytes, all_locations_bytes, first_starts, tail_bytes, plain_file, meta_data_of_plain}
use Rattle.parquet_plain.specs.Structs.{footer_bytes}
use Rattle.parquet_plain.proofs.CanLemmas.{AllFit, GroupsFit, footer-can}
use Rattle.parquet_plain.proofs.EndLemmas.{IsWritable}
use Rattle.parquet_plain.proofs.PlaceLemmas.{Lies, AreAt, others_are, all_stand, parts_are}
use Rattle.parquet_plain.specs.Fits.{FitsPlainChunks, FitsFile, FitsPlainGroups}

lies-bound : (file : List ℕ) (place : ℕ) (own : List ℕ) → Lies file place own → place + length own ≤ length file
lies-bound file place own lies = omega (arith, ap length lies.is, lies.at, length-append lies.before (own ++ lies.after), length-append own lies.after)

all_fit : (file : List ℕ) (at : Starts) (chunks others : List PlainChunk) → length file < 2 ^ 63 → AreAt file at (chunks ++ others) → FitsPlainChunks at chunks → AllFit at chunks
all_fit file at [] others short are tested = tt
all_fit file at (chunk ∷ chunks) others short are tested =
    let own = lies-bound file at.chunk (data_bytes (chunk ∷ (chunks ++ others))) are.chunks_lie in
    let indexes = lies-bound file at.index (indexes_bytes (chunk ∷ (chunks ++ others))) are.indexes_lie in
    let places = lies-bound file at.locations (all_locations_bytes at.chunk (chunk ∷ (chunks ++ others))) are.locations_lie in (
      record {
        starts = (omega (arith, own), omega (arith, indexes), omega (arith, places));
        rows = (tested.0).rows;
        size = omega (arith, own, length-append (chunk_bytes chunk) (data_bytes (chunks ++ others)));
        nulls = (tested.0).nulls;
        index = (tested.0).index;
        locations = (tested.0).locations;
        ends = (tested.0).ends;
      },
      all_fit file (behind at chunk) chunks others short (others_are file at chunk (chunks ++ others) are) tested.1,
    )

-- a group's size is at most that of its chunks
group-size : (descriptors : List ColumnDescriptor) (at : Starts) (chunks : List PlainChunk) → sum_by (λ (column : ColumnChunkMetaData). column.total_compressed_size) (columns_at descriptors at chunks) ≤ length (data_bytes chunks)
unfolding columns_at
group-size [] at chunks = omega arith
group-size (descriptor ∷ descriptors) at [] = omega arith
group-size (descriptor ∷ descriptors) at (chunk ∷ chunks) =
    omega (
      arith,
      sum_by-cons (λ (column : ColumnChunkMetaData). column.total_compressed_size) (column_at descriptor at chunk) (columns_at descriptors (behind at chunk) chunks),
      group-size descriptors (behind at chunk) chunks,
      length-append (chunk_bytes chunk) (data_bytes chunks),
    )

group-few : (descriptors : List ColumnDescriptor) (at : Starts) (chunks : List PlainChunk) → length (columns_at descriptors at chunks) ≤ length descriptors
unfolding columns_at
group-few [] at chunks = omega arith
group-few (descriptor ∷ descriptors) at [] = omega arith
group-few (descriptor ∷ descriptors) at (chunk ∷ chunks) = omega (arith, group-few descriptors (behind at chunk) chunks)

groups_fit : (file : List ℕ) (columns : List PlainColumn) (at : Starts) (groups : List PlainGroup) → length file < 2 ^ 63 → length columns < 2 ^ 31 → AreAt file at (chunks_of groups) → FitsPlainGroups at groups → GroupsFit columns at groups
groups_fit file columns at [] short few are tested = tt
groups_fit file columns at (group ∷ groups) short few are tested =
    let own = lies-bound file at.chunk (data_bytes (group.chunks ++ chunks_of groups)) are.chunks_lie in
    let split = ap length (flat_map-append chunk_bytes group.chunks (chunks_of groups)) in
    let size = group-size (map descriptor_of columns) at group.chunks in
    let count = group-few (map descriptor_of columns) at group.chunks in (
      record {
        chunks = all_fit file at group.chunks (chunks_of groups) short are tested.0;
        few = omega (arith, count, length-map columns descriptor_of);
        rows = tested.1;
        size = omega (arith, own, split, size, length-append (data_bytes group.chunks) (data_bytes (chunks_of groups)));
      },
      groups_fit file columns (behind_all at group.chunks) groups short few (all_stand file at group.chunks (chunks_of groups) are).1 tested.2,
    )

parts-of : (file : PlainFile) → AreAt (plain_file file) (first_starts (chunks_of file.groups)) (chunks_of file.groups)
unfolding plain_file
parts-of file = parts_are (chunks_of file.groups) (tail_bytes (footer_bytes (meta_data_of_plain file)))

pub writable : (file : PlainFile) → FitsFile file → IsWritable file
writable file fits = record {
  columns = fits.columns;
  chunks = fits.chunks;
  rows = fits.rows;
  fields = footer-can file fits.columns fits.few fits.groups fits.rows (groups_fit (plain_file file) file.columns (first_starts (chunks_of file.groups)) file.groups fits.size fits.few (parts-of file) fits.numbers);
  size = fits.footer;
}

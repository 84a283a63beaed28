-- Parts of a file stand where the lengths of what is in front of them say.
use Rattle.std.proofs.Common.{◌≡◌, ℕ, ◌+◌, ◌≤◌, List, [], ◌∷◌, ◌++◌, Some, refl, ap, ◌∙◌, arith, length, append_assoc, length-append}
use Rattle.std.proofs.lemmas.Bool.{le-leb}
use Rattle.std.proofs.Math.Seq.{take-append_seam, drop-append_seam}
use Rattle.parquet_meta.specs.Places.{part_at}
use Rattle.parquet_plain.specs.Description.{PlainChunk, PlainGroup, PlainFile, chunk_bytes}
use Rattle.parquet_plain.specs.File.{Starts, behind, behind_all, magic, chunks_of, data_bytes, chunk_index_bytes, indexes_bytes, chunk_locations_bytes, all_locations_bytes, first_starts, parts_bytes, tail_bytes, plain_file, meta_data_of_plain}
use Rattle.parquet_plain.specs.Structs.{footer_bytes}
use Rattle.parquet_plain.specs.Found.{ChunkStands, ChunksStand, GroupsStand, place_at}

-- bytes of a file from a place on
pub record Lies (file : List ℕ) (place : ℕ) (own : List ℕ) : Type 0 where
  pub before : List ℕ
  pub after : List ℕ
  pub is : file ≡ before ++ (own ++ after)
  pub at : length before ≡ place

pub part_at-lies : (file : List ℕ) (place : ℕ) (own : List ℕ) → Lies file place own → part_at file (place_at place own) ≡ Some own
part_at-lies file place own lies =
    let within : place + length own ≤ length (lies.before ++ (own ++ lies.after)) = omega (arith, lies.at, length-append lies.before (own ++ lies.after), length-append own lies.after) in
    rw (lies.is, le-leb (place + length own) (length (lies.before ++ (own ++ lies.after))) within, ← lies.at, drop-append_seam lies.before (own ++ lies.after), take-append_seam own lies.after) refl

pub lies_first : (file : List ℕ) (place : ℕ) (first second : List ℕ) → Lies file place (first ++ second) → Lies file place first
lies_first file place first second lies = record {
  before = lies.before;
  after = second ++ lies.after;
  is = lies.is ∙ ap (λ (bs : List ℕ). lies.before ++ bs) (append_assoc first second lies.after);
  at = lies.at;
}

pub lies_second : (file : List ℕ) (place : ℕ) (first second : List ℕ) → Lies file place (first ++ second) → Lies file (place + length first) second
lies_second file place first second lies = record {
  before = lies.before ++ first;
  after = lies.after;
  is = lies.is ∙ simp append_assoc;
  at = omega (arith, lies.at, length-append lies.before first);
}

-- ---- chunks and their indexes

pub record AreAt (file : List ℕ) (at : Starts) (chunks : List PlainChunk) : Type 0 where
  pub chunks_lie : Lies file at.chunk (data_bytes chunks)
  pub indexes_lie : Lies file at.index (indexes_bytes chunks)
  pub locations_lie : Lies file at.locations (all_locations_bytes at.chunk chunks)

pub first_stands : (file : List ℕ) (at : Starts) (chunk : PlainChunk) (chunks : List PlainChunk) → AreAt file at (chunk ∷ chunks) → ChunkStands file at chunk
unfolding all_locations_bytes
first_stands file at chunk chunks are = record {
  chunk_stands = part_at-lies file at.chunk (chunk_bytes chunk) (lies_first file at.chunk (chunk_bytes chunk) (data_bytes chunks) are.chunks_lie);
  index_stands = part_at-lies file at.index (chunk_index_bytes chunk) (lies_first file at.index (chunk_index_bytes chunk) (indexes_bytes chunks) are.indexes_lie);
  locations_stand = part_at-lies file at.locations (chunk_locations_bytes at.chunk chunk) (lies_first file at.locations (chunk_locations_bytes at.chunk chunk) (all_locations_bytes (at.chunk + length (chunk_bytes chunk)) chunks) are.locations_lie);
}

pub others_are : (file : List ℕ) (at : Starts) (chunk : PlainChunk) (chunks : List PlainChunk) → AreAt file at (chunk ∷ chunks) → AreAt file (behind at chunk) chunks
unfolding all_locations_bytes
others_are file at chunk chunks are = record {
  chunks_lie = lies_second file at.chunk (chunk_bytes chunk) (data_bytes chunks) are.chunks_lie;
  indexes_lie = lies_second file at.index (chunk_index_bytes chunk) (indexes_bytes chunks) are.indexes_lie;
  locations_lie = lies_second file at.locations (chunk_locations_bytes at.chunk chunk) (all_locations_bytes (at.chunk + length (chunk_bytes chunk)) chunks) are.locations_lie;
}

pub all_stand : (file : List ℕ) (at : Starts) (chunks others : List PlainChunk) → AreAt file at (chunks ++ others) → ChunksStand file at chunks × AreAt file (behind_all at chunks) others
all_stand file at [] others are = (tt, are)
all_stand file at (chunk ∷ chunks) others are =
    let rest = all_stand file (behind at chunk) chunks others (others_are file at chunk (chunks ++ others) are) in
    ((first_stands file at chunk (chunks ++ others) are, rest.0), rest.1)

pub groups_stand : (file : List ℕ) (at : Starts) (groups : List PlainGroup) → AreAt file at (chunks_of groups) → GroupsStand file at groups
groups_stand file at [] are = tt
groups_stand file at (group ∷ groups) are =
    let both = all_stand file at group.chunks (chunks_of groups) are in
    (both.0, groups_stand file (behind_all at group.chunks) groups both.1)

-- ---- the whole file

pub parts_are : (chunks : List PlainChunk) (tail : List ℕ) → AreAt (parts_bytes chunks ++ tail) (first_starts chunks) chunks
parts_are chunks tail = record {
  chunks_lie = record { before = magic; after = (indexes_bytes chunks ++ all_locations_bytes 4 chunks) ++ tail; is = simp append_assoc; at = refl };
  indexes_lie = record { before = magic ++ data_bytes chunks; after = all_locations_bytes 4 chunks ++ tail; is = simp append_assoc; at = omega arith };
  locations_lie = record { before = magic ++ (data_bytes chunks ++ indexes_bytes chunks); after = tail; is = simp append_assoc; at = omega (arith, length-append (data_bytes chunks) (indexes_bytes chunks)) };
}

pub all_parts_stand : (file : PlainFile) → GroupsStand (plain_file file) (first_starts (chunks_of file.groups)) file.groups
unfolding plain_file
all_parts_stand file =
    groups_stand (parts_bytes (chunks_of file.groups) ++ tail_bytes (footer_bytes (meta_data_of_plain file))) (first_starts (chunks_of file.groups)) file.groups
    (parts_are (chunks_of file.groups) (tail_bytes (footer_bytes (meta_data_of_plain file))))

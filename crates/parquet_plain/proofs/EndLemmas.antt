-- The end of a file tells where its footer stands.
use Rattle.std.proofs.Common.{◌≡◌, ℕ, ◌+◌, ◌-◌, ◌^◌, ◌<◌, ◌≤◌, List, [], ◌++◌, Some, refl, arith, length, drop, append_assoc, length-append, append-nil}
use Rattle.std.specs.Int.{w32, to_le_bytes}
use Rattle.std.specs.Prelude.{All, sum_by}
use Rattle.std.proofs.lemmas.Bool.{le-leb}
use Rattle.std.proofs.lemmas.Nat.{from_le_bytes-to_le_bytes_4}
use Rattle.std.proofs.Math.Seq.{take-append_seam, drop-append_seam}
use Rattle.parquet_meta.specs.File.{footer_length, footer_at, footer, meta_data_in}
use Rattle.parquet_meta.specs.Footer.{file_meta_data}
use Rattle.parquet_meta.specs.Places.{bytes_at}
use Rattle.parquet_meta.specs.declared.metadata.FileMetaData.{FileMetaData}
use Rattle.compact_write.specs.Written.{CanWriteFields, fields_bytes}
use Rattle.parquet_plain.specs.Description.{PlainFile, PlainGroup}
use Rattle.parquet_plain.specs.File.{magic, tail_bytes, parts_bytes, chunks_of, plain_file, meta_data_of_plain}
use Rattle.parquet_plain.specs.Structs.{footer_fields, footer_bytes}
use Rattle.parquet_plain.proofs.FooterLemmas.{footer-means, meta_data-is, footer_of_plain}
use Rattle.parquet_plain.proofs.StructLemmas.{value_in-written}
use Rattle.parquet_plain.specs.Fits.{HasChunks, IsPlainColumn}

footer_length-written : (n : ℕ) → n < 2 ^ 32 → footer_length (to_le_bytes w32 n ++ magic) ≡ Some n
unfolding footer_length
footer_length-written n lt = rw (from_le_bytes-to_le_bytes_4 n lt) refl

-- the footer stands before the last eight bytes
footer_at-any : (front own tail : List ℕ) → length tail ≡ 8 → footer_length tail ≡ Some (length own) → 4 ≤ length front →
    footer_at (front ++ (own ++ tail)) ≡ Some (record { offset = length front; length = length own })
unfolding footer_at
footer_at-any front own tail eight tells some =
    let long : length (front ++ (own ++ tail)) ≡ length front + (length own + 8) = omega (arith, length-append front (own ++ tail), length-append own tail) in
    let cut : length front + (length own + 8) - 8 ≡ length (front ++ own) = omega (arith, length-append front own) in
    let behind : drop (length (front ++ own)) (front ++ (own ++ tail)) ≡ tail = rw (← append_assoc front own tail) (drop-append_seam (front ++ own) tail) in
    let place : length (front ++ own) - length own ≡ length front = omega (arith, length-append front own) in
    rw (long, cut, behind, tells, le-leb 12 (length front + (length own + 8)) (omega arith), le-leb (length own) (length (front ++ own)) (omega (arith, length-append front own)), place) refl

pub footer_at-written : (front own : List ℕ) → 4 ≤ length front → length own < 2 ^ 32 → footer_at (front ++ tail_bytes own) ≡ Some (record { offset = length front; length = length own })
footer_at-written front own some lt = footer_at-any front own (to_le_bytes w32 (length own) ++ magic) refl (footer_length-written (length own) lt) some

bytes_at-own : (front own tail : List ℕ) → bytes_at (front ++ (own ++ tail)) (record { offset = length front; length = length own }) ≡ own
bytes_at-own front own tail = rw (drop-append_seam front (own ++ tail), take-append_seam own tail) refl

pub footer-written : (front own : List ℕ) (file : FileMetaData) → 4 ≤ length front → length own < 2 ^ 32 → meta_data_in own ≡ Some file → footer (front ++ tail_bytes own) ≡ Some file
unfolding footer
footer-written front own file some lt says = rw (footer_at-written front own some lt, bytes_at-own front own (to_le_bytes w32 (length own) ++ magic), says) refl

-- a file of which the footer can be written
pub record IsWritable (file : PlainFile) : Type 0 where
  pub columns : All IsPlainColumn file.columns
  pub chunks : All (HasChunks (length file.columns)) file.groups
  pub rows : sum_by (λ (group : PlainGroup). group.rows) file.groups < 2 ^ 63
  pub fields : CanWriteFields 0 (footer_fields (meta_data_of_plain file))
  pub size : length (footer_bytes (meta_data_of_plain file)) < 2 ^ 32

meta_data_in-written : (file : PlainFile) → IsWritable file → meta_data_in (footer_bytes (meta_data_of_plain file)) ≡ Some (meta_data_of_plain file)
unfolding meta_data_in footer_bytes
meta_data_in-written file is =
    rw (
      ← append-nil (fields_bytes 0 (footer_fields (meta_data_of_plain file))),
      value_in-written file_meta_data (footer_fields (meta_data_of_plain file)) [] (footer_of_plain file) is.fields (footer-means file is.columns),
    )
    (meta_data-is file is.chunks is.rows)

-- the footer of a plain file says what the file was written from
pub footer-of-plain : (file : PlainFile) → IsWritable file → footer (plain_file file) ≡ Some (meta_data_of_plain file)
unfolding plain_file
footer-of-plain file is =
    footer-written (parts_bytes (chunks_of file.groups)) (footer_bytes (meta_data_of_plain file)) (meta_data_of_plain file) (omega arith) is.size (meta_data_in-written file is)

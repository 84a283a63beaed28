-- What is told of groups makes the metadata of the file, and the parts make its bytes.
use Rattle.std.proofs.Common.{◌≡◌, ℕ, ◌+◌, List, [], ◌∷◌, ◌++◌, refl, sym, ap, ◌∙◌, arith, length, map, append_assoc, length-append}
use Rattle.std.specs.Prelude.{sum_by}
use Rattle.std.proofs.lemmas.List.Sums.{sum_by-cons}
use Rattle.parquet_meta.specs.declared.metadata.ColumnChunkMetaData.{ColumnChunkMetaData}
use Rattle.parquet_meta.specs.declared.metadata.ColumnDescriptor.{ColumnDescriptor}
use Rattle.parquet_meta.specs.declared.metadata.FileMetaData.{FileMetaData}
use Rattle.parquet_meta.specs.declared.metadata.RowGroupMetaData.{RowGroupMetaData}
use Rattle.parquet_plain.specs.Description.{PlainChunk, PlainFile, PlainGroup, descriptor_of}
use Rattle.parquet_plain.specs.File.{Starts, all_locations_bytes, behind, behind_all, chunks_of, columns_at, data_bytes, first_starts, groups_at, indexes_bytes, magic, meta_data_of_plain, plain_file, tail_bytes}
use Rattle.parquet_plain.specs.Structs.{footer_bytes}
use Rattle.parquet_write.specs.Parts.{AddsChunks, BeginsFile, bases_of, file_bytes, group_facts, groups_facts, starts_of, told_of}
use Rattle.parquet_write.specs.Told.{all_facts, column_told, columns_told, facts_of, file_told, group_told}
use Rattle.parquet_write.specs.declared.facts.Bases.{Bases}
use Rattle.parquet_write.specs.declared.facts.GroupFacts.{GroupFacts}
use Rattle.parquet_write.specs.declared.parts.Parts.{Parts}
use Rattle.parquet_write.proofs.PartLemmas.{starts_alike}

-- places that count from the beginnings of the indexes
abbrev shifted : Bases → Starts → Starts
shifted bases at = record { chunk = at.chunk; index = bases.indexes + at.index; locations = bases.locations + at.locations }

behind-shifted : (bases : Bases) (at : Starts) (chunk : PlainChunk) → shifted bases (behind at chunk) ≡ behind (shifted bases at) chunk
behind-shifted bases at chunk = starts_alike refl (omega arith) (omega arith)

behind_all-shifted : (bases : Bases) (at : Starts) (chunks : List PlainChunk) → shifted bases (behind_all at chunks) ≡ behind_all (shifted bases at) chunks
behind_all-shifted bases at [] = refl
behind_all-shifted bases at (chunk ∷ chunks) = behind_all-shifted bases (behind at chunk) chunks ∙ ap (λ (s : Starts). behind_all s chunks) (behind-shifted bases at chunk)

columns-are : (descriptors : List ColumnDescriptor) (bases : Bases) (at : Starts) (chunks : List PlainChunk) → columns_told descriptors bases (all_facts at chunks) ≡ columns_at descriptors (shifted bases at) chunks
unfolding columns_told columns_at
columns-are [] bases at chunks = refl
columns-are (descriptor ∷ descriptors) bases at [] = refl
columns-are (descriptor ∷ descriptors) bases at (chunk ∷ chunks) =
    ap (λ (others : List ColumnChunkMetaData). column_told descriptor bases (facts_of at chunk) ∷ others)
    (columns-are descriptors bases (behind at chunk) chunks ∙ ap (λ (s : Starts). columns_at descriptors s chunks) (behind-shifted bases at chunk))

groups-are : (descriptors : List ColumnDescriptor) (bases : Bases) (at : Starts) (groups : List PlainGroup) → map (group_told descriptors bases) (groups_facts at groups) ≡ groups_at descriptors (shifted bases at) groups
unfolding groups_at
groups-are descriptors bases at [] = refl
groups-are descriptors bases at (group ∷ groups) =
    let told : List RowGroupMetaData = map (group_told descriptors bases) (groups_facts (behind_all at group.chunks) groups) in
    ap (λ (columns : List ColumnChunkMetaData). record { columns = columns; num_rows = group.rows } ∷ told) (columns-are descriptors bases at group.chunks)
    ∙ ap (λ (others : List RowGroupMetaData). record { columns = columns_at descriptors (shifted bases at) group.chunks; num_rows = group.rows } ∷ others)
    (groups-are descriptors bases (behind_all at group.chunks) groups ∙ ap (λ (s : Starts). groups_at descriptors s groups) (behind_all-shifted bases at group.chunks))

rows-are : (at : Starts) (groups : List PlainGroup) → sum_by (λ (group : GroupFacts). group.rows) (groups_facts at groups) ≡ sum_by (λ (group : PlainGroup). group.rows) groups
rows-are at [] = refl
rows-are at (group ∷ groups) =
    sum_by-cons (λ (g : GroupFacts). g.rows) (group_facts at group) (groups_facts (behind_all at group.chunks) groups)
    ∙ ap (λ (n : ℕ). group.rows + n) (rows-are (behind_all at group.chunks) groups) ∙ sym (sum_by-cons (λ (g : PlainGroup). g.rows) group groups)

-- where the chunks of a file and their indexes begin, before they are joined
abbrev pub first_at : Starts
first_at = record { chunk = 4; index = 0; locations = 0 }

pub file-told : (file : PlainFile) (bases : Bases) → bases.indexes ≡ 4 + length (data_bytes (chunks_of file.groups)) →
    bases.locations ≡ 4 + length (data_bytes (chunks_of file.groups)) + length (indexes_bytes (chunks_of file.groups)) →
    file_told (map descriptor_of file.columns) bases (groups_facts first_at file.groups) ≡ meta_data_of_plain file
unfolding meta_data_of_plain
file-told file bases indexes locations =
    let descriptors : List ColumnDescriptor = map descriptor_of file.columns in
    let made : ℕ → List RowGroupMetaData → FileMetaData = λ rows groups. record { num_rows = rows; columns = descriptors; row_groups = groups } in
    let at : shifted bases first_at ≡ first_starts (chunks_of file.groups) = starts_alike refl (omega (arith, indexes)) (omega (arith, locations)) in
    ap (λ (n : ℕ). made n (map (group_told descriptors bases) (groups_facts first_at file.groups))) (rows-are first_at file.groups)
    ∙ ap (made (sum_by (λ (group : PlainGroup). group.rows) file.groups)) (groups-are descriptors bases first_at file.groups ∙ ap (λ (s : Starts). groups_at descriptors s file.groups) at)

-- ---- the whole file

regrouped : (m d i l t : List ℕ) → (((m ++ d) ++ i) ++ l) ++ t ≡ (m ++ (d ++ (i ++ l))) ++ t
regrouped m d i l t = simp append_assoc

-- what the parts of a file are that were empty at first
record ArePartsOf (parts : Parts) (chunks : List PlainChunk) : Type 0 where
  pub pages : parts.chunks.items ≡ magic ++ data_bytes chunks
  pub indexes : parts.indexes.items ≡ indexes_bytes chunks
  pub locations : parts.locations.items ≡ all_locations_bytes 4 chunks

are-parts : (parts now : Parts) (chunks : List PlainChunk) → BeginsFile parts → AddsChunks parts now chunks → ArePartsOf now chunks
are-parts parts now chunks begins adds = record {
  pages = adds.pages ∙ ap (λ (bs : List ℕ). bs ++ data_bytes chunks) begins.begins;
  indexes = adds.indexes ∙ ap (λ (bs : List ℕ). bs ++ indexes_bytes chunks) begins.no_indexes;
  locations = adds.locations ∙ ap (λ (bs : List ℕ). bs ++ all_locations_bytes (length parts.chunks.items) chunks) begins.no_locations
      ∙ ap (λ (bs : List ℕ). all_locations_bytes (length bs) chunks) begins.begins;
}

-- what the footer tells of the groups that were added
pub told-is : (file : PlainFile) (parts now : Parts) (groups : List GroupFacts) → BeginsFile parts → AddsChunks parts now (chunks_of file.groups) →
    groups ≡ groups_facts (starts_of parts) file.groups → told_of now (map descriptor_of file.columns) groups ≡ meta_data_of_plain file
told-is file parts now groups begins adds told =
    let chunks : List PlainChunk = chunks_of file.groups in
    let descriptors : List ColumnDescriptor = map descriptor_of file.columns in
    let are = are-parts parts now chunks begins adds in
    let at : starts_of parts ≡ first_at = starts_alike (ap length begins.begins) (ap length begins.no_indexes) (ap length begins.no_locations) in
    let long : length now.chunks.items ≡ 4 + length (data_bytes chunks) = ap length are.pages ∙ length-append magic (data_bytes chunks) in
    ap (file_told descriptors (bases_of now)) (told ∙ ap (λ (s : Starts). groups_facts s file.groups) at)
    ∙ file-told file (bases_of now) long (omega (arith, long, ap length are.indexes))

-- the parts, one behind another, and the end of the file are the file
pub file-is : (file : PlainFile) (parts now : Parts) (groups : List GroupFacts) → BeginsFile parts → AddsChunks parts now (chunks_of file.groups) →
    groups ≡ groups_facts (starts_of parts) file.groups → file_bytes now (map descriptor_of file.columns) groups ≡ plain_file file
unfolding plain_file
file-is file parts now groups begins adds told =
    let chunks : List PlainChunk = chunks_of file.groups in
    let descriptors : List ColumnDescriptor = map descriptor_of file.columns in
    let are = are-parts parts now chunks begins adds in
    let d : List ℕ = data_bytes chunks in
    let i : List ℕ = indexes_bytes chunks in
    let l : List ℕ = all_locations_bytes 4 chunks in
    let end : List ℕ = tail_bytes (footer_bytes (told_of now descriptors groups)) in
    ap (λ (bs : List ℕ). ((bs ++ now.indexes.items) ++ now.locations.items) ++ end) are.pages
    ∙ ap (λ (bs : List ℕ). (((magic ++ d) ++ bs) ++ now.locations.items) ++ end) are.indexes
    ∙ ap (λ (bs : List ℕ). (((magic ++ d) ++ i) ++ bs) ++ end) are.locations
    ∙ ap (λ (m : FileMetaData). (((magic ++ d) ++ i) ++ l) ++ tail_bytes (footer_bytes m)) (told-is file parts now groups begins adds told)
    ∙ regrouped magic d i l (tail_bytes (footer_bytes (meta_data_of_plain file)))

-- The chunks of a group, one after another.
use Rattle.std.proofs.Common.{◌≡◌, ℕ, suc, ◌+◌, ◌<◌, ◌≤◌, add-one, List, [], ◌∷◌, ◌++◌, refl, sym, ap, ◌∙◌, arith, length, drop, get_or, append-nil}
use Rattle.std.specs.Prelude.{sum_by}
use Rattle.std.proofs.lemmas.List.{drop_all}
use Rattle.std.proofs.lemmas.List.Sums.{sum_by-cons}
use Rattle.std.proofs.Math.Seq.{drop-cons}
use Rattle.compact_write.specs.Fields.{values_of}
use Rattle.compact_write.specs.Written.{element_bytes, elements_bytes, value_count}
use Rattle.compact_write.proofs.FieldLemmas.{value_count-values}
use Rattle.parquet_meta.specs.declared.metadata.ColumnChunkMetaData.{ColumnChunkMetaData}
use Rattle.parquet_meta.specs.declared.metadata.ColumnDescriptor.{ColumnDescriptor}
use Rattle.parquet_plain.specs.Structs.{chunk_value}
use Rattle.parquet_write.specs.Told.{column_told, columns_told}
use Rattle.parquet_write.specs.declared.facts.Bases.{Bases}
use Rattle.parquet_write.specs.declared.facts.ChunkFacts.{ChunkFacts}
use Rattle.parquet_write.proofs.StepLemmas.{part}

abbrev chunks_bytes : List ColumnDescriptor → Bases → List ChunkFacts → List ℕ
chunks_bytes columns bases chunks = elements_bytes (values_of chunk_value (columns_told columns bases chunks))

-- what is written, and the chunks that are left, are the whole
pub record IsWritingChunks (columns : List ColumnDescriptor) (bases : Bases) (chunks : List ChunkFacts) (start out : List ℕ) (i : ℕ) : Type 0 where
  pub same : out ++ chunks_bytes (drop i columns) bases (drop i chunks) ≡ start ++ chunks_bytes columns bases chunks

chunks_next : (columns : List ColumnDescriptor) (bases : Bases) (chunks : List ChunkFacts) (i : ℕ) (column : ColumnDescriptor) (chunk : ChunkFacts) → i < length columns → i < length chunks →
    chunks_bytes (drop i columns) bases (drop i chunks)
    ≡ element_bytes (chunk_value (column_told (get_or columns i column) bases (get_or chunks i chunk))) ++ chunks_bytes (drop (suc i) columns) bases (drop (suc i) chunks)
unfolding columns_told values_of elements_bytes
chunks_next columns bases chunks i column chunk first second =
    ap (λ (cs : List ColumnDescriptor). chunks_bytes cs bases (drop i chunks)) (drop-cons columns i column first)
    ∙ ap (λ (fs : List ChunkFacts). chunks_bytes (get_or columns i column ∷ drop (suc i) columns) bases fs) (drop-cons chunks i chunk second)

pub chunks_begin : (columns : List ColumnDescriptor) (bases : Bases) (chunks : List ChunkFacts) (out : List ℕ) → IsWritingChunks columns bases chunks out out 0
chunks_begin columns bases chunks out = record { same = refl }

pub chunks_go_on : (columns : List ColumnDescriptor) (bases : Bases) (chunks : List ChunkFacts) (start out next : List ℕ) (i : ℕ) (column : ColumnDescriptor) (chunk : ChunkFacts) → i < length columns → i < length chunks →
    column ≡ get_or columns i column → chunk ≡ get_or chunks i chunk → IsWritingChunks columns bases chunks start out i → next ≡ out ++ element_bytes (chunk_value (column_told column bases chunk)) →
    IsWritingChunks columns bases chunks start next (i + 1)
chunks_go_on columns bases chunks start out next i column chunk first second at own is one =
    let left = chunks_next columns bases chunks i column chunk first second in
    let it = ap (λ (d : ColumnDescriptor). element_bytes (chunk_value (column_told d bases chunk))) at ∙ ap (λ (f : ChunkFacts). element_bytes (chunk_value (column_told (get_or columns i column) bases f))) own in
    let step = part (element_bytes (chunk_value (column_told (get_or columns i column) bases (get_or chunks i chunk)))) (chunks_bytes (drop (suc i) columns) bases (drop (suc i) chunks)) out next (start ++ chunks_bytes columns bases chunks)
    (ap (λ (bs : List ℕ). out ++ bs) (sym left) ∙ is.same) (one ∙ ap (λ (bs : List ℕ). out ++ bs) it) in
    record { same = rw (add-one i) step }

none_left : (columns : List ColumnDescriptor) (bases : Bases) → chunks_bytes columns bases [] ≡ []
unfolding columns_told values_of elements_bytes
none_left [] bases = refl
none_left (column ∷ columns) bases = refl

pub chunks_end : (columns : List ColumnDescriptor) (bases : Bases) (chunks : List ChunkFacts) (start out : List ℕ) (i : ℕ) → length chunks ≤ i → IsWritingChunks columns bases chunks start out i → out ≡ start ++ chunks_bytes columns bases chunks
chunks_end columns bases chunks start out i done is =
    sym (append-nil out) ∙ ap (λ (bs : List ℕ). out ++ bs) (sym (none_left (drop i columns) bases)) ∙ ap (λ (fs : List ChunkFacts). out ++ chunks_bytes (drop i columns) bases fs) (sym (drop_all i chunks done)) ∙ is.same

-- ---- counts and sizes

length-told : (columns : List ColumnDescriptor) (bases : Bases) (chunks : List ChunkFacts) → length chunks ≡ length columns → length (columns_told columns bases chunks) ≡ length chunks
unfolding columns_told
length-told [] bases [] e = refl
length-told [] bases (chunk ∷ chunks) e = absurd (omega arith)
length-told (column ∷ columns) bases [] e = refl
length-told (column ∷ columns) bases (chunk ∷ chunks) e = ap suc (length-told columns bases chunks (omega arith))

pub count-told : (columns : List ColumnDescriptor) (bases : Bases) (chunks : List ChunkFacts) → length chunks ≡ length columns → length chunks ≡ value_count (values_of chunk_value (columns_told columns bases chunks))
count-told columns bases chunks e = sym (value_count-values chunk_value (columns_told columns bases chunks) ∙ length-told columns bases chunks e)

pub size-told : (columns : List ColumnDescriptor) (bases : Bases) (chunks : List ChunkFacts) → length chunks ≡ length columns →
    sum_by (λ (chunk : ChunkFacts). chunk.size) chunks ≡ sum_by (λ (column : ColumnChunkMetaData). column.total_compressed_size) (columns_told columns bases chunks)
unfolding columns_told
size-told [] bases [] e = refl
size-told [] bases (chunk ∷ chunks) e = absurd (omega arith)
size-told (column ∷ columns) bases [] e = refl
size-told (column ∷ columns) bases (chunk ∷ chunks) e =
    sum_by-cons (λ (f : ChunkFacts). f.size) chunk chunks ∙ ap (λ (n : ℕ). chunk.size + n) (size-told columns bases chunks (omega arith))
    ∙ sym (sum_by-cons (λ (d : ColumnChunkMetaData). d.total_compressed_size) (column_told column bases chunk) (columns_told columns bases chunks))

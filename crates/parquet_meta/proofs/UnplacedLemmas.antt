-- Chunks in the memory of their columns: one more, and one after the other beside leaves.
use Rattle.std.proofs.Common.{◌≡◌, ℕ, suc, ◌+◌, ◌<◌, ◌≤◌, ◌≢◌, List, [], ◌∷◌, ◌++◌, Option, Some, None, refl, sym, ap, ap₂, ◌∙◌, arith, length, take, drop, get_or, set}
use Rattle.std.proofs.lemmas.List.{append-nil, drop_all, take_all, take_more_set, drop-set-lt, length-set}
use Rattle.parquet_meta.specs.File.{column_data_of, columns_of}
use Rattle.parquet_meta.specs.Unplaced.{chunk_in, chunks_in}
use Rattle.parquet_meta.specs.declared.code.TypeCode.{TypeCode}
use Rattle.parquet_meta.specs.declared.footer.ColumnChunk.{ColumnChunk}
use Rattle.parquet_meta.specs.declared.metadata.ColumnDescriptor.{ColumnDescriptor}
use Rattle.parquet_meta.specs.declared.metadata.ColumnChunkMetaData.{ColumnChunkMetaData}
use Rattle.parquet_meta.proofs.ListLemmas.{before, before_none, one_and, pushed, item_and_others}

abbrev Told : Type 0
Told = Option TypeCode

more : (column : ColumnChunkMetaData) (code : Told) (columns : List ColumnChunkMetaData) (told : List Told) → length told ≡ length columns →
    chunks_in (columns ++ column ∷ []) (told ++ code ∷ []) ≡ chunks_in columns told ++ chunk_in column code ∷ []
unfolding chunks_in
more column code [] [] e = refl
more column code [] (other ∷ told) e = absurd (omega (arith, e))
more column code (first ∷ columns) [] e = absurd (omega (arith, e))
more column code (first ∷ columns) (other ∷ told) e = ap (λ (rest : List ColumnChunk). chunk_in first other ∷ rest) (more column code columns told (omega (arith, e)))

pub one_more : (column : ColumnChunkMetaData) (code : Told) (chunk : ColumnChunk) (columns new_columns : List ColumnChunkMetaData) (told new_told : List Told) → length told ≡ length columns →
    chunk_in column code ≡ chunk → new_columns ≡ columns ++ column ∷ [] → new_told ≡ told ++ code ∷ [] → chunks_in new_columns new_told ≡ chunks_in columns told ++ chunk ∷ []
one_more column code chunk columns new_columns told new_told e is c t =
    ap₂ chunks_in c t ∙ more column code columns told e ∙ ap (λ (one : ColumnChunk). chunks_in columns told ++ one ∷ []) is

-- ---- beside leaves

-- the columns that are placed, and what the leaves and chunks behind them make
pub record IsPlacing (leaves : List ColumnDescriptor) (all : List ColumnChunkMetaData) (told : List Told) (i : ℕ) (columns : List ColumnChunkMetaData) : Type 0 where
  pub leaves_len : length leaves ≡ length columns
  pub told_len : length told ≡ length columns
  pub same : before (take i columns) (columns_of (drop i leaves) (chunks_in (drop i columns) (drop i told))) ≡ columns_of leaves (chunks_in all told)

pub begins : (leaves : List ColumnDescriptor) (all : List ColumnChunkMetaData) (told : List Told) → length leaves ≡ length all → length told ≡ length all → IsPlacing leaves all told 0 all
begins leaves all told l t = record { leaves_len = l; told_len = t; same = before_none (columns_of leaves (chunks_in all told)) }

both-next : (leaf : ColumnDescriptor) (leaves : List ColumnDescriptor) (column : ColumnChunkMetaData) (columns : List ColumnChunkMetaData) (code : Told) (told : List Told) (o : Option ColumnChunkMetaData) →
    column_data_of leaf (chunk_in column code) ≡ o → columns_of (leaf ∷ leaves) (chunks_in (column ∷ columns) (code ∷ told)) ≡ one_and o (columns_of leaves (chunks_in columns told))
unfolding columns_of chunks_in
both-next leaf leaves column columns code told o is = ap (λ (o : Option ColumnChunkMetaData). one_and o (columns_of leaves (chunks_in columns told))) is

-- what a leaf and a chunk make
next : (leaves : List ColumnDescriptor) (told : List Told) (i : ℕ) (columns : List ColumnChunkMetaData) (leaf : ColumnDescriptor) (column : ColumnChunkMetaData) (code : Told) (o : Option ColumnChunkMetaData) →
    i < length leaves → length leaves ≡ length columns → length told ≡ length columns → leaf ≡ get_or leaves i leaf → column ≡ get_or columns i column → code ≡ get_or told i code →
    column_data_of leaf (chunk_in column code) ≡ o →
    columns_of (drop i leaves) (chunks_in (drop i columns) (drop i told)) ≡ one_and o (columns_of (drop (i + 1) leaves) (chunks_in (drop (i + 1) columns) (drop (i + 1) told)))
next leaves told i columns leaf column code o lt l t leaf_is column_is code_is made =
    ap (λ (ls : List ColumnDescriptor). columns_of ls (chunks_in (drop i columns) (drop i told))) (item_and_others leaves i leaf lt leaf_is)
    ∙ ap (λ (cs : List ColumnChunkMetaData). columns_of (leaf ∷ drop (i + 1) leaves) (chunks_in cs (drop i told))) (item_and_others columns i column (omega (arith, l)) column_is)
    ∙ ap (λ (ts : List Told). columns_of (leaf ∷ drop (i + 1) leaves) (chunks_in (column ∷ drop (i + 1) columns) ts)) (item_and_others told i code (omega (arith, l, t)) code_is)
    ∙ both-next leaf (drop (i + 1) leaves) column (drop (i + 1) columns) code (drop (i + 1) told) o made

pub goes_on : (leaves : List ColumnDescriptor) (all : List ColumnChunkMetaData) (told : List Told) (i : ℕ) (columns : List ColumnChunkMetaData) (leaf : ColumnDescriptor) (column made : ColumnChunkMetaData) (code : Told) →
    IsPlacing leaves all told i columns → i < length leaves → leaf ≡ get_or leaves i leaf → column ≡ get_or columns i column → code ≡ get_or told i code →
    column_data_of leaf (chunk_in column code) ≡ Some made → IsPlacing leaves all told (i + 1) (set columns i made)
goes_on leaves all told i columns leaf column made code h lt leaf_is column_is code_is one =
    let lt_columns : i < length columns = omega (arith, h.leaves_len) in
    let behind = columns_of (drop (i + 1) leaves) (chunks_in (drop (i + 1) columns) (drop (i + 1) told)) in
    record {
      leaves_len = h.leaves_len ∙ sym (length-set columns i made);
      told_len = h.told_len ∙ sym (length-set columns i made);
      same = ap (λ (front : List ColumnChunkMetaData). before front (columns_of (drop (i + 1) leaves) (chunks_in (drop (i + 1) (set columns i made)) (drop (i + 1) told)))) (take_more_set columns i made lt_columns)
          ∙ ap (λ (rest : List ColumnChunkMetaData). before (take i columns ++ made ∷ []) (columns_of (drop (i + 1) leaves) (chunks_in rest (drop (i + 1) told)))) (drop-set-lt (i + 1) columns i made (omega arith))
          ∙ sym (pushed (take i columns) made behind)
          ∙ sym (ap (before (take i columns)) (next leaves told i columns leaf column code (Some made) lt h.leaves_len h.told_len leaf_is column_is code_is one))
          ∙ h.same;
    }

pub fails : (leaves : List ColumnDescriptor) (all : List ColumnChunkMetaData) (told : List Told) (i : ℕ) (columns : List ColumnChunkMetaData) (leaf : ColumnDescriptor) (column : ColumnChunkMetaData) (code : Told) →
    IsPlacing leaves all told i columns → i < length leaves → leaf ≡ get_or leaves i leaf → column ≡ get_or columns i column → code ≡ get_or told i code →
    column_data_of leaf (chunk_in column code) ≡ None → columns_of leaves (chunks_in all told) ≡ None
fails leaves all told i columns leaf column code h lt leaf_is column_is code_is none =
    sym h.same ∙ ap (before (take i columns)) (next leaves told i columns leaf column code None lt h.leaves_len h.told_len leaf_is column_is code_is none)

pub ends : (leaves : List ColumnDescriptor) (all : List ColumnChunkMetaData) (told : List Told) (i : ℕ) (columns : List ColumnChunkMetaData) → IsPlacing leaves all told i columns → length leaves ≤ i →
    columns_of leaves (chunks_in all told) ≡ Some columns
unfolding columns_of chunks_in
ends leaves all told i columns h le =
    sym h.same
    ∙ ap₂ (λ (ls : List ColumnDescriptor) (cs : List ColumnChunkMetaData). before (take i columns) (columns_of ls (chunks_in cs (drop i told)))) (drop_all i leaves le) (drop_all i columns (omega (arith, h.leaves_len)))
    ∙ ap (λ (xs : List ColumnChunkMetaData). Some xs) (append-nil (take i columns) ∙ take_all i columns (omega (arith, h.leaves_len)))

-- as many chunks as leaves
pub other_length : (leaves : List ColumnDescriptor) (columns : List ColumnChunkMetaData) (told : List Told) → length told ≡ length columns → length columns ≢ length leaves → columns_of leaves (chunks_in columns told) ≡ None
unfolding columns_of chunks_in
other_length [] [] told t apart = absurd (apart refl)
other_length [] (column ∷ columns) [] t apart = absurd (omega (arith, t))
other_length [] (column ∷ columns) (code ∷ told) t apart = refl
other_length (leaf ∷ leaves) [] told t apart = refl
other_length (leaf ∷ leaves) (column ∷ columns) [] t apart = absurd (omega (arith, t))
other_length (leaf ∷ leaves) (column ∷ columns) (code ∷ told) t apart =
    nothing (column_data_of leaf (chunk_in column code)) (other_length leaves columns told (omega (arith, t)) (λ e. apart (ap suc e)))
  where
    nothing : (o : Option ColumnChunkMetaData) → columns_of leaves (chunks_in columns told) ≡ None → one_and o (columns_of leaves (chunks_in columns told)) ≡ None
    nothing None e = refl
    nothing (Some first) e = ap (one_and (Some first)) e

-- The groups of the sample have a chunk for each column, and its parts make the sample.
use Rattle.std.proofs.Common.{◌≡◌, ℕ, List, [], ◌∷◌, refl, sym, ap, ◌∙◌, length, map, Some, subst}
use Rattle.std.specs.Prelude.{All}
use Rattle.std.specs.List.{range_with_len}
use Rattle.std.proofs.lemmas.List.Elements.{All-cons, All-nil}
use Rattle.parquet_base.specs.Pieces.{cut}
use Rattle.parquet_meta.specs.declared.metadata.ColumnDescriptor.{ColumnDescriptor}
use Rattle.parquet_plain.specs.Columns.{written_chunks, written_file, written_group}
use Rattle.parquet_plain.specs.Description.{PlainFile, PlainGroup}
use Rattle.parquet_plain.specs.File.{Starts, behind_all, chunks_of}
use Rattle.parquet_sample.specs.Parts.{sample_groups, sample_descriptors}
use Rattle.parquet_sample.specs.Sample.{group_rows, rows_of_numbers, sample, sample_columns}
use Rattle.parquet_write.specs.Parts.{AddsChunks, BeginsFile, file_bytes, group_facts, groups_facts, starts_of}
use Rattle.parquet_write.specs.Told.{HasColumns}
use Rattle.parquet_write.specs.declared.facts.GroupFacts.{GroupFacts}
use Rattle.parquet_write.specs.declared.parts.Parts.{Parts}
use Rattle.parquet_write.proofs.FileLemmas.{file-is}

-- a group of the sample has three chunks
three_columns : (at : Starts) (pieces : List (List ℕ)) → All (HasColumns 3) (groups_facts at (map (written_group sample_columns) (map rows_of_numbers pieces)))
unfolding written_chunks
three_columns at [] = All-nil {X = GroupFacts} (HasColumns 3)
three_columns at (piece ∷ pieces) =
    let group : PlainGroup = written_group sample_columns (rows_of_numbers piece) in
    let others : List PlainGroup = map (written_group sample_columns) (map rows_of_numbers pieces) in
    All-cons {X = GroupFacts} (HasColumns 3) (group_facts at group) (groups_facts (behind_all at group.chunks) others) refl (three_columns (behind_all at group.chunks) pieces)

pub have_columns : (at : Starts) (first rows : ℕ) (columns : List ColumnDescriptor) (groups : List GroupFacts) → columns ≡ sample_descriptors → groups ≡ groups_facts at (sample_groups first rows) →
    All (HasColumns (length columns)) groups
have_columns at first rows columns groups own told =
    subst (λ (gs : List GroupFacts). All (HasColumns (length columns)) gs) (sym told)
    (subst (λ (n : ℕ). All (HasColumns n) (groups_facts at (sample_groups first rows))) (sym (ap length own)) (three_columns at (cut (Some group_rows) (range_with_len first rows))))

-- the parts, one behind another, and the end of the file are the sample
pub sample-is : (first rows : ℕ) (parts now : Parts) (columns : List ColumnDescriptor) (groups : List GroupFacts) → BeginsFile parts →
    AddsChunks parts now (chunks_of (sample_groups first rows)) → groups ≡ groups_facts (starts_of parts) (sample_groups first rows) → columns ≡ sample_descriptors →
    file_bytes now columns groups ≡ sample rows first
unfolding sample written_file
sample-is first rows parts now columns groups begins adds told own =
    let file : PlainFile = written_file sample_columns (map rows_of_numbers (cut (Some group_rows) (range_with_len first rows))) in
    ap (λ (cs : List ColumnDescriptor). file_bytes now cs groups) own ∙ file-is file parts now groups begins adds told

-- The text of the metadata of a file.
use Rattle.std.proofs.Common.{◌≡◌, ℕ, ◌+◌, Bool, List, [], ◌∷◌, ◌++◌, ◌∙◌, Option, Some, None, ap, arith, refl, subst, sym}
use Rattle.std.specs.Prelude.{IfSome, Result, Ok, Err, flat_map, sum_by}
use Rattle.std.specs.List.{enumerate_from}
use Rattle.std.proofs.lemmas.List.Sums.{sum_by-cons}
use Rattle.columns_core.specs.declared.error.Error.{Error}
use Rattle.parquet_meta.specs.Reads.{ReadsFile}
use Rattle.parquet_meta.specs.declared.metadata.FileMetaData.{FileMetaData}
use Rattle.parquet_meta.specs.declared.metadata.RowGroupMetaData.{RowGroupMetaData}
use Rattle.parquet_meta.specs.declared.source.Source.{Ghosts}
use Rattle.inspect_program.specs.Calls.{Section, Tells}
use Rattle.inspect_program.specs.Columns.{columns_text}
use Rattle.inspect_program.specs.Groups.{group_causes_told, group_indexes_length, group_text}
use Rattle.inspect_program.specs.Guess.{are_single}
use Rattle.inspect_program.specs.Inspection.{told_groups_causes, told_indexes_length, told_metadata}
use Rattle.inspect_program.specs.Sections.{groups_section}
use Rattle.inspect_program.proofs.TellsLemmas.{IsSame, tells_as}

flat_map-unnumbered : {X Y : Type 0} (f : X → List Y) (n : ℕ) (xs : List X) → flat_map (λ (item : ℕ × X). f item.1) (enumerate_from n xs) ≡ flat_map f xs
flat_map-unnumbered f n [] = refl
flat_map-unnumbered f n (x ∷ xs) = ap (λ rest. f x ++ rest) (flat_map-unnumbered f (n + 1) xs)

sum_by-unnumbered : {X : Type 0} (f : X → ℕ) (n : ℕ) (xs : List X) → sum_by (λ (item : ℕ × X). f item.1) (enumerate_from n xs) ≡ sum_by f xs
sum_by-unnumbered f n [] = refl
sum_by-unnumbered {X} f n (x ∷ xs) =
    sum_by-cons (λ (item : ℕ × X). f item.1) (n, x) (enumerate_from (n + 1) xs) ∙ ap (λ rest. f x + rest) (sum_by-unnumbered f (n + 1) xs) ∙ sym (sum_by-cons f x xs)

-- the groups of a file
abbrev pub file_section : FileMetaData → Section
file_section metadata = record {
  causes = λ bytes. told_groups_causes bytes metadata;
  text = λ bytes. flat_map (group_text (are_single metadata.columns) bytes) (enumerate_from 0 metadata.row_groups);
  length = told_indexes_length metadata;
}

is_file : (metadata : FileMetaData) → IsSame (groups_section (are_single metadata.columns) (enumerate_from 0 metadata.row_groups)) (file_section metadata)
is_file metadata = record {
  causes = λ bytes. sym (flat_map-unnumbered (group_causes_told (are_single metadata.columns) bytes) 0 metadata.row_groups);
  text = λ bytes. refl;
  length = omega (arith, sum_by-unnumbered (group_indexes_length (are_single metadata.columns)) 0 metadata.row_groups);
}

pub file_told : {S T : Type 0} {g : Ghosts S} {old new : S} (metadata : FileMetaData) (singles : List Bool) (s t : List ℕ) (r : Result T Error) → singles ≡ are_single metadata.columns
    → Tells g old new (groups_section singles (enumerate_from 0 metadata.row_groups)) s t r → Tells g old new (file_section metadata) s t r
file_told {S} {T} {g} {old} {new} metadata singles s t r same told =
    tells_as r (is_file metadata) (subst (λ (singles : List Bool). Tells {T = T} g old new (groups_section singles (enumerate_from 0 metadata.row_groups)) s t r) same told)

-- the lines of columns in front of them
pub text_told : (told : Option (List ℕ)) (metadata : FileMetaData) (s t : List ℕ) → s ≡ columns_text metadata.columns
    → IfSome told (λ bytes. t ≡ s ++ (file_section metadata).text bytes) → IfSome told (λ bytes. t ≡ told_metadata bytes metadata)
text_told None metadata s t columns adds = tt
text_told (Some bytes) metadata s t columns adds = adds ∙ ap (λ front. front ++ (file_section metadata).text bytes) columns

-- what a call reads, of whatever it answers
pub reads_any : {S T U : Type 0} {g : Ghosts S} {old new : S} {section : Section} {s t : List ℕ} {x : T} (y : U) → Tells g old new section s t (Ok x) → ReadsFile g old new section.causes (Ok y)
reads_any y told = record { keeps = told.reads.keeps; quiet = told.reads.quiet; ok = told.reads.ok; fails = tt }

pub reads_none : {S T U : Type 0} {g : Ghosts S} {old new : S} {section : Section} {s t : List ℕ} {e : Error} → Tells {T = T} g old new section s t (Err e) → ReadsFile {T = U} g old new section.causes (Err e)
reads_none told = record { keeps = told.reads.keeps; quiet = tt; ok = tt; fails = told.reads.fails }

-- the groups that a call is handed are those of the metadata
pub groups_of : {S T : Type 0} {g : Ghosts S} {old new : S} (singles : List Bool) {handed groups : List RowGroupMetaData} {s t : List ℕ} {r : Result T Error} → handed ≡ groups
    → Tells g old new (groups_section singles (enumerate_from 0 handed)) s t r → Tells g old new (groups_section singles (enumerate_from 0 groups)) s t r
groups_of {S} {T} {g} {old} {new} singles {handed} {groups} {s} {t} {r} are told =
    subst (λ (groups : List RowGroupMetaData). Tells {T = T} g old new (groups_section singles (enumerate_from 0 groups)) s t r) are told

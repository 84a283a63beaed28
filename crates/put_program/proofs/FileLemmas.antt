-- What is put is the file of its description.
use Rattle.std.proofs.Common.{◌≡◌, ◌⊎◌, inl, inr, ℕ, Bool, true, false, List, [], ◌∷◌, Option, Some, None, refl, sym, ap, subst, ◌∙◌, arith, if◌then◌else◌, length, map}
use Rattle.std.specs.Prelude.{All, IfErr, Result, Ok, Err}
use Rattle.std.specs.Result.{IsErrAnd}
use Rattle.std.specs.List.{AllZip}
use Rattle.std.proofs.lemmas.List.{length-map}
use Rattle.std.proofs.lemmas.List.Elements.{All-cons, All-head, All-nil, All-tail}
use Rattle.std.proofs.lemmas.Slice.Zip.{AllZip-long}
use Rattle.columns_core.specs.Array.{column_of}
use Rattle.columns_core.specs.Causes.{IsWantOfMemory}
use Rattle.columns_core.specs.declared.array.Array.{Array}
use Rattle.columns_core.specs.declared.data_type.Field.{Field}
use Rattle.columns_core.specs.declared.error.Error.{Error}
use Rattle.columns_core.specs.declared.error.Error.TheVariants.{Overflow}
use Rattle.parquet_page.specs.Stored.{Stored}
use Rattle.parquet_plain.specs.Columns.{Written, written_chunks, written_file, written_group}
use Rattle.parquet_plain.specs.Description.{PlainChunk, PlainColumn, PlainFile, PlainGroup}
use Rattle.parquet_plain.specs.File.{Starts, behind, behind_all, plain_file}
use Rattle.parquet_write.specs.Parts.{group_facts, groups_facts}
use Rattle.parquet_write.specs.Told.{HasColumns, all_facts}
use Rattle.parquet_write.specs.declared.facts.GroupFacts.{GroupFacts}
use Rattle.put_program.specs.Put.{are_written, column_of_field, is_short_file, put, put_description, stored_items, stored_rows, written_field}
use Rattle.put_program.specs.Request.{FitsField, FitsTogether, RefusesToPut, columns_of_chunks}
use Rattle.put_program.specs.Typed.{put_group, put_groups}

-- ---- the description

-- its columns and its groups
abbrev pub file_put : ℕ → List Field → List (List Array) → PlainFile
file_put page_rows fields chunks = record { columns = map column_of_field fields; groups = put_groups page_rows fields chunks }

columns-are : (page_rows : ℕ) (fields : List Field) → map (λ (to : Written). to.column) (map (written_field page_rows) fields) ≡ map column_of_field fields
columns-are page_rows [] = refl
columns-are page_rows (field ∷ fields) = ap (λ (columns : List PlainColumn). column_of_field field ∷ columns) (columns-are page_rows fields)

groups-are : (page_rows : ℕ) (fields : List Field) (chunks : List (List Array)) →
    map (written_group (map (written_field page_rows) fields)) (map stored_rows (columns_of_chunks chunks)) ≡ put_groups page_rows fields chunks
groups-are page_rows fields [] = refl
groups-are page_rows fields (chunk ∷ chunks) = ap (λ (groups : List PlainGroup). put_group page_rows fields chunk ∷ groups) (groups-are page_rows fields chunks)

pub description-is : (page_rows : ℕ) (fields : List Field) (chunks : List (List Array)) → put_description fields (columns_of_chunks chunks) page_rows ≡ file_put page_rows fields chunks
unfolding written_file
description-is page_rows fields chunks =
    let made : List PlainColumn → List PlainGroup → PlainFile = λ columns groups. record { columns = columns; groups = groups } in
    ap (λ (columns : List PlainColumn). made columns (map (written_group (map (written_field page_rows) fields)) (map stored_rows (columns_of_chunks chunks)))) (columns-are page_rows fields)
    ∙ ap (made (map column_of_field fields)) (groups-are page_rows fields chunks)

pub put-is : (page_rows : ℕ) (fields : List Field) (chunks : List (List Array)) (bytes : List ℕ) → are_written fields ≡ true → bytes ≡ plain_file (file_put page_rows fields chunks) →
    put fields (columns_of_chunks chunks) page_rows ≡ Some bytes
put-is page_rows fields chunks bytes written own =
    ap (λ (b : Bool). if b then Some (plain_file (put_description fields (columns_of_chunks chunks) page_rows)) else None) written
    ∙ ap (λ (file : PlainFile). Some (plain_file file)) (description-is page_rows fields chunks) ∙ ap (λ (bs : List ℕ). Some bs) (sym own)

-- ---- a chunk for each column

chunk-for-each : (columns : List Written) (rows : List (List (Option Stored))) → length rows ≡ length columns → length (written_chunks columns rows) ≡ length columns
unfolding written_chunks
chunk-for-each [] [] e = refl
chunk-for-each [] (r ∷ rows) e = refl
chunk-for-each (c ∷ columns) [] e = absurd (omega (arith, e))
chunk-for-each (c ∷ columns) (r ∷ rows) e = omega (arith, chunk-for-each columns rows (omega (arith, e)))

facts-for-each : (at : Starts) (chunks : List PlainChunk) → length (all_facts at chunks) ≡ length chunks
facts-for-each at [] = refl
facts-for-each at (chunk ∷ chunks) = omega (arith, facts-for-each (behind at chunk) chunks)

pub even-groups : (page_rows : ℕ) (fields : List Field) (at : Starts) (chunks : List (List Array)) → All (AllZip FitsField fields) chunks →
    All (HasColumns (length fields)) (groups_facts at (put_groups page_rows fields chunks))
even-groups page_rows fields at [] all = All-nil {X = GroupFacts} (HasColumns (length fields))
even-groups page_rows fields at (chunk ∷ chunks) all =
    let group : PlainGroup = put_group page_rows fields chunk in
    let columns : List Written = map (written_field page_rows) fields in
    let rows : List (List (Option Stored)) = map stored_items (map column_of chunk) in
    let many : length columns ≡ length fields = length-map fields (written_field page_rows) in
    let long : length rows ≡ length columns = omega (arith, length-map chunk column_of, length-map (map column_of chunk) stored_items, many, AllZip-long FitsField fields chunk (All-head (AllZip FitsField fields) chunk chunks all)) in
    All-cons {X = GroupFacts} (HasColumns (length fields)) (group_facts at group) (groups_facts (behind_all at group.chunks) (put_groups page_rows fields chunks))
    (facts-for-each at group.chunks ∙ chunk-for-each columns rows long ∙ many)
    (even-groups page_rows fields (behind_all at group.chunks) chunks (All-tail (AllZip FitsField fields) chunk chunks all))

-- ---- refusals

-- a part that is too large refuses the whole
pub refuses : (fields : List Field) (chunks : List (List Array)) (page_rows : ℕ) (part : Bool) (e : Error) → FitsTogether fields chunks page_rows → are_written fields ≡ true →
    (part ≡ false → is_short_file (put_description fields (columns_of_chunks chunks) page_rows) ≡ false) → IsWantOfMemory e ⊎ ((e ≡ Overflow) × (part ≡ false)) → RefusesToPut fields chunks page_rows e
refuses fields chunks page_rows part e fits written whole (inl memory) = subst (RefusesToPut fields chunks page_rows) (sym memory) tt
refuses fields chunks page_rows part e fits written whole (inr large) =
    subst (RefusesToPut fields chunks page_rows) (sym large.0) (record { fits = fits; written = written; large = whole large.1 })

-- an error that is known
pub err-is : {T : Type 0} (result : Result T Error) (P : Error → Type 0) (e : Error) → IsErrAnd result (λ own. own ≡ e) → P e → IfErr result P
err-is (Ok x) P e told said = tt
err-is (Err own) P e told said = subst P (sym told) said

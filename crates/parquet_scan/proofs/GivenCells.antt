-- The cells that a scan gives are those of the chunks' own order, where counts and locations are true.
use Rattle.std.proofs.Common.{◌≡◌, ℕ, ◌-◌, Bool, true, false, cond, ◌&&◌, List, [], ◌∷◌, ◌++◌, length, map, take, refl, sym, ◌∙◌, ap, arith, get_or, All}
use Rattle.std.specs.Prelude.{Option, Some, None, IfOk, IfSome, Result, Ok, Err, filter, flat_map, nat_lt, option_and_then, option_map, zip}
use Rattle.std.specs.List.{AllByRecursion, range_with_len}
use Rattle.std.proofs.lemmas.Bool.{false≢true, lt-ltb, ltb-true}
use Rattle.std.proofs.lemmas.List.{length-take}
use Rattle.std.proofs.lemmas.List.Elements.{All-from_recursion, recursion_from_All}
use Rattle.columns_core.specs.declared.cell.Cell.{Cell}
use Rattle.columns_core.specs.declared.data_type.DataType.{DataType}
use Rattle.columns_core.specs.declared.data_type.Field.{Field}
use Rattle.columns_core.specs.declared.error.Error.{Error}
use Rattle.parquet_base.specs.Pieces.{cut}
use Rattle.parquet_meta.specs.declared.metadata.ColumnChunkMetaData.{ColumnChunkMetaData}
use Rattle.parquet_meta.specs.declared.metadata.RowGroupMetaData.{RowGroupMetaData}
use Rattle.parquet_page.specs.Values.{all_some}
use Rattle.parquet_scan.specs.Cells.{cell, column_cell, file_chunks, given_cell, given_chunk, given_chunks, given_column, located_cell}
use Rattle.parquet_scan.specs.Laws.{GivenCellsAreCells, GivenChunksAreTheFiles}
use Rattle.parquet_scan.specs.Request.{Request}
use Rattle.parquet_scan.specs.Rows.{File, column_named, file_of, first_rows, given_groups, gives_rows, group_counts, groups_of, groups_read, kept_rows, pages_keep, prunes_pages}
use Rattle.parquet_scan.specs.Scan.{OnFile}
use Rattle.parquet_scan.specs.Truth.{AreTrueCounts, AreTrueLocations, HasTrueCountsAndLocations, OnField}
use Rattle.parquet_scan.proofs.KeptLemmas.{all_or_none}
use Rattle.parquet_scan.proofs.LocatedCells.{located_cells_are_cells}
use Rattle.parquet_scan.proofs.SoundLists.{if_some}

-- ---- groups that are read count

pub some_taken : (left : ℕ) (rows : List ℕ) → nat_lt 0 (length (take left rows)) ≡ true → nat_lt 0 (length rows) ≡ true
some_taken left rows some = lt-ltb 0 (length rows) (omega (arith, ltb-true 0 (length (take left rows)) some, length-take left rows))

module _ (request : Request) (file : File) where
  -- a group with a kept row counts
  pub counts_by : (group : RowGroupMetaData) (b : Bool) → group_counts request group ≡ b → nat_lt 0 (length (kept_rows request file group)) ≡ true → b ≡ true
  counts_by group true e some = refl
  counts_by group false e some =
      let rows = range_with_len 0 group.num_rows in
      let none = ap (λ b. filter (λ row. b && pages_keep (prunes_pages request (groups_of file)) request.fields request.bounds file.bytes group row) rows) e ∙ all_or_none false rows in
      absurd (false≢true (sym (ap (λ kept. nat_lt 0 (length kept)) none) ∙ some))

  in_front : (P : RowGroupMetaData → Type 0) (group : RowGroupMetaData) (rows : List ℕ) (counts gives : Bool) → (gives ≡ true → counts ≡ true) → (others : List RowGroupMetaData) (read : List (RowGroupMetaData × List ℕ))
      → AllByRecursion P (cond counts (group ∷ others) others) → (AllByRecursion P others → AllByRecursion (λ r. P r.0) read) → AllByRecursion (λ r. P r.0) (cond gives ((group, rows) ∷ read) read)
  in_front P group rows true true needs others read all rest = (all.0, rest all.1)
  in_front P group rows true false needs others read all rest = rest all.1
  in_front P group rows false true needs others read all rest = absurd (false≢true (needs refl))
  in_front P group rows false false needs others read all rest = rest all

  -- what holds of each group that counts holds of those that are read
  of_read : (P : RowGroupMetaData → Type 0) (limit : Option ℕ) (groups : List RowGroupMetaData) → AllByRecursion P (filter (group_counts request) groups)
      → AllByRecursion (λ r. P r.0) (filter gives_rows (zip groups (first_rows limit (map (kept_rows request file) groups))))
  of_read P None [] all = tt
  of_read P (Some left) [] all = tt
  of_read P None (group ∷ groups) all =
      in_front P group (kept_rows request file group) (group_counts request group) _ (counts_by group (group_counts request group) refl) _ _ all (of_read P None groups)
  of_read P (Some left) (group ∷ groups) all =
      in_front P group (take left (kept_rows request file group)) (group_counts request group) _
      (λ some. counts_by group (group_counts request group) refl (some_taken left (kept_rows request file group) some)) _ _ all (of_read P (Some (left - length (kept_rows request file group))) groups)

-- ---- cells

same_in : (bytes : List ℕ) (group : RowGroupMetaData) (field : Field) (row : ℕ) → OnField (AreTrueCounts bytes) group field → OnField (AreTrueLocations bytes) group field
    → (o : Option ColumnChunkMetaData) → column_named group field.name ≡ o → located_cell bytes group field row ≡ cell bytes group field row
same_in bytes group field row counts places None e =
    ap (option_and_then (λ c. column_cell true bytes group field.data_type c row)) e ∙ sym (ap (option_and_then (λ c. column_cell false bytes group field.data_type c row)) e)
same_in bytes group field row counts places (Some column) e =
    located_cells_are_cells bytes group column field row e
    (if_some (AreTrueCounts bytes group) (column_named group field.name) column e counts) (if_some (AreTrueLocations bytes group) (column_named group field.name) column e places)

given_by : (b : Bool) (bytes : List ℕ) (group : RowGroupMetaData) (field : Field) (row : ℕ) → (b ≡ true → located_cell bytes group field row ≡ cell bytes group field row) → given_cell b bytes group field row ≡ cell bytes group field row
given_by true bytes group field row same = same refl
given_by false bytes group field row same = refl

pub given_cells_are_cells : GivenCellsAreCells
given_cells_are_cells request file truth k d h i f l row =
    let read = get_or (groups_read request file) k d in
    let field = get_or request.fields i f in
    let Places : RowGroupMetaData → Type 0 = λ group. All (OnField (AreTrueLocations file.bytes) group) request.fields in
    given_by (prunes_pages request (groups_of file)) file.bytes read.0 field row (λ pruned.
    let places = All-from_recursion (λ (r : RowGroupMetaData × List ℕ). Places r.0) (groups_read request file)
    (of_read request file Places request.limit (groups_of file) (recursion_from_All Places _ (truth.located pruned))) in
    same_in file.bytes read.0 field row (truth.counts k d h i f l) (places k d h i f l) (column_named (read.0) field.name) refl)

-- ---- chunks

-- where the cells of each field are the file's, so is a chunk of some rows
same_columns : (b : Bool) (bytes : List ℕ) (group : RowGroupMetaData) (rows : List ℕ) (fields : List Field)
    → AllByRecursion (λ (field : Field). (row : ℕ) → given_cell b bytes group field row ≡ cell bytes group field row) fields
    → map (given_column b bytes group rows) fields ≡ map (given_column false bytes group rows) fields
same_columns b bytes group rows [] same = refl
same_columns b bytes group rows (field ∷ fields) same = λ i.
    option_map (λ (found : List Cell). (field.data_type, found)) (all_some (map (λ row. same.0 row i) rows))
    ∷ same_columns b bytes group rows fields same.1 i

-- of a group that gives rows all chunks are, and one that gives none has none
same_group : (b : Bool) (size : Option ℕ) (fields : List Field) (bytes : List ℕ) (group : RowGroupMetaData) (rows : List ℕ) (others : List (RowGroupMetaData × List ℕ)) (gives : Bool)
    → nat_lt 0 (length rows) ≡ gives
    → AllByRecursion (λ (read : RowGroupMetaData × List ℕ). All (λ (field : Field). (row : ℕ) → given_cell b bytes read.0 field row ≡ cell bytes read.0 field row) fields) (cond gives ((group, rows) ∷ others) others)
    → (map (given_chunk b fields bytes group) (cut size rows) ≡ map (given_chunk false fields bytes group) (cut size rows))
    × AllByRecursion (λ (read : RowGroupMetaData × List ℕ). All (λ (field : Field). (row : ℕ) → given_cell b bytes read.0 field row ≡ cell bytes read.0 field row) fields) others
same_group b size fields bytes group rows others true e all =
    let same = recursion_from_All (λ (field : Field). (row : ℕ) → given_cell b bytes group field row ≡ cell bytes group field row) fields all.0 in
    (λ i. map (λ some. all_some (same_columns b bytes group some fields same i)) (cut size rows), all.1)
same_group b None fields bytes group [] others false e all = (refl, all)
same_group b (Some size) fields bytes group [] others false e all = (refl, all)
same_group b size fields bytes group (row ∷ rows) others false e all = absurd (false≢true (sym e ∙ lt-ltb 0 (length (row ∷ rows)) (omega arith)))

same_chunks : (b : Bool) (size : Option ℕ) (fields : List Field) (bytes : List ℕ) (groups : List (RowGroupMetaData × List ℕ))
    → AllByRecursion (λ (read : RowGroupMetaData × List ℕ). All (λ (field : Field). (row : ℕ) → given_cell b bytes read.0 field row ≡ cell bytes read.0 field row) fields) (filter gives_rows groups)
    → flat_map (λ (group : RowGroupMetaData × List ℕ). map (given_chunk b fields bytes group.0) (cut size group.1)) groups
    ≡ flat_map (λ (group : RowGroupMetaData × List ℕ). map (given_chunk false fields bytes group.0) (cut size group.1)) groups
same_chunks b size fields bytes [] all = refl
same_chunks b size fields bytes (group ∷ groups) all =
    let here = same_group b size fields bytes group.0 group.1 (filter gives_rows groups) (gives_rows group) refl all in
    λ i. here.0 i ++ same_chunks b size fields bytes groups here.1 i

pub given_chunks_are_the_files : GivenChunksAreTheFiles
given_chunks_are_the_files request file truth =
    let by_pages = prunes_pages request (groups_of file) in
    let Same : RowGroupMetaData × List ℕ → Type 0 = λ read. All (λ (field : Field). (row : ℕ) → given_cell by_pages file.bytes read.0 field row ≡ cell file.bytes read.0 field row) request.fields in
    ap all_some (same_chunks by_pages request.chunk_size request.fields file.bytes (given_groups request file)
    (recursion_from_All Same (groups_read request file) (given_cells_are_cells request file truth)))

-- what holds of the chunks of a scan, as the file's own
pub own_chunks : {X : Type 0} (request : Request) (r : Result X Error) (told : Option (List ℕ)) (chunks : X → List (List (DataType × List Cell)))
    → IfOk r (λ x. OnFile told (λ file. given_chunks request file ≡ Some (chunks x)))
    → IfOk r (λ x. OnFile told (λ file. HasTrueCountsAndLocations request file → file_chunks request file ≡ Some (chunks x)))
own_chunks request (Err e) told chunks given = tt
own_chunks request (Ok x) None chunks given = tt
own_chunks request (Ok x) (Some bytes) chunks given = of_file (file_of bytes) given where
  of_file : (o : Option File) → IfSome o (λ file. given_chunks request file ≡ Some (chunks x))
      → IfSome o (λ file. HasTrueCountsAndLocations request file → file_chunks request file ≡ Some (chunks x))
  of_file None given = tt
  of_file (Some file) given = λ truth. sym (given_chunks_are_the_files request file truth) ∙ given

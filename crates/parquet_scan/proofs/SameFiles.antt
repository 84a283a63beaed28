-- Two files that have the same bytes where one is looked at give the same scan.
use Rattle.std.proofs.Common.{◌≡◌, ℕ, zero, suc, ◌-◌, Bool, true, false, not, cond, List, [], ◌∷◌, ◌++◌, length, map, take, drop, get_or, Option, Some, None, refl, sym, ◌∙◌, ap, arith}
use Rattle.std.proofs.lemmas.List.{drop-map, length-map, take-map}
use Rattle.std.proofs.lemmas.Simd.{map-map}
use Rattle.std.specs.Prelude.{filter, flat_map, zip, ◌&&◌, ◌||◌, option_and_then, option_map, if◌then◌else◌}
use Rattle.std.specs.List.{AllByRecursion, list_all, range_with_len}
use Rattle.std.specs.Option.{option_map_or}
use Rattle.std.proofs.lemmas.Bool.{lt-ltb, true≢false}
use Rattle.columns_core.specs.Causes.{Cause, ExternalFormat, and_then, is_empty}
use Rattle.columns_core.specs.declared.cell.Cell.{Cell}
use Rattle.columns_core.specs.declared.data_type.DataType.{DataType}
use Rattle.columns_core.specs.declared.data_type.Field.{Field}
use Rattle.parquet_base.specs.Intervals.{maximal_runs}
use Rattle.parquet_base.specs.declared.interval.Interval.{Interval}
use Rattle.parquet_base.specs.Pieces.{cut, pieces}
use Rattle.parquet_meta.specs.File.{footer, footer_place}
use Rattle.parquet_meta.specs.declared.metadata.FileMetaData.{FileMetaData}
use Rattle.parquet_meta.specs.declared.metadata.Place.{Place}
use Rattle.parquet_meta.specs.declared.metadata.RowGroupMetaData.{RowGroupMetaData}
use Rattle.parquet_meta.proofs.EndLemmas.{same_ends}
use Rattle.parquet_page.specs.Values.{all_some}
use Rattle.parquet_scan.specs.Causes.{IsValid, causes, causes_of_column, causes_of_group, file_causes, index_causes, index_causes_of_group, metadata_causes, read_causes}
use Rattle.parquet_scan.specs.Cells.{given_cell, given_chunk, given_chunks, given_column, group_chunks}
use Rattle.parquet_scan.specs.LookedAt.{AgreeOn, HaveSameScan, IsSameScan, bound_parts, column_parts, file_parts, group_parts, index_parts, index_parts_of_group, offset_parts, read_parts}
use Rattle.parquet_scan.specs.Request.{Request}
use Rattle.parquet_scan.specs.Rows.{File, bound_keeps, file_with, first_rows, gives_rows, group_counts, groups_read, intervals, kept_rows, pages_keep, prunes_pages}
use Rattle.parquet_scan.specs.Scan.{kept_groups}
use Rattle.parquet_scan.proofs.FileCosts.{GivesFirst, all_first, some_first}
use Rattle.parquet_scan.proofs.FileLemmas.{nothing_first, flat_filter}
use Rattle.parquet_scan.proofs.GivenCells.{counts_by, some_taken}
use Rattle.parquet_scan.proofs.SameColumns.{IsSameColumn, agree_split, column_is_same, group_causes_same, group_keeps_same, same_among, same_flat}
use Rattle.parquet_scan.proofs.PageLemmas.{some_cause}

-- ---- pieces of lists

map_pieces : {A B : Type 0} (f : A → B) (turns size : ℕ) (xs : List A) → map (map f) (pieces turns size xs) ≡ pieces turns size (map f xs)
map_pieces f zero size xs = refl
map_pieces f (suc turns) size [] = refl
map_pieces f (suc turns) size (x ∷ xs) =
    λ i. sym (take-map f size (x ∷ xs)) i ∷ (map_pieces f turns size (drop size (x ∷ xs)) ∙ ap (pieces turns size) (sym (drop-map f size (x ∷ xs)))) i

map_cut : {A B : Type 0} (f : A → B) (size : Option ℕ) (xs : List A) → map (map f) (cut size xs) ≡ cut size (map f xs)
map_cut f None [] = refl
map_cut f None (x ∷ xs) = refl
map_cut f (Some size) xs = map_pieces f (length xs) size xs ∙ ap (λ turns. pieces turns size (map f xs)) (sym (length-map xs f))

-- where the items are the same, what is made of each piece of them is
pieces_same : {A B C : Type 0} (size : Option ℕ) (make : List B → C) (f g : A → B) (xs : List A) → map f xs ≡ map g xs → map (λ piece. make (map f piece)) (cut size xs) ≡ map (λ piece. make (map g piece)) (cut size xs)
pieces_same size make f g xs same =
    sym (map-map make (map f) (cut size xs)) ∙ ap (map make) (map_cut f size xs ∙ ap (cut size) same ∙ sym (map_cut g size xs)) ∙ map-map make (map g) (cut size xs)

in_front_of : {P X : Type 0} (pieces : List P) (a b : P → X) (c d : P → List X) → map a pieces ≡ map b pieces → map c pieces ≡ map d pieces → map (λ piece. a piece ∷ c piece) pieces ≡ map (λ piece. b piece ∷ d piece) pieces
in_front_of [] a b c d e es = refl
in_front_of (piece ∷ pieces) a b c d e es =
    let own : a piece ≡ b piece = ap (λ xs. get_or xs 0 (a piece)) e in
    let others : c piece ≡ d piece = ap (λ xs. get_or xs 0 (c piece)) es in
    λ i. (own i ∷ others i) ∷ in_front_of pieces a b c d (ap (drop 1) e) (ap (drop 1) es) i

each_piece : {P X : Type 0} (fields : List Field) (pieces : List P) (f g : P → Field → X) → AllByRecursion (λ field. map (λ piece. f piece field) pieces ≡ map (λ piece. g piece field) pieces) fields
    → map (λ piece. map (f piece) fields) pieces ≡ map (λ piece. map (g piece) fields) pieces
each_piece [] pieces f g same = refl
each_piece (field ∷ fields) pieces f g same =
    in_front_of pieces (λ piece. f piece field) (λ piece. g piece field) (λ piece. map (f piece) fields) (λ piece. map (g piece) fields) same.0 (each_piece fields pieces f g same.1)

module _ (first second : List ℕ) (long : length second ≡ length first) (request : Request) (metadata : FileMetaData) where
  abbrev by_pages : Bool
  by_pages = prunes_pages request metadata.row_groups

  abbrev one : File
  one = file_with first metadata

  abbrev other : File
  other = file_with second metadata

  -- ---- rows that are kept

  -- of a group that counts the indexes are the same, where rows are pruned by pages
  abbrev Indexed : Bool → RowGroupMetaData → Type 0
  Indexed b group = b ≡ true → group_counts request group ≡ true → AgreeOn first second (index_parts_of_group request group)

  abbrev indexes_of : Bool → List RowGroupMetaData → List Place
  indexes_of b groups = if b then flat_map (index_parts_of_group request) (filter (group_counts request) groups) else []

  indexed : (b : Bool) (groups : List RowGroupMetaData) → AgreeOn first second (indexes_of b groups) → AllByRecursion (Indexed b) groups
  indexed true [] h = tt
  indexed false [] h = tt
  indexed true (group ∷ groups) h = by (group_counts request group) refl (indexed true groups) h where
    by : (c : Bool) → group_counts request group ≡ c → (AgreeOn first second (indexes_of true groups) → AllByRecursion (Indexed true) groups)
        → AgreeOn first second (flat_map (index_parts_of_group request) (cond c (group ∷ filter (group_counts request) groups) (filter (group_counts request) groups)))
        → Indexed true group × AllByRecursion (Indexed true) groups
    by true e rest h =
        let both = agree_split first second (index_parts_of_group request group) (indexes_of true groups) h in
        ((λ yes counts. both.0), rest both.1)
    by false e rest h = ((λ yes counts. absurd (true≢false (sym counts ∙ e))), rest h)
  indexed false (group ∷ groups) h = ((λ yes counts. absurd (true≢false (sym yes))), indexed false groups h)

  kept_same : (b : Bool) (group : RowGroupMetaData) → Indexed b group → (row : ℕ)
      → (group_counts request group && pages_keep b request.fields request.bounds second group row) ≡ (group_counts request group && pages_keep b request.fields request.bounds first group row)
  kept_same b group is row = by b (group_counts request group) is refl where
    by : (b c : Bool) → Indexed b group → group_counts request group ≡ c
        → (c && (not b || list_all (bound_keeps request.fields second group row) request.bounds)) ≡ (c && (not b || list_all (bound_keeps request.fields first group row) request.bounds))
    by true false is e = refl
    by false false is e = refl
    by false true is e = refl
    by true true is e = group_keeps_same first second long request group row (is refl e)

  rows_same : (groups : List RowGroupMetaData) → AllByRecursion (Indexed by_pages) groups → map (kept_rows request other) groups ≡ map (kept_rows request one) groups
  rows_same [] is = refl
  rows_same (group ∷ groups) is = λ i. filter (λ row. kept_same by_pages group is.0 row i) (range_with_len 0 group.num_rows) ∷ rows_same groups is.1 i

  runs_same : (groups : List RowGroupMetaData) → AllByRecursion (Indexed by_pages) groups
      → map {A = RowGroupMetaData} {B = ℕ × List Interval} (λ group. (group.num_rows, intervals request other group)) groups ≡ map (λ group. (group.num_rows, intervals request one group)) groups
  runs_same [] is = refl
  runs_same (group ∷ groups) is = λ i. (group.num_rows, maximal_runs (λ row. kept_same by_pages group is.0 row i) group.num_rows) ∷ runs_same groups is.1 i

  indexes_same : (b : Bool) (groups : List RowGroupMetaData) → AgreeOn first second (indexes_of b groups)
      → (if b then flat_map (index_causes_of_group request.fields request.bounds second) (filter (group_counts request) groups) else [])
      ≡ (if b then flat_map (index_causes_of_group request.fields request.bounds first) (filter (group_counts request) groups) else [])
  indexes_same true groups h =
      same_flat first second (index_parts_of_group request) (index_causes_of_group request.fields request.bounds second) (index_causes_of_group request.fields request.bounds first)
      (filter (group_counts request) groups) (group_causes_same first second long request) h
  indexes_same false groups h = refl

  -- ---- a group that is read

  abbrev AreSameFields : RowGroupMetaData → List ℕ → List Field → Type 0
  AreSameFields group rows fields = AllByRecursion (IsSameColumn first second long by_pages request.chunk_size group rows) fields

  fields_same : (group : RowGroupMetaData) (rows : List ℕ) (fields : List Field) → (by_pages ≡ false → rows ≡ range_with_len 0 (length rows)) → (by_pages ≡ true → AgreeOn first second (flat_map (offset_parts group) fields))
      → AgreeOn first second (flat_map (column_parts by_pages first group rows) fields) → AreSameFields group rows fields
  fields_same group rows [] begin is h = tt
  fields_same group rows (field ∷ fields) begin is h =
      let both = agree_split first second (column_parts by_pages first group rows field) (flat_map (column_parts by_pages first group rows) fields) h in
      let split : by_pages ≡ true → AgreeOn first second (offset_parts group field) × AgreeOn first second (flat_map (offset_parts group) fields)
      = λ yes. agree_split first second (offset_parts group field) (flat_map (offset_parts group) fields) (is yes) in
      (column_is_same first second long by_pages request.chunk_size group rows field begin (λ yes. (split yes).0) both.0, fields_same group rows fields begin (λ yes. (split yes).1) both.1)

  causes_same : (group : RowGroupMetaData) (rows : List ℕ) (fields : List Field) → AreSameFields group rows fields
      → flat_map (causes_of_column by_pages request.chunk_size second group rows) fields ≡ flat_map (causes_of_column by_pages request.chunk_size first group rows) fields
  causes_same group rows [] same = refl
  causes_same group rows (field ∷ fields) same = λ i. same.0.causes i ++ causes_same group rows fields same.1 i

  parts_same : (group : RowGroupMetaData) (rows : List ℕ) (fields : List Field) → AreSameFields group rows fields
      → flat_map (column_parts by_pages second group rows) fields ≡ flat_map (column_parts by_pages first group rows) fields
  parts_same group rows [] same = refl
  parts_same group rows (field ∷ fields) same = λ i. same.0.parts i ++ parts_same group rows fields same.1 i

  -- a column of some of the rows
  abbrev column_by : List ℕ → RowGroupMetaData → List ℕ → Field → Option (DataType × List Cell)
  column_by bytes group rows field = given_column by_pages bytes group rows field

  column_same : (group : RowGroupMetaData) (rows : List ℕ) (field : Field) → IsSameColumn first second long by_pages request.chunk_size group rows field
      → map (λ piece. column_by second group piece field) (cut request.chunk_size rows) ≡ map (λ piece. column_by first group piece field) (cut request.chunk_size rows)
  column_same group rows field same =
      pieces_same request.chunk_size (λ cells. option_map (λ found. (field.data_type, found)) (all_some cells)) (given_cell by_pages second group field) (given_cell by_pages first group field) rows
      (same_among rows (given_cell by_pages second group field) (given_cell by_pages first group field) same.cells)

  columns_same : (group : RowGroupMetaData) (rows : List ℕ) (fields : List Field) → AreSameFields group rows fields
      → AllByRecursion (λ field. map (λ piece. column_by second group piece field) (cut request.chunk_size rows) ≡ map (λ piece. column_by first group piece field) (cut request.chunk_size rows)) fields
  columns_same group rows [] same = tt
  columns_same group rows (field ∷ fields) same = (column_same group rows field same.0, columns_same group rows fields same.1)

  chunk_same : (group : RowGroupMetaData) (rows : List ℕ) → AreSameFields group rows request.fields → group_chunks request other (group, rows) ≡ group_chunks request one (group, rows)
  chunk_same group rows same =
      let pieces = cut request.chunk_size rows in
      sym (map-map all_some (λ piece. map (column_by second group piece) request.fields) pieces)
      ∙ ap (map all_some) (each_piece request.fields pieces (column_by second group) (column_by first group) (columns_same group rows request.fields same))
      ∙ map-map all_some (λ piece. map (column_by first group piece) request.fields) pieces

  no_chunk : (group : RowGroupMetaData) (rows : List ℕ) → gives_rows (group, rows) ≡ false → group_chunks request other (group, rows) ≡ group_chunks request one (group, rows)
  no_chunk group [] none = none_cut request.chunk_size where
    none_cut : (size : Option ℕ) → map (given_chunk by_pages request.fields second group) (cut size []) ≡ map (given_chunk by_pages request.fields first group) (cut size [])
    none_cut None = refl
    none_cut (Some size) = refl
  no_chunk group (row ∷ rows) none = absurd (true≢false (sym (lt-ltb 0 (length (row ∷ rows)) (omega arith)) ∙ none))

  -- ---- groups that are read

  abbrev given_of : Option ℕ → List RowGroupMetaData → List (RowGroupMetaData × List ℕ)
  given_of limit groups = zip groups (first_rows limit (map (kept_rows request one) groups))

  abbrev parts_of : List (RowGroupMetaData × List ℕ) → List Place
  parts_of groups = flat_map (group_parts by_pages request.fields first) (filter gives_rows groups)

  -- where the same is so of what a group gives, and of the groups behind it, it is so of all
  module _ {Z : Type 0} (f g : RowGroupMetaData × List ℕ → List Z) (each : (group : RowGroupMetaData) (rows : List ℕ) → AreSameFields group rows request.fields → f (group, rows) ≡ g (group, rows))
      (none : (group : RowGroupMetaData) (rows : List ℕ) → gives_rows (group, rows) ≡ false → f (group, rows) ≡ g (group, rows)) where
    one_same : (group : RowGroupMetaData) (rows : List ℕ) (others : List (RowGroupMetaData × List ℕ)) → Indexed by_pages group → (gives_rows (group, rows) ≡ true → group_counts request group ≡ true) → GivesFirst by_pages (group, rows)
        → (AgreeOn first second (parts_of others) → flat_map f others ≡ flat_map g others) → AgreeOn first second (parts_of ((group, rows) ∷ others)) → f (group, rows) ++ flat_map f others ≡ g (group, rows) ++ flat_map g others
    one_same group rows others is counts begin rest h = by (gives_rows (group, rows)) refl h where
      reads : List (RowGroupMetaData × List ℕ)
      reads = filter gives_rows others

      offsets : gives_rows (group, rows) ≡ true → by_pages ≡ true → AgreeOn first second (flat_map (offset_parts group) request.fields)
      offsets gives pruned = (agree_split first second (flat_map (offset_parts group) request.fields) (flat_map (bound_parts group) request.bounds) (is pruned (counts gives))).0

      by : (b : Bool) → gives_rows (group, rows) ≡ b → AgreeOn first second (flat_map (group_parts by_pages request.fields first) (cond b ((group, rows) ∷ reads) reads)) → f (group, rows) ++ flat_map f others ≡ g (group, rows) ++ flat_map g others
      by true gives h =
          let both = agree_split first second (group_parts by_pages request.fields first (group, rows)) (flat_map (group_parts by_pages request.fields first) reads) h in
          let own = each group rows (fields_same group rows request.fields begin (offsets gives) both.0) in
          λ i. own i ++ rest both.1 i
      by false gives h = λ i. none group rows gives i ++ rest h i

    given_same : (limit : Option ℕ) (groups : List RowGroupMetaData) → AllByRecursion (Indexed by_pages) groups → AgreeOn first second (parts_of (given_of limit groups)) → flat_map f (given_of limit groups) ≡ flat_map g (given_of limit groups)
    given_same None [] is h = refl
    given_same (Some left) [] is h = refl
    given_same None (group ∷ groups) is h =
        let rows = kept_rows request one group in
        one_same group rows (given_of None groups) is.0 (counts_by request one group (group_counts request group) refl) (all_first request one group) (given_same None groups is.1) h
    given_same (Some left) (group ∷ groups) is h =
        let rows = kept_rows request one group in
        one_same group (take left rows) (given_of (Some (left - length rows)) groups) is.0
        (λ gives. counts_by request one group (group_counts request group) refl (some_taken left rows gives)) (some_first request one group left)
        (given_same (Some (left - length rows)) groups is.1) h

  -- so are those that give rows
  reads_same : {Z : Type 0} (f g : RowGroupMetaData × List ℕ → List Z) → ((group : RowGroupMetaData) (rows : List ℕ) → AreSameFields group rows request.fields → f (group, rows) ≡ g (group, rows))
      → (limit : Option ℕ) (groups : List RowGroupMetaData) → AllByRecursion (Indexed by_pages) groups → AgreeOn first second (parts_of (given_of limit groups))
      → flat_map f (filter gives_rows (given_of limit groups)) ≡ flat_map g (filter gives_rows (given_of limit groups))
  reads_same {Z} f g each limit groups is h =
      let if_read : (RowGroupMetaData × List ℕ → List Z) → RowGroupMetaData × List ℕ → List Z = λ give read. if gives_rows read then give read else [] in
      flat_filter f gives_rows (given_of limit groups)
      ∙ given_same (if_read f) (if_read g) (λ group rows same. ap (λ found. if gives_rows (group, rows) then found else []) (each group rows same))
      (λ group rows none. ap (λ b. if b then f (group, rows) else []) none ∙ sym (ap (λ b. if b then g (group, rows) else []) none)) limit groups is h
      ∙ sym (flat_filter g gives_rows (given_of limit groups))

  -- ---- the file

  -- a file with the same metadata is as the first
  pub record IsSameFile : Type 0 where
    pub parts : file_parts request other ≡ file_parts request one
    pub causes : file_causes request other ≡ file_causes request one
    pub runs : metadata_causes request metadata ≡ [] → kept_groups request other ≡ kept_groups request one
    pub chunks : file_causes request one ≡ [] → given_chunks request other ≡ given_chunks request one

  module _ (none : metadata_causes request metadata ≡ []) (h : AgreeOn first second (index_parts request one)) where
    are_indexed : AllByRecursion (Indexed by_pages) metadata.row_groups
    are_indexed = indexed by_pages metadata.row_groups h

    causes_of_indexes : index_causes request other ≡ index_causes request one
    causes_of_indexes = indexes_same by_pages metadata.row_groups h

    same_reads : groups_read request other ≡ groups_read request one
    same_reads = ap (λ rows. filter gives_rows (zip metadata.row_groups (first_rows request.limit rows))) (rows_same metadata.row_groups are_indexed)

    module _ (reads : AgreeOn first second (read_parts request one)) where
      of_reads : {Z : Type 0} (f g : RowGroupMetaData × List ℕ → List Z) → ((group : RowGroupMetaData) (rows : List ℕ) → AreSameFields group rows request.fields → f (group, rows) ≡ g (group, rows))
          → flat_map f (groups_read request other) ≡ flat_map g (groups_read request one)
      of_reads f g each = ap (flat_map f) same_reads ∙ reads_same f g each request.limit metadata.row_groups are_indexed reads

      chunks_same : given_chunks request other ≡ given_chunks request one
      chunks_same =
          ap (λ rows. all_some (flat_map (group_chunks request other) (zip metadata.row_groups (first_rows request.limit rows)))) (rows_same metadata.row_groups are_indexed)
          ∙ ap all_some (given_same (group_chunks request other) (group_chunks request one) chunk_same no_chunk request.limit metadata.row_groups are_indexed reads)

  abbrev parts_with : List Cause → List Cause → List Place → List Place
  parts_with wrong wrong_indexes reads = if is_empty wrong then index_parts request one ++ (if is_empty wrong_indexes then reads else []) else []

  with_indexes : (none : metadata_causes request metadata ≡ []) → AgreeOn first second (index_parts request one) → (wrong : List Cause) → index_causes request one ≡ wrong
      → AgreeOn first second (if is_empty wrong then read_parts request one else []) → IsSameFile
  with_indexes none h (cause ∷ more) e reads =
      let second_is = causes_of_indexes none h ∙ e in
      record {
        parts = ap (λ found. parts_with (metadata_causes request metadata) found (read_parts request other)) second_is ∙ sym (ap (λ found. parts_with (metadata_causes request metadata) found (read_parts request one)) e);
        causes = ap (λ found. and_then (metadata_causes request metadata) (and_then found (read_causes request other))) second_is ∙ sym (ap (λ found. and_then (metadata_causes request metadata) (and_then found (read_causes request one))) e);
        runs = λ none. runs_same metadata.row_groups (are_indexed none h);
        chunks = λ fine.
            let nothing : index_causes request one ≡ [] = nothing_first (index_causes request one) (read_causes request one) (sym (ap (λ found. and_then found (and_then (index_causes request one) (read_causes request one))) none) ∙ fine) in
            absurd (some_cause cause more (sym e ∙ nothing));
      }
  with_indexes none h [] e reads =
      let second_is = causes_of_indexes none h ∙ sym refl in
      let parts = of_reads none h reads (group_parts by_pages request.fields second) (group_parts by_pages request.fields first) (λ group rows same. parts_same group rows request.fields same) in
      let wrong = of_reads none h reads (causes_of_group by_pages request.chunk_size request.fields second) (causes_of_group by_pages request.chunk_size request.fields first) (λ group rows same. causes_same group rows request.fields same) in
      record {
        parts = λ i. parts_with (metadata_causes request metadata) (second_is i) (parts i);
        causes = λ i. and_then (metadata_causes request metadata) (and_then (second_is i) (wrong i));
        runs = λ none. runs_same metadata.row_groups (are_indexed none h);
        chunks = λ fine. chunks_same none h reads;
      }

  file_is_same : (wrong : List Cause) → metadata_causes request metadata ≡ wrong → AgreeOn first second (parts_with wrong (index_causes request one) (read_parts request one)) → IsSameFile
  file_is_same (cause ∷ more) e h = record {
    parts = ap (λ found. parts_with found (index_causes request other) (read_parts request other)) e ∙ sym (ap (λ found. parts_with found (index_causes request one) (read_parts request one)) e);
    causes = ap (λ found. and_then found (and_then (index_causes request other) (read_causes request other))) e ∙ sym (ap (λ found. and_then found (and_then (index_causes request one) (read_causes request one))) e);
    runs = λ none. absurd (some_cause cause more (sym e ∙ none));
    chunks = λ fine. absurd (some_cause cause more (sym e ∙ nothing_first (metadata_causes request metadata) (and_then (index_causes request one) (read_causes request one)) fine));
  }
  file_is_same [] e h =
      let both = agree_split first second (index_parts request one) (if is_empty (index_causes request one) then read_parts request one else []) h in
      with_indexes e both.0 (index_causes request one) refl both.1

-- ---- all of it

scan_is_same : (request : Request) (first second : List ℕ) → length second ≡ length first → (o : Option FileMetaData) → footer first ≡ o → footer second ≡ o → footer_place second ≡ footer_place first
    → AgreeOn first second (option_map_or (file_parts request) (option_map (file_with first) o) []) → IsSameScan request first second
scan_is_same request first second long None at_first at_second place h = record {
  same_parts = λ i. place i ∷ none i;
  same_footer = at_second ∙ sym at_first;
  same_causes = ap (λ o. option_map_or (file_causes request) (option_map (file_with second) o) (ExternalFormat ∷ [])) at_second ∙ sym (ap (λ o. option_map_or (file_causes request) (option_map (file_with first) o) (ExternalFormat ∷ [])) at_first);
  same_runs = λ valid. ap (λ o. option_map (kept_groups request) (option_map (file_with second) o)) at_second ∙ sym (ap (λ o. option_map (kept_groups request) (option_map (file_with first) o)) at_first);
  same_chunks = λ valid. ap (λ o. option_and_then (given_chunks request) (option_map (file_with second) o)) at_second ∙ sym (ap (λ o. option_and_then (given_chunks request) (option_map (file_with first) o)) at_first);
} where
  none : option_map_or (file_parts request) (option_map (file_with second) (footer second)) [] ≡ option_map_or (file_parts request) (option_map (file_with first) (footer first)) []
  none = ap (λ o. option_map_or (file_parts request) (option_map (file_with second) o) []) at_second ∙ sym (ap (λ o. option_map_or (file_parts request) (option_map (file_with first) o) []) at_first)
scan_is_same request first second long (Some metadata) at_first at_second place h = record {
  same_parts = λ i. place i ∷ parts i;
  same_footer = at_second ∙ sym at_first;
  same_causes = ap (λ o. option_map_or (file_causes request) (option_map (file_with second) o) (ExternalFormat ∷ [])) at_second ∙ same.causes ∙ sym causes_first;
  same_runs = λ valid. ap (λ o. option_map (kept_groups request) (option_map (file_with second) o)) at_second ∙ ap Some (same.runs (fine valid)) ∙ sym (ap (λ o. option_map (kept_groups request) (option_map (file_with first) o)) at_first);
  same_chunks = λ valid. ap (λ o. option_and_then (given_chunks request) (option_map (file_with second) o)) at_second ∙ same.chunks (sym causes_first ∙ valid.none) ∙ sym (ap (λ o. option_and_then (given_chunks request) (option_map (file_with first) o)) at_first);
} where
  same : IsSameFile first second long request metadata
  same = file_is_same first second long request metadata (metadata_causes request metadata) refl h

  parts : option_map_or (file_parts request) (option_map (file_with second) (footer second)) [] ≡ option_map_or (file_parts request) (option_map (file_with first) (footer first)) []
  parts = ap (λ o. option_map_or (file_parts request) (option_map (file_with second) o) []) at_second ∙ same.parts ∙ sym (ap (λ o. option_map_or (file_parts request) (option_map (file_with first) o) []) at_first)

  causes_first : causes request first ≡ file_causes request (file_with first metadata)
  causes_first = ap (λ o. option_map_or (file_causes request) (option_map (file_with first) o) (ExternalFormat ∷ [])) at_first

  fine : IsValid request first → metadata_causes request metadata ≡ []
  fine valid = nothing_first (metadata_causes request metadata) (and_then (index_causes request (file_with first metadata)) (read_causes request (file_with first metadata))) (sym causes_first ∙ valid.none)

pub have_same_scan : (request : Request) (first second : List ℕ) → HaveSameScan request first second
have_same_scan request first second long h =
    let ends = same_ends first second long h.0 in
    scan_is_same request first second long (footer first) refl ends.1 ends.0 h.1

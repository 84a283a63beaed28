-- What is wrong with a whole file and what is given of it, put together from its metadata and its groups.
use Rattle.std.proofs.Common.{◌≡◌, ℕ, ◌-◌, ◌<◌, ◌≤◌, ◌^◌, Bool, true, false, cond, List, [], ◌∷◌, ◌++◌, length, map, take, min, refl, sym, subst, ◌∙◌, ap, arith, inl, inr}
use Rattle.std.specs.Prelude.{Option, Some, None, zip, filter, option_map, nat_lt, sum_by, IfSome, IfOk, IfErr, OnOk, Result, Ok, Err, Contains, if◌then◌else◌}
use Rattle.std.specs.List.{flat_map, list_all, range_with_len}
use Rattle.std.specs.Option.{option_map_or}
use Rattle.std.proofs.lemmas.Bool.{and_parts, ltb-true}
use Rattle.std.proofs.lemmas.List.{length-take}
use Rattle.std.proofs.lemmas.List.FromFn.{length-range_with_len}
use Rattle.std.proofs.lemmas.List.Sums.{sum_by-cons}
use Rattle.columns_core.specs.Causes.{Cause, ExternalFormat, NotYetImplemented, OutOfSpec, Overflow, IsOneOf, and_then, cause_of}
use Rattle.columns_core.specs.declared.array.Array.{Array}
use Rattle.columns_core.specs.declared.error.Error.{Error}
use Rattle.columns_core.specs.declared.error.Error.TheVariants as error
use Rattle.page_decoding.specs.Queue.{IsChunkSize}
use Rattle.parquet_base.specs.Intervals.{is_well_shaped, row_count, rows_of}
use Rattle.parquet_base.specs.declared.interval.Interval.{Interval}
use Rattle.parquet_base.proofs.RowLemmas.{rows_of-length}
use Rattle.parquet_meta.specs.File.{footer}
use Rattle.parquet_meta.proofs.FileRows.{few_rows}
use Rattle.parquet_meta.specs.declared.metadata.FileMetaData.{FileMetaData}
use Rattle.parquet_meta.specs.declared.metadata.RowGroupMetaData.{RowGroupMetaData}
use Rattle.parquet_meta.specs.Source.{IsReadFailure}
use Rattle.parquet_page.specs.Values.{all_some}
use Rattle.parquet_scan.specs.Causes.{causes, causes_of_group, file_causes, index_causes, index_causes_of_group, metadata_causes, read_causes, IsValid}
use Rattle.parquet_scan.specs.Cells.{columns_of_chunk, given_chunks, group_chunks}
use Rattle.parquet_scan.specs.Counting.{are_pruned, lie_in_groups, causes_of_groups, chunks_of_groups, index_causes_of_groups, gives_a_row, lies_in_group, kept_of_groups, rows_of_groups, shown}
use Rattle.parquet_scan.specs.Request.{Request, is_legal}
use Rattle.parquet_scan.specs.Rows.{File, file_with, first_rows, given_of_kept, given_row_count, given_rows, gives_rows, group_counts, intervals, kept, kept_rows, prunes_pages}
use Rattle.parquet_scan.specs.Scan.{OnFile, kept_of, kept_groups}
use Rattle.parquet_scan.specs.declared.scanning.GroupKept.{GroupKept}
use Rattle.parquet_scan.proofs.CauseLemmas.{ComesFrom, among_first, then_next}
use Rattle.parquet_scan.proofs.GroupLemmas.{all_there}
use Rattle.parquet_scan.proofs.KeptLemmas.{groups_shaped, rows_are, some_rows}
use Rattle.parquet_scan.proofs.ScanLemmas.{same_pruning}

-- ---- lists of causes

pub nothing_first : (first next : List Cause) → and_then first next ≡ [] → first ≡ []
nothing_first [] next e = refl
nothing_first (cause ∷ causes) next e = absurd cc

pub flat_filter : {X Z : Type 0} (f : X → List Z) (test : X → Bool) (xs : List X) → flat_map f (filter test xs) ≡ flat_map (λ x. if test x then f x else []) xs
flat_filter f test [] = refl
flat_filter f test (x ∷ xs) = by (test x) (flat_filter f test xs) where
  by : (b : Bool) → flat_map f (filter test xs) ≡ flat_map (λ x. if test x then f x else []) xs
      → flat_map f (cond b (x ∷ filter test xs) (filter test xs)) ≡ (if b then f x else []) ++ flat_map (λ x. if test x then f x else []) xs
  by true rest = ap (λ found. f x ++ found) rest
  by false rest = rest

index_by : (request : Request) (bytes : List ℕ) (by_pages : Bool) (groups : List RowGroupMetaData)
    → (if by_pages then flat_map (index_causes_of_group request.fields request.bounds bytes) (filter (group_counts request) groups) else [])
    ≡ index_causes_of_groups by_pages request.fields request.bounds bytes groups (map (group_counts request) groups)
index_by request bytes true groups = flat_filter (index_causes_of_group request.fields request.bounds bytes) (group_counts request) groups ∙ side groups where
  side : (groups : List RowGroupMetaData) → flat_map (λ group. if group_counts request group then index_causes_of_group request.fields request.bounds bytes group else []) groups
      ≡ index_causes_of_groups true request.fields request.bounds bytes groups (map (group_counts request) groups)
  side [] = refl
  side (group ∷ groups) = ap (λ rest. (if group_counts request group then index_causes_of_group request.fields request.bounds bytes group else []) ++ rest) (side groups)
index_by request bytes false groups = none groups where
  none : (groups : List RowGroupMetaData) → [] ≡ index_causes_of_groups false request.fields request.bounds bytes groups (map (group_counts request) groups)
  none [] = refl
  none (group ∷ groups) = none groups

-- ---- groups beside the rows that they give

-- a group gives rows where it has runs
pub gives_as : (group : RowGroupMetaData) (runs : List Interval) → lies_in_group (group, runs) ≡ true → gives_rows (group, rows_of runs) ≡ gives_a_row (group, runs)
gives_as group runs shaped = some_rows 0 runs group.num_rows shaped

flat_read : {Z : Type 0} (f : RowGroupMetaData × List ℕ → List Z) (groups : List RowGroupMetaData) (given : List (List Interval)) → lie_in_groups groups given ≡ true
    → flat_map f (filter gives_rows (zip groups (map rows_of given))) ≡ flat_map (λ (group : RowGroupMetaData × List Interval). if gives_a_row group then f (group.0, rows_of group.1) else []) (zip groups given)
flat_read f [] given shaped = refl
flat_read f (group ∷ groups) [] shaped = refl
flat_read {Z} f (group ∷ groups) (runs ∷ given) shaped =
    let parts = and_parts _ _ shaped in
    ap (λ b. flat_map f (cond b ((group, rows_of runs) ∷ filter gives_rows (zip groups (map rows_of given))) (filter gives_rows (zip groups (map rows_of given))))) (gives_as group runs parts.0)
    ∙ by (gives_a_row (group, runs)) (flat_read f groups given parts.1) where
      others : List (RowGroupMetaData × List ℕ)
      others = filter gives_rows (zip groups (map rows_of given))

      rest : List Z
      rest = flat_map (λ (group : RowGroupMetaData × List Interval). if gives_a_row group then f (group.0, rows_of group.1) else []) (zip groups given)

      by : (b : Bool) → flat_map f others ≡ rest → flat_map f (cond b ((group, rows_of runs) ∷ others) others) ≡ (if b then f (group, rows_of runs) else []) ++ rest
      by true e = ap (λ found. f (group, rows_of runs) ++ found) e
      by false e = e

flat_given : {Z : Type 0} (f : RowGroupMetaData × List ℕ → List Z) (groups : List RowGroupMetaData) (given : List (List Interval))
    → flat_map f (zip groups (map rows_of given)) ≡ flat_map (λ (group : RowGroupMetaData × List Interval). f (group.0, rows_of group.1)) (zip groups given)
flat_given f [] given = refl
flat_given f (group ∷ groups) [] = refl
flat_given f (group ∷ groups) (runs ∷ given) = ap (λ rest. f (group, rows_of runs) ++ rest) (flat_given f groups given)

count_given : (given : List (List Interval)) → sum_by length (map rows_of given) ≡ rows_of_groups given
count_given [] = refl
count_given (runs ∷ given) = omega (arith, count_given given, rows_of-length runs, sum_by-cons length (rows_of runs) (map rows_of given), sum_by-cons row_count runs given)

-- ---- a file by its groups

module _ (request : Request) (metadata : FileMetaData) where
  abbrev pub pruned : Bool
  pruned = prunes_pages request metadata.row_groups

  abbrev pub counting : List Bool
  counting = map (group_counts request) metadata.row_groups

  rows_kept : (bytes : List ℕ) (groups : List RowGroupMetaData)
      → map (kept_rows request (file_with bytes metadata)) groups ≡ map (λ (group : GroupKept). rows_of group.intervals) (kept_of_groups pruned request.fields request.bounds bytes groups (map (group_counts request) groups))
  rows_kept bytes [] = refl
  rows_kept bytes (group ∷ groups) = λ i. sym (rows_are (kept request (file_with bytes metadata) group) group.num_rows) i ∷ rows_kept bytes groups i

  runs_kept : (bytes : List ℕ) (groups : List RowGroupMetaData)
      → map kept_of (kept_of_groups pruned request.fields request.bounds bytes groups (map (group_counts request) groups)) ≡ map (λ (group : RowGroupMetaData). (group.num_rows, intervals request (file_with bytes metadata) group)) groups
  runs_kept bytes [] = refl
  runs_kept bytes (group ∷ groups) = ap (λ rest. (group.num_rows, intervals request (file_with bytes metadata) group) ∷ rest) (runs_kept bytes groups)

  abbrev indexes : List ℕ → List Cause
  indexes bytes = index_causes_of_groups pruned request.fields request.bounds bytes metadata.row_groups counting

  -- what is wrong behind the metadata
  abbrev pub behind_metadata : List ℕ → List Cause
  behind_metadata bytes = and_then (index_causes request (file_with bytes metadata)) (read_causes request (file_with bytes metadata))

  pub index_wrong : (told : Option (List ℕ)) → IfSome told (λ bytes. (o : Option Cause) → IsOneOf (indexes bytes) o → IsOneOf (behind_metadata bytes) o)
  index_wrong None = tt
  index_wrong (Some bytes) =
      λ o one. among_first (index_causes request (file_with bytes metadata)) (read_causes request (file_with bytes metadata)) o (subst (λ found. IsOneOf found o) (sym (index_by request bytes pruned metadata.row_groups)) one)

  -- rows are pruned by pages as the groups that count say
  pub pruned_is : (b : Bool) (groups : List RowGroupMetaData) (counts : List Bool) → b ≡ are_pruned request.bounds request.fields groups counts → groups ≡ metadata.row_groups → counts ≡ counting → b ≡ pruned
  pruned_is b groups counts e g n = e ∙ (λ i. are_pruned request.bounds request.fields (g i) counts) ∙ same_pruning request metadata.row_groups counts n

  -- the runs that are kept and those that are given, where the source tells its bytes
  pub record AreGiven (told : Option (List ℕ)) (kept : List GroupKept) (given : List (List Interval)) : Type 0 where
    pub runs : IfSome told (λ bytes. kept ≡ kept_of_groups pruned request.fields request.bounds bytes metadata.row_groups counting)
    pub rows : map rows_of given ≡ given_of_kept request.limit kept
    pub shaped : lie_in_groups metadata.row_groups given ≡ true

  pub given_of : (told : Option (List ℕ)) (b : Bool) (groups : List RowGroupMetaData) (counts : List Bool) (kept again : List GroupKept) (given : List (List Interval))
      → b ≡ pruned → groups ≡ metadata.row_groups → counts ≡ counting → again ≡ kept
      → IfSome told (λ bytes. kept ≡ kept_of_groups b request.fields request.bounds bytes groups counts) → map (λ (group : GroupKept). group.rows) kept ≡ map (λ (group : RowGroupMetaData). group.num_rows) groups
      → map rows_of given ≡ given_of_kept request.limit again → list_all (λ (group : GroupKept × List Interval). is_well_shaped group.1 (group.0).rows) (zip again given) ≡ true → AreGiven told kept given
  given_of told b groups counts kept again given p g n k are rows first shaped = record {
    runs = subst (λ (counts : List Bool). IfSome told (λ bytes. kept ≡ kept_of_groups pruned request.fields request.bounds bytes metadata.row_groups counts)) n
        (subst (λ (groups : List RowGroupMetaData). IfSome told (λ bytes. kept ≡ kept_of_groups pruned request.fields request.bounds bytes groups counts)) g
        (subst (λ (b : Bool). IfSome told (λ bytes. kept ≡ kept_of_groups b request.fields request.bounds bytes groups counts)) p are));
    rows = first ∙ ap (given_of_kept request.limit) k;
    shaped = ap (λ groups. lie_in_groups groups given) (sym g)
        ∙ groups_shaped groups kept given rows (ap (λ kept. list_all (λ (group : GroupKept × List Interval). is_well_shaped group.1 (group.0).rows) (zip kept given)) (sym k) ∙ shaped);
  }

  module _ (kept : List GroupKept) (given : List (List Interval)) where
    pub rows_given : (bytes : List ℕ) → AreGiven (Some bytes) kept given → given_rows request (file_with bytes metadata) ≡ map rows_of given
    rows_given bytes are = ap (first_rows request.limit) (rows_kept bytes metadata.row_groups) ∙ ap (given_of_kept request.limit) (sym are.runs) ∙ sym are.rows

    causes_read : (bytes : List ℕ) → AreGiven (Some bytes) kept given → read_causes request (file_with bytes metadata) ≡ causes_of_groups pruned request.chunk_size request.fields bytes metadata.row_groups given
    causes_read bytes are =
        ap (λ rows. flat_map (causes_of_group pruned request.chunk_size request.fields bytes) (filter gives_rows (zip metadata.row_groups rows))) (rows_given bytes are)
        ∙ flat_read (causes_of_group pruned request.chunk_size request.fields bytes) metadata.row_groups given are.shaped

    abbrev reads : List ℕ → List Cause
    reads bytes = causes_of_groups pruned request.chunk_size request.fields bytes metadata.row_groups given

    pub none_wrong : (told : Option (List ℕ)) → AreGiven told kept given → IfSome told (λ bytes. indexes bytes ≡ []) → IfSome told (λ bytes. reads bytes ≡ []) → IfSome told (λ bytes. behind_metadata bytes ≡ [])
    none_wrong None are none nothing = tt
    none_wrong (Some bytes) are none nothing = (λ i. and_then (index_by request bytes pruned metadata.row_groups i) (causes_read bytes are i)) ∙ then_next (indexes bytes) (reads bytes) none ∙ nothing

    pub read_wrong : (told : Option (List ℕ)) → AreGiven told kept given → IfSome told (λ bytes. indexes bytes ≡ []) → IfSome told (λ bytes. (o : Option Cause) → IsOneOf (reads bytes) o → IsOneOf (behind_metadata bytes) o)
    read_wrong None are none = tt
    read_wrong (Some bytes) are none =
        λ o one. subst (λ found. IsOneOf found o) (sym ((λ i. and_then (index_by request bytes pruned metadata.row_groups i) (causes_read bytes are i)) ∙ then_next (indexes bytes) (reads bytes) none)) one

    pub kept_told : (told : Option (List ℕ)) → AreGiven told kept given → IfSome told (λ bytes. map kept_of kept ≡ kept_groups request (file_with bytes metadata))
    kept_told None are = tt
    kept_told (Some bytes) are = ap (map kept_of) are.runs ∙ runs_kept bytes metadata.row_groups

    pub chunks_told : (told : Option (List ℕ)) (chunks : List (List Array)) → AreGiven told kept given → IfSome told (λ bytes. shown chunks ≡ chunks_of_groups pruned request.chunk_size request.fields bytes metadata.row_groups given)
        → IfSome told (λ bytes. given_chunks request (file_with bytes metadata) ≡ Some (map columns_of_chunk chunks))
    chunks_told None chunks are e = tt
    chunks_told (Some bytes) chunks are e =
        let file = file_with bytes metadata in
        ap (λ rows. all_some (flat_map (group_chunks request file) (zip metadata.row_groups rows))) (rows_given bytes are)
        ∙ ap all_some (flat_given (group_chunks request file) metadata.row_groups given ∙ sym e)
        ∙ all_there columns_of_chunk chunks

    pub rows_told : (told : Option (List ℕ)) (rows : ℕ) → AreGiven told kept given → rows ≡ min (rows_of_groups given) (2 ^ 64 - 1) → IfSome told (λ bytes. rows ≡ min (given_row_count request (file_with bytes metadata)) (2 ^ 64 - 1))
    rows_told None rows are e = tt
    rows_told (Some bytes) rows are e = e ∙ ap (λ n. min n (2 ^ 64 - 1)) (sym (ap (sum_by length) (rows_given bytes are) ∙ count_given given))

-- ---- the rows of a file are a number of 63 bits

abbrev file_rows : List RowGroupMetaData → ℕ
file_rows groups = sum_by (λ (group : RowGroupMetaData). group.num_rows) groups

one_more : (b : Bool) (row : ℕ) (left rows : List ℕ) → length left ≤ length rows → length (cond b (row ∷ left) left) ≤ length (row ∷ rows)
one_more true row left rows h = omega (arith, h)
one_more false row left rows h = omega (arith, h)

fewer : (test : ℕ → Bool) (rows : List ℕ) → length (filter test rows) ≤ length rows
fewer test [] = omega arith
fewer test (row ∷ rows) = one_more (test row) row (filter test rows) rows (fewer test rows)

fewer_kept : (request : Request) (file : File) (groups : List RowGroupMetaData) → sum_by length (map (kept_rows request file) groups) ≤ file_rows groups
fewer_kept request file [] = omega arith
fewer_kept request file (group ∷ groups) =
    omega (
      arith,
      fewer (kept request file group) (range_with_len 0 group.num_rows),
      length-range_with_len 0 group.num_rows,
      fewer_kept request file groups,
      sum_by-cons length (kept_rows request file group) (map (kept_rows request file) groups),
      sum_by-cons (λ (group : RowGroupMetaData). group.num_rows) group groups,
    )

fewer_given : (limit : Option ℕ) (groups : List (List ℕ)) → sum_by length (first_rows limit groups) ≤ sum_by length groups
fewer_given None groups = omega arith
fewer_given (Some left) [] = omega arith
fewer_given (Some left) (rows ∷ groups) =
    omega (
      arith,
      length-take left rows,
      fewer_given (Some (left - length rows)) groups,
      sum_by-cons length rows groups,
      sum_by-cons length (take left rows) (first_rows (Some (left - length rows)) groups),
    )

-- ---- the request

pub legal_size : (request : Request) (metadata : FileMetaData) → is_legal request (Some metadata) ≡ true → IsChunkSize request.chunk_size
legal_size request metadata legal = size request.chunk_size (and_parts _ _ (and_parts _ _ (and_parts _ _ legal).0).0).1 where
  size : (o : Option ℕ) → option_map_or (nat_lt 0) o true ≡ true → IsChunkSize o
  size None e = tt
  size (Some n) e = ltb-true 0 n e

pub some_field : (request : Request) (metadata : FileMetaData) → is_legal request (Some metadata) ≡ true → 0 < length request.fields
some_field request metadata legal = ltb-true 0 (length request.fields) (and_parts _ _ (and_parts _ _ (and_parts _ _ (and_parts _ _ (and_parts _ _ legal).0).0).0).0).0

-- ---- the file

causes_at : (request : Request) (bytes : List ℕ) (metadata : FileMetaData) → footer bytes ≡ Some metadata → causes request bytes ≡ file_causes request (file_with bytes metadata)
causes_at request bytes metadata e = ap (λ o. option_map_or (file_causes request) (option_map (file_with bytes) o) (ExternalFormat ∷ [])) e

-- an error of the metadata is one of the file
meta_one : (told : Option (List ℕ)) (request : Request) (metadata : FileMetaData) (o : Option Cause) → IfSome told (λ bytes. footer bytes ≡ Some metadata) → IsOneOf (metadata_causes request metadata) o
    → IfSome o (λ cause. IfSome told (λ bytes. Contains (causes request bytes) cause))
meta_one told request metadata None e k = absurd k
meta_one None request metadata (Some cause) e k = tt
meta_one (Some bytes) request metadata (Some cause) e k =
    subst (λ found. Contains found cause) (sym (causes_at request bytes metadata e)) (among_first (metadata_causes request metadata) _ (Some cause) k)

pub meta_cause : (told : Option (List ℕ)) (request : Request) (metadata : FileMetaData) (e : Error) → IfSome told (λ bytes. footer bytes ≡ Some metadata) → ComesFrom (metadata_causes request metadata) e
    → IfSome (cause_of e) (λ cause. IfSome told (λ bytes. Contains (causes request bytes) cause))
meta_cause told request metadata e at (inl h) = subst (λ x. IfSome (cause_of x) (λ cause. IfSome told (λ bytes. Contains (causes request bytes) cause))) (sym h) tt
meta_cause told request metadata e at (inr k) = meta_one told request metadata (cause_of e) at k

-- what holds of the bytes with their metadata holds of the file
pub on_file : {X : Type 0} (P : X → File → Type 0) (r : Result X Error) (told : Option (List ℕ)) (metadata : FileMetaData) → IfSome told (λ bytes. footer bytes ≡ Some metadata)
    → IfOk r (λ x. IfSome told (λ bytes. P x (file_with bytes metadata))) → IfOk r (λ x. OnFile told (P x))
on_file P (Err e) told metadata at k = tt
on_file P (Ok x) None metadata at k = tt
on_file P (Ok x) (Some bytes) metadata at k = subst (λ (o : Option FileMetaData). IfSome (option_map (file_with bytes) o) (P x)) (sym at) k

pub on_answer : {X : Type 0} (P : Type 0) (r : Result X Error) → OnOk r P → IfOk r (λ _. P)
on_answer P (Err e) h = tt
on_answer P (Ok x) h = h

-- ---- what a scan of the groups tells of the file

module _ (request : Request) (metadata : FileMetaData) (none : metadata_causes request metadata ≡ []) where
  abbrev found : List ℕ → List Cause
  found bytes = and_then (index_causes request (file_with bytes metadata)) (read_causes request (file_with bytes metadata))

  same_causes : (bytes : List ℕ) → footer bytes ≡ Some metadata → causes request bytes ≡ found bytes
  same_causes bytes at = causes_at request bytes metadata at ∙ then_next (metadata_causes request metadata) (found bytes) none

  pub is_valid : {X : Type 0} (r : Result X Error) (told : Option (List ℕ)) → IfSome told (λ bytes. footer bytes ≡ Some metadata)
      → OnOk r (IfSome told (λ bytes. found bytes ≡ [])) → IfOk r (λ _. IfSome told (IsValid request))
  is_valid (Err e) told at k = tt
  is_valid (Ok x) None at k = tt
  is_valid (Ok x) (Some bytes) at k = record { none = same_causes bytes at ∙ k }

  found_one : (bytes : List ℕ) (cause : Cause) → footer bytes ≡ Some metadata → Contains (found bytes) cause → Contains (causes request bytes) cause
  found_one bytes cause at k = subst (λ causes. Contains causes cause) (sym (same_causes bytes at)) k

  cause_in : (e : Error) (told : Option (List ℕ)) (before now : ℕ) → IfSome told (λ bytes. footer bytes ≡ Some metadata)
      → IsReadFailure told before now (λ bytes. found bytes) e → IfSome (cause_of e) (λ cause. IfSome told (λ bytes. Contains (causes request bytes) cause))
  cause_in (error.InvalidArgumentError p) told before now at k = tt
  cause_in (error.NotYetImplemented p) None before now at k = tt
  cause_in (error.NotYetImplemented p) (Some bytes) before now at k = found_one bytes NotYetImplemented at k
  cause_in (error.ExternalFormat p) None before now at k = tt
  cause_in (error.ExternalFormat p) (Some bytes) before now at k = found_one bytes ExternalFormat at k
  cause_in (error.OutOfSpec p) None before now at k = tt
  cause_in (error.OutOfSpec p) (Some bytes) before now at k = found_one bytes OutOfSpec at k
  cause_in error.Overflow None before now at k = tt
  cause_in error.Overflow (Some bytes) before now at k = found_one bytes Overflow at k
  cause_in error.Io told before now at k = tt
  cause_in error.OutOfMemory told before now at k = tt

  pub has_cause : {X : Type 0} (r : Result X Error) (told : Option (List ℕ)) (before now : ℕ) → IfSome told (λ bytes. footer bytes ≡ Some metadata)
      → IfErr r (IsReadFailure told before now (λ bytes. found bytes)) → IfErr r (λ e. IfSome (cause_of e) (λ cause. IfSome told (λ bytes. Contains (causes request bytes) cause)))
  has_cause (Ok x) told before now at k = tt
  has_cause (Err e) told before now at k = cause_in e told before now at k

pub are_counted : {X : Type 0} (request : Request) (metadata : FileMetaData) (r : Result X Error) (told : Option (List ℕ)) (rows : X → ℕ) → IfSome told (λ bytes. footer bytes ≡ Some metadata)
    → IfOk r (λ x. IfSome told (λ bytes. rows x ≡ min (given_row_count request (file_with bytes metadata)) (2 ^ 64 - 1))) → IfOk r (λ x. OnFile told (λ file. rows x ≡ given_row_count request file))
are_counted request metadata (Err e) told rows at k = tt
are_counted request metadata (Ok x) None rows at k = tt
are_counted request metadata (Ok x) (Some bytes) rows at k =
    let few = few_rows bytes metadata at in
    let file = file_with bytes metadata in
    subst (λ (o : Option FileMetaData). IfSome (option_map (file_with bytes) o) (λ file. rows x ≡ given_row_count request file)) (sym at)
    (omega (arith, k, few, fewer_kept request file metadata.row_groups, fewer_given request.limit (map (kept_rows request file) metadata.row_groups)))

-- What a scan costs in all, by the groups of the file.
use Rattle.std.proofs.Common.{◌≡◌, ℕ, suc, ◌+◌, ◌-◌, ◌≤◌, Bool, true, false, cond, List, [], ◌∷◌, length, map, take, min, refl, sym, subst, ◌∙◌, ap, arith}
use Rattle.std.specs.Prelude.{All, Option, Some, None, option_map, sum_by, filter, zip, ◌&&◌, IfSome, IfOk, OnOk, IsTrue, Result, Ok, Err, if◌then◌else◌}
use Rattle.std.specs.List.{AllByRecursion, AllZip, range_with_len}
use Rattle.std.specs.Option.{option_map_or}
use Rattle.std.proofs.lemmas.Bool.{and_parts}
use Rattle.std.proofs.lemmas.List.FromFn.{length-range_with_len}
use Rattle.std.proofs.lemmas.List.Sums.{sum_by-cons}
use Rattle.columns_core.specs.declared.data_type.Field.{Field}
use Rattle.columns_core.specs.declared.error.Error.{Error}
use Rattle.parquet_base.specs.Intervals.{rows_of}
use Rattle.parquet_base.specs.declared.interval.Interval.{Interval}
use Rattle.parquet_base.proofs.SegmentLemmas.{covers-maximal_runs}
use Rattle.parquet_meta.specs.File.{footer, most_taken}
use Rattle.parquet_meta.specs.declared.metadata.ColumnChunkMetaData.{ColumnChunkMetaData}
use Rattle.parquet_meta.specs.declared.metadata.FileMetaData.{FileMetaData}
use Rattle.parquet_meta.specs.declared.metadata.RowGroupMetaData.{RowGroupMetaData}
use Rattle.parquet_scan.specs.Causes.{IsValid}
use Rattle.parquet_scan.specs.Costs.{all_index_bytes, bytes_behind_footer, index_bytes, lent_of_column, lent_of_group, lent_of_read, most_bytes_taken, most_of_column, most_of_group, most_of_read, most_pages, pages_lent, taken_of_group}
use Rattle.parquet_scan.specs.Counting.{lie_in_groups, indexes_taken, indexes_taken_of_groups, gives_a_row, lent_of_groups, taken_of_groups}
use Rattle.parquet_scan.specs.Request.{Request, is_legal}
use Rattle.parquet_scan.specs.Rows.{File, column_named, file_of, file_with, first_rows, gives_rows, group_counts, groups_of, groups_read, intervals, kept, kept_rows, pages_keep, prunes_pages}
use Rattle.parquet_scan.specs.Scan.{HoldsMet, IsSound, OnFile, RisesBy, RisesJustBy, ScanCosts, kept_groups}
use Rattle.parquet_scan.specs.Truth.{KeepsMet, LosesNoRow}
use Rattle.parquet_scan.specs.declared.scanning.GroupKept.{GroupKept}
use Rattle.parquet_scan.proofs.ClippedLemmas.{first_of_range}
use Rattle.parquet_scan.proofs.CostLemmas.{lent_most}
use Rattle.parquet_scan.proofs.FileLemmas.{AreGiven, counting, gives_as, pruned, rows_given}
use Rattle.parquet_scan.proofs.KeptLemmas.{all_or_none}
use Rattle.parquet_scan.proofs.Sound.{loses_no_row_of_valid_files}

-- ---- sums over groups that are read

sum_filter : {X : Type 0} (f : X → ℕ) (test : X → Bool) (xs : List X) → sum_by f (filter test xs) ≡ sum_by (λ x. if test x then f x else 0) xs
sum_filter f test [] = refl
sum_filter {X} f test (x ∷ xs) = by (test x) (sum_filter f test xs) ∙ sym (sum_by-cons (λ x. if test x then f x else 0) x xs) where
  by : (b : Bool) → sum_by f (filter test xs) ≡ sum_by (λ x. if test x then f x else 0) xs → sum_by f (cond b (x ∷ filter test xs) (filter test xs)) ≡ (if b then f x else 0) + sum_by (λ x. if test x then f x else 0) xs
  by true rest = sum_by-cons f x (filter test xs) ∙ ap (λ n. f x + n) rest
  by false rest = rest ∙ omega arith

-- the groups that give rows are those that are read
sum_read : (give : RowGroupMetaData × List ℕ → ℕ) (groups : List RowGroupMetaData) (given : List (List Interval)) → lie_in_groups groups given ≡ true
    → sum_by give (filter gives_rows (zip groups (map rows_of given))) ≡ sum_by (λ (group : RowGroupMetaData × List Interval). if gives_a_row group then give (group.0, rows_of group.1) else 0) (zip groups given)
sum_read give [] given shaped = refl
sum_read give (group ∷ groups) [] shaped = refl
sum_read give (group ∷ groups) (runs ∷ given) shaped =
    let parts = and_parts _ _ shaped in
    ap (λ b. sum_by give (cond b ((group, rows_of runs) ∷ filter gives_rows (zip groups (map rows_of given))) (filter gives_rows (zip groups (map rows_of given))))) (gives_as group runs parts.0)
    ∙ by (gives_a_row (group, runs)) (sum_read give groups given parts.1)
    ∙ sym (sum_by-cons if_read (group, runs) (zip groups given)) where
      if_read : RowGroupMetaData × List Interval → ℕ
      if_read = λ (group : RowGroupMetaData × List Interval). if gives_a_row group then give (group.0, rows_of group.1) else 0

      others : List (RowGroupMetaData × List ℕ)
      others = filter gives_rows (zip groups (map rows_of given))

      by : (b : Bool) → sum_by give others ≡ sum_by if_read (zip groups given) → sum_by give (cond b ((group, rows_of runs) ∷ others) others) ≡ (if b then give (group, rows_of runs) else 0) + sum_by if_read (zip groups given)
      by true e = sum_by-cons give (group, rows_of runs) others ∙ ap (λ n. give (group, rows_of runs) + n) e
      by false e = e ∙ omega arith

-- ---- what is taken

abbrev index_if : Request → Bool → RowGroupMetaData → ℕ
index_if request by_pages group = if by_pages && group_counts request group then index_bytes request group else 0

-- what is taken of the indexes of all groups, beside whether they count
indexes_taken_is : (request : Request) (by_pages : Bool) (groups : List RowGroupMetaData)
    → indexes_taken_of_groups by_pages request.fields request.bounds groups (map (group_counts request) groups) ≡ sum_by (index_if request by_pages) groups
indexes_taken_is request by_pages [] = refl
indexes_taken_is request by_pages (group ∷ groups) =
    sum_by-cons (indexes_taken by_pages request.fields request.bounds) (group, group_counts request group) (zip groups (map (group_counts request) groups))
    ∙ ap (λ n. index_if request by_pages group + n) (indexes_taken_is request by_pages groups) ∙ sym (sum_by-cons (index_if request by_pages) group groups)

none_in_all : {X : Type 0} (xs : List X) → sum_by (λ (x : X). 0) xs ≡ 0
none_in_all [] = refl
none_in_all {X} (x ∷ xs) = omega (arith, sum_by-cons (λ (x : X). 0) x xs, none_in_all xs)

indexes_are : (request : Request) (by_pages : Bool) (groups : List RowGroupMetaData)
    → sum_by (index_if request by_pages) groups ≡ (if by_pages then sum_by (index_bytes request) (filter (group_counts request) groups) else 0)
indexes_are request true groups = sym (sum_filter (index_bytes request) (group_counts request) groups)
indexes_are request false groups = none_in_all groups

-- ---- rows that meet all bounds

runs_hold : (request : Request) (file : File) (groups : List RowGroupMetaData)
    → All (KeepsMet request file) groups
    → AllZip (HoldsMet request file) groups (map (λ (group : RowGroupMetaData). (group.num_rows, intervals request file group)) groups)
runs_hold request file [] all = tt
runs_hold request file (group ∷ groups) all = (
  λ statistics row below meets. covers-maximal_runs (kept request file group) group.num_rows row below ∙ all 0 group (omega arith) statistics row below meets,
  runs_hold request file groups (λ k d h. all (suc k) d (omega (arith, h))),
)

sound_at : (request : Request) (bytes : List ℕ) (o : Option FileMetaData) → IfSome (option_map (file_with bytes) o) (LosesNoRow request)
    → IfSome (option_map (file_with bytes) o) (λ file. IsSound request file (kept_groups request file))
sound_at request bytes None loses = tt
sound_at request bytes (Some metadata) loses = runs_hold request (file_with bytes metadata) metadata.row_groups loses

-- the runs that a legal request keeps of a valid file
pub is_sound : (request : Request) (bytes : List ℕ) → IsTrue (is_legal request (footer bytes)) → IsValid request bytes → IfSome (file_of bytes) (λ file. IsSound request file (kept_groups request file))
is_sound request bytes legal valid = sound_at request bytes (footer bytes) (loses_no_row_of_valid_files request bytes legal valid)

-- ---- of a scan

module _ (request : Request) (metadata : FileMetaData) (kept : List GroupKept) (given : List (List Interval)) where
  pub lent_told : (told : Option (List ℕ)) (before now : ℕ) → AreGiven request metadata told kept given
      → RisesJustBy told before now (λ bytes. lent_of_groups (pruned request metadata) request.fields bytes metadata.row_groups given)
      → RisesJustBy told before now (λ bytes. pages_lent request (file_with bytes metadata))
  lent_told None before now are h = tt
  lent_told (Some bytes) before now are h =
      let give = lent_of_group (pruned request metadata) request.fields bytes in
      let same : pages_lent request (file_with bytes metadata) ≡ lent_of_groups (pruned request metadata) request.fields bytes metadata.row_groups given
      = ap (λ rows. sum_by give (filter gives_rows (zip metadata.row_groups rows))) (rows_given request metadata kept given bytes are) ∙ sum_read give metadata.row_groups given are.shaped in
      omega (arith, h, same)

  pub taken_told : (told : Option (List ℕ)) (before mid now : ℕ) → AreGiven request metadata told kept given
      → mid ≤ before + indexes_taken_of_groups (pruned request metadata) request.fields request.bounds metadata.row_groups (counting request metadata)
      → RisesBy told mid now (λ bytes. taken_of_groups (pruned request metadata) request.fields bytes metadata.row_groups given)
      → RisesBy told before now (λ bytes. bytes_behind_footer request (file_with bytes metadata))
  taken_told None before mid now are first h = tt
  taken_told (Some bytes) before mid now are first h =
      let groups = metadata.row_groups in
      let b = pruned request metadata in
      let give = taken_of_group b request.fields bytes in
      let rows = rows_given request metadata kept given bytes are in
      let reads : sum_by give (groups_read request (file_with bytes metadata)) ≡ taken_of_groups b request.fields bytes groups given
      = ap (λ rows. sum_by give (filter gives_rows (zip groups rows))) rows ∙ sum_read give groups given are.shaped in
      let indexes : sum_by (index_if request b) groups ≡ all_index_bytes request (file_with bytes metadata) = indexes_are request b groups in
      omega (arith, first, h, indexes_taken_is request b groups, reads, indexes)

-- ---- no more pages are lent than are counted

most_of_fields : (by_pages : Bool) (bytes : List ℕ) (group : RowGroupMetaData) (rows : List ℕ) (fields : List Field) → (by_pages ≡ false → rows ≡ range_with_len 0 (length rows))
    → lent_of_group by_pages fields bytes (group, rows) ≤ most_of_group by_pages fields bytes (group, rows)
most_of_fields by_pages bytes group rows [] first = omega arith
most_of_fields by_pages bytes group rows (field ∷ fields) first =
    omega (
      arith,
      most_of_fields by_pages bytes group rows fields first,
      by (column_named group field.name),
      sum_by-cons (lent_of_column by_pages bytes group rows) field fields,
      sum_by-cons (most_of_column by_pages bytes group rows) field fields,
    ) where
      by : (o : Option ColumnChunkMetaData) → option_map_or (lent_of_read by_pages bytes group rows field.data_type) o 0 ≤ option_map_or (most_of_read by_pages bytes group rows field.data_type) o 0
      by None = omega arith
      by (Some column) = lent_most by_pages bytes group rows field.data_type column first

sum_less : {X : Type 0} (f g : X → ℕ) (xs : List X) → AllByRecursion (λ x. f x ≤ g x) xs → sum_by f xs ≤ sum_by g xs
sum_less f g [] less = omega arith
sum_less f g (x ∷ xs) less = omega (arith, less.0, sum_less f g xs less.1, sum_by-cons f x xs, sum_by-cons g x xs)

-- Where rows are not pruned by pages, those that a group gives are its first.
abbrev pub GivesFirst : Bool → RowGroupMetaData × List ℕ → Type 0
GivesFirst by_pages read = by_pages ≡ false → read.1 ≡ range_with_len 0 (length read.1)

-- of groups that give their first rows
first_in : (by_pages : Bool) (group : RowGroupMetaData) (rows : List ℕ) (gives : Bool) (others : List (RowGroupMetaData × List ℕ)) → GivesFirst by_pages (group, rows) → AllByRecursion (GivesFirst by_pages) others
    → AllByRecursion (GivesFirst by_pages) (cond gives ((group, rows) ∷ others) others)
first_in by_pages group rows true others first rest = (first, rest)
first_in by_pages group rows false others first rest = rest

first_taken : (left n : ℕ) (rows : List ℕ) → rows ≡ range_with_len 0 n → take left rows ≡ range_with_len 0 (length (take left rows))
first_taken left n rows are =
    let some : take left rows ≡ range_with_len 0 (min n left) = ap (take left) are ∙ first_of_range left n in
    let count : min n left ≡ length (take left rows) = omega (arith, ap length some, length-range_with_len 0 (min n left)) in
    some ∙ ap (range_with_len 0) count

-- the rows of a group that counts are all of it where rows are not pruned by pages, and those of others none
kept_first : (request : Request) (file : File) (group : RowGroupMetaData) → prunes_pages request (groups_of file) ≡ false → (n : ℕ) × (kept_rows request file group ≡ range_with_len 0 n)
kept_first request file group whole =
    by (group_counts request group) (λ i. filter (λ row. group_counts request group && pages_keep (whole i) request.fields request.bounds file.bytes group row) (range_with_len 0 group.num_rows)) where
      by : (counts : Bool) → kept_rows request file group ≡ filter (λ row. counts && true) (range_with_len 0 group.num_rows) → (n : ℕ) × (kept_rows request file group ≡ range_with_len 0 n)
      by true e = (group.num_rows, e ∙ all_or_none true (range_with_len 0 group.num_rows))
      by false e = (0, e ∙ all_or_none false (range_with_len 0 group.num_rows))

pub all_first : (request : Request) (file : File) (group : RowGroupMetaData) → GivesFirst (prunes_pages request (groups_of file)) (group, kept_rows request file group)
all_first request file group whole = let kept = kept_first request file group whole in kept.1 ∙ ap (range_with_len 0) (sym (ap length kept.1 ∙ length-range_with_len 0 kept.0))

pub some_first : (request : Request) (file : File) (group : RowGroupMetaData) (left : ℕ) → GivesFirst (prunes_pages request (groups_of file)) (group, take left (kept_rows request file group))
some_first request file group left whole = let kept = kept_first request file group whole in first_taken left kept.0 (kept_rows request file group) kept.1

reads_first : (request : Request) (file : File) (limit : Option ℕ) (groups : List RowGroupMetaData)
    → AllByRecursion (GivesFirst (prunes_pages request (groups_of file))) (filter gives_rows (zip groups (first_rows limit (map (kept_rows request file) groups))))
reads_first request file None [] = tt
reads_first request file (Some left) [] = tt
reads_first request file None (group ∷ groups) =
    let rows = kept_rows request file group in
    first_in (prunes_pages request (groups_of file)) group rows (gives_rows (group, rows)) _ (all_first request file group) (reads_first request file None groups)
reads_first request file (Some left) (group ∷ groups) =
    let rows = kept_rows request file group in
    first_in (prunes_pages request (groups_of file)) group (take left rows) (gives_rows (group, take left rows)) _ (some_first request file group left) (reads_first request file (Some (left - length rows)) groups)

all_most : (by_pages : Bool) (fields : List Field) (bytes : List ℕ) (reads : List (RowGroupMetaData × List ℕ)) → AllByRecursion (GivesFirst by_pages) reads
    → AllByRecursion (λ read. lent_of_group by_pages fields bytes read ≤ most_of_group by_pages fields bytes read) reads
all_most by_pages fields bytes [] first = tt
all_most by_pages fields bytes (read ∷ reads) first = (most_of_fields by_pages bytes read.0 read.1 fields first.0, all_most by_pages fields bytes reads first.1)

fewer_pages : (request : Request) (file : File) → pages_lent request file ≤ most_pages request file
fewer_pages request file =
    let by_pages = prunes_pages request (groups_of file) in
    sum_less (lent_of_group by_pages request.fields file.bytes) (most_of_group by_pages request.fields file.bytes) (groups_read request file)
    (all_most by_pages request.fields file.bytes (groups_read request file) (reads_first request file request.limit (groups_of file)))

pub at_most : {X : Type 0} (request : Request) (metadata : FileMetaData) (r : Result X Error) (told : Option (List ℕ)) (before now : ℕ)
    → OnOk r (RisesJustBy told before now (λ bytes. pages_lent request (file_with bytes metadata))) → IfOk r (λ _. IfSome told (λ bytes. now ≤ before + most_pages request (file_with bytes metadata)))
at_most request metadata (Err e) told before now k = tt
at_most request metadata (Ok x) None before now k = tt
at_most request metadata (Ok x) (Some bytes) before now k = omega (arith, k, fewer_pages request (file_with bytes metadata))

-- ---- with the footer

pub all_taken : {X : Type 0} (request : Request) (metadata : FileMetaData) (r : Result X Error) (told : Option (List ℕ)) (before mid now : ℕ) → mid ≤ before + most_taken told
    → OnOk r (RisesBy told mid now (λ bytes. bytes_behind_footer request (file_with bytes metadata)))
    → IfOk r (λ _. IfSome told (λ bytes. now ≤ before + most_bytes_taken request (file_with bytes metadata)))
all_taken request metadata (Err e) told before mid now first k = tt
all_taken request metadata (Ok x) None before mid now first k = tt
all_taken request metadata (Ok x) (Some bytes) before mid now first k = omega (arith, first, k)

pub costs : {X : Type 0} (request : Request) (told : Option (List ℕ)) (steps steps_now taken taken_now : ℕ) (r : Result X Error)
    → IfOk r (λ _. OnFile told (λ file. steps_now ≡ steps + pages_lent request file)) → IfOk r (λ _. OnFile told (λ file. steps_now ≤ steps + most_pages request file))
    → IfOk r (λ _. OnFile told (λ file. taken_now ≤ taken + most_bytes_taken request file)) → IfOk r (λ _. ScanCosts request told steps steps_now taken taken_now)
costs request told steps steps_now taken taken_now (Err e) lent most bytes = tt
costs request told steps steps_now taken taken_now (Ok x) lent most bytes = record { pages_lent = lent; most_pages = most; taken = bytes }

sound_as : (request : Request) (o : Option File) (runs : List (ℕ × List Interval)) → IfSome o (λ file. runs ≡ kept_groups request file) → IfSome o (λ file. IsSound request file (kept_groups request file)) → IfSome o (λ file. IsSound request file runs)
sound_as request None runs same sound = tt
sound_as request (Some file) runs same sound = subst (λ runs. IsSound request file runs) (sym same) sound

-- no row that meets all bounds is outside the runs of a scan
pub scan_sound : {X : Type 0} (request : Request) (metadata : FileMetaData) (r : Result X Error) (told : Option (List ℕ)) (runs : X → List (ℕ × List Interval)) → IfSome told (λ bytes. footer bytes ≡ Some metadata)
    → is_legal request (Some metadata) ≡ true → IfOk r (λ _. IfSome told (IsValid request)) → IfOk r (λ x. OnFile told (λ file. runs x ≡ kept_groups request file))
    → IfOk r (λ x. OnFile told (λ file. IsSound request file (runs x)))
scan_sound request metadata (Err e) told runs at legal valid same = tt
scan_sound request metadata (Ok x) None runs at legal valid same = tt
scan_sound request metadata (Ok x) (Some bytes) runs at legal valid same =
    sound_as request (file_of bytes) (runs x) same (is_sound request bytes (ap (is_legal request) at ∙ legal) valid)

-- What a scan answers.
use Rattle.std.specs.Prelude.{◌≡◌, ℕ, ◌+◌, ◌-◌, ◌^◌, ◌<◌, ◌≤◌, List, All, Contains, flat_map, length, map, min, sum_by, Option, Some, None, IfSome, IsTrue, IsFalse}
use Rattle.std.specs.List.{AllZip}
use Rattle.parquet_base.specs.declared.interval.Interval.{Interval}
use Rattle.parquet_base.specs.Failures.{MayFail}
use Rattle.parquet_base.specs.Intervals.{AreApart, covers}
use Rattle.parquet_base.specs.Pieces.{cut}
use Rattle.columns_core.specs.Array.{data_type_of}
use Rattle.columns_core.specs.Chunk.{AreEqualLengths, array_rows}
use Rattle.columns_core.specs.declared.array.Array.{Array}
use Rattle.columns_core.specs.Causes.{cause_of, is_invalid_argument}
use Rattle.columns_core.specs.declared.data_type.DataType.{DataType}
use Rattle.columns_core.specs.declared.data_type.Field.{Field}
use Rattle.columns_core.specs.declared.data_type.Schema.{Schema}
use Rattle.columns_core.specs.declared.error.Error.{Error}
use Rattle.columns_core.specs.declared.error.Error.TheVariants as error
use Rattle.parquet_meta.specs.File.{footer}
use Rattle.parquet_meta.specs.declared.metadata.RowGroupMetaData.{RowGroupMetaData}
use Rattle.parquet_scan.specs.declared.bound.Bound.{Bound}
use Rattle.parquet_scan.specs.declared.scanning.GroupKept.{GroupKept}
use Rattle.parquet_scan.specs.declared.scanning.Scan.{Scan}
use Rattle.parquet_scan.specs.Causes.{IsValid, causes}
use Rattle.parquet_scan.specs.Cells.{columns_of_chunk, file_chunks, given_chunks}
use Rattle.parquet_scan.specs.Costs.{most_bytes_taken, most_pages, pages_lent}
use Rattle.parquet_scan.specs.Request.{Request, is_legal}
use Rattle.parquet_scan.specs.Rows.{File, file_of, given_of_kept, given_row_count, groups_of, intervals}
use Rattle.parquet_scan.specs.Truth.{HasTrueCountsAndLocations, HasTrueStatistics, MeetsAll}

abbrev pub request_of : Schema → List Bound → Option ℕ → Option ℕ → Request
request_of schema bounds chunk_size limit = record { fields = schema.fields; bounds = bounds; chunk_size = chunk_size; limit = limit }

-- a fact about the file, where the source tells its bytes and they have metadata
abbrev pub OnFile : Option (List ℕ) → (File → Type 0) → Type 0
OnFile told P = IfSome told (λ bytes. IfSome (file_of bytes) P)

-- The runs lie in the rows of the group, in order and with a row between each two of them, and none is empty.
abbrev pub IsApart : GroupKept → Type 0
IsApart group = AreApart 0 group.intervals group.rows

-- the rows of chunks, up to the greatest number that is shown
abbrev pub rows_in : List (List Array) → ℕ
rows_in chunks = min (sum_by array_rows chunks) (2 ^ 64 - 1)

-- the shape of a chunk: the types of its columns, and how many rows it has
abbrev pub shape_of : List Array → List DataType × ℕ
shape_of arrays = (map data_type_of arrays, array_rows arrays)

-- those of the chunks that the rows of a group are cut to, with a column for each field
abbrev pub shapes_of_rows : List Field → Option ℕ → List ℕ → List (List DataType × ℕ)
shapes_of_rows fields size rows = map (λ (piece : List ℕ). (map (λ (field : Field). field.data_type) fields, length piece)) (cut size rows)

-- and those of all chunks: the kept rows up to the limit, cut within each group
abbrev pub chunk_shapes : Request → List GroupKept → List (List DataType × ℕ)
chunk_shapes request kept = flat_map (shapes_of_rows request.fields request.chunk_size) (given_of_kept request.limit kept)

-- a group's rows, and the runs of them that are kept
abbrev pub kept_of : GroupKept → ℕ × List Interval
kept_of group = (group.rows, group.intervals)

abbrev pub kept_groups : Request → File → List (ℕ × List Interval)
kept_groups request file = map (λ (group : RowGroupMetaData). (group.num_rows, intervals request file group)) (groups_of file)

-- Where the statistics of a group are true, each of its rows that meets all bounds lies in the runs that are kept.
abbrev pub HoldsMet : Request → File → RowGroupMetaData → ℕ × List Interval → Type 0
HoldsMet request file group kept =
    HasTrueStatistics request file group → (row : ℕ) → row < group.num_rows
    → MeetsAll request file.bytes group row → IsTrue (covers kept.1 row)

-- No such row lies outside the runs of its group, whatever is true of the other groups.
abbrev pub IsSound : Request → File → List (ℕ × List Interval) → Type 0
IsSound request file kept = AllZip (HoldsMet request file) (groups_of file) kept

-- A count rises by a number that the bytes give, where the source tells them.
abbrev pub RisesJustBy : Option (List ℕ) → ℕ → ℕ → (List ℕ → ℕ) → Type 0
RisesJustBy told before now count = IfSome told (λ bytes. now ≡ before + count bytes)

-- A count rises by at most a number that the bytes give, where the source tells them.
abbrev pub RisesBy : Option (List ℕ) → ℕ → ℕ → (List ℕ → ℕ) → Type 0
RisesBy told before now most = IfSome told (λ bytes. now ≤ before + most bytes)

-- ---- what a scan promises

-- What a scan gives over a source that tells these bytes, if it tells any.
pub record Answers (request : Request) (told : Option (List ℕ)) (scan : Scan) : Type 0 where
  -- It comes of a legal request on a valid file alone.
  pub legal : IfSome told (λ bytes. IsTrue (is_legal request (footer bytes)))
  pub valid : IfSome told (IsValid request)
  -- For each group it has the runs of the rows that are kept, whatever the limit,
  pub kept : OnFile told (λ file. map kept_of scan.kept ≡ kept_groups request file)
  -- and in its chunks the given rows: where counts and locations are true, each cell as it stands in the chunk's own order.
  pub chunks : OnFile told (λ file. given_chunks request file ≡ Some (map columns_of_chunk scan.chunks))
  pub as_cells : OnFile told (λ file.
      HasTrueCountsAndLocations request file → file_chunks request file ≡ Some (map columns_of_chunk scan.chunks))
  pub rows : OnFile told (λ file. scan.rows ≡ given_row_count request file)
  -- Where the statistics of a group are true, none of its rows that meets all bounds lies outside its runs.
  pub sound : OnFile told (λ file. IsSound request file (map kept_of scan.kept))
  -- What follows holds even over a source that does not tell its bytes. The request is legal as far as that hangs on no file,
  pub asked : IsTrue (is_legal request None)
  -- and the chunks have the types of the fields, and as many rows each as the kept rows up to the limit give, cut within each group.
  pub shapes : map shape_of scan.chunks ≡ chunk_shapes request scan.kept
  -- The runs of a group lie apart, the columns of a chunk are equally long, and the rows of all chunks are counted.
  pub apart : All IsApart scan.kept
  pub even : All AreEqualLengths scan.chunks
  pub own_rows : scan.rows ≡ rows_in scan.chunks

-- What an answered scan costs, by the counts of steps and of taken bytes before and behind the call. Over a source that does not tell its
-- bytes this says nothing.
pub record ScanCosts (request : Request) (told : Option (List ℕ)) (steps steps_now bytes bytes_now : ℕ) : Type 0 where
  -- A step is spent for each page that is lent: exactly as many as `pages_lent` counts, and no more than `most_pages`,
  pub pages_lent : OnFile told (λ file. steps_now ≡ steps + pages_lent request file)
  pub most_pages : OnFile told (λ file. steps_now ≤ steps + most_pages request file)
  -- and at most so many bytes are taken.
  pub taken : OnFile told (λ file. bytes_now ≤ bytes + most_bytes_taken request file)

-- When a scan answers an error, with the count of the source's faults before and behind the call. Want of memory may come at any time.
pub record RefusesScan (request : Request) (told : Option (List ℕ)) (before now : ℕ) (e : Error) : Type 0 where
  -- The arguments are refused only where the request is not legal,
  pub argument : IsTrue (is_invalid_argument e) → IfSome told (λ bytes. IsFalse (is_legal request (footer bytes)))
  -- what is wrong behind the footer is told of a legal request alone,
  pub legal_first : IfSome (cause_of e) (λ _. OnFile told (λ file. IsTrue (is_legal request (Some file.metadata))))
  -- and an error that tells of the file tells of one of its causes.
  pub cause : IfSome (cause_of e) (λ cause. IfSome told (λ bytes. Contains (causes request bytes) cause))
  pub io : e ≡ error.Io → MayFail before now
  -- So a legal request on a valid file is refused only where the source may have failed, or memory was wanted.
  pub complete : IfSome told (λ bytes.
      IsTrue (is_legal request (footer bytes)) → IsValid request bytes → (MayFail before now → ⊥) → e ≡ error.OutOfMemory)

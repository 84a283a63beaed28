-- The column of a field, as it is opened to be read in arrays.
use Rattle.std.specs.Prelude.{◌≡◌, ◌⊎◌, ℕ, ℤ, zero, pos, ◌+◌, ◌-◌, ◌&&◌, ◌++◌, Bool, true, false, nat_le, min, max, List, [], ◌∷◌, All, filter, if◌then◌else◌, length, map, Option, None, Some, IfSome, is_some, option_map, option_and_then, Result, IfOk, IfErr, OnOk}
use Rattle.std.specs.List.{list_all}
use Rattle.std.specs.Option.{option_map_or}
use Rattle.columns_core.specs.Causes.{Cause, ExternalFormat, IsMisfit, IsOneOf, IsWantOfMemory, NotYetImplemented, cause_of, unless}
use Rattle.columns_core.specs.declared.data_type.DataType.{DataType}
use Rattle.columns_core.specs.declared.error.Error.{Error}
use Rattle.parquet_meta.specs.Chunks.{chunk_start}
use Rattle.parquet_meta.specs.declared.metadata.ColumnChunkMetaData.{ColumnChunkMetaData}
use Rattle.parquet_page.specs.Lending.{AreOfType, has_data_behind}
use Rattle.parquet_page.specs.Lent.{Lent, are_well_shaped, chunk_lent, is_wanted, lie_within, located_chunk, selected_count}
use Rattle.parquet_page.specs.declared.page.FilteredPage.{FilteredPage}
use Rattle.page_decoding.specs.Queue.{IsChunkSize}
use Rattle.flat_values.specs.ColumnLeft.{ColumnLeft}
use Rattle.flat_values.specs.Pairs.{conversion}
use Rattle.flat_binary.specs.Left.{Supply, supply_of}
use Rattle.flat_binary.specs.NullType.{is_null_type}
use Rattle.flat_binary.specs.Begun.{column_left}
use Rattle.parquet_read.specs.ColumnPages.{column_causes, column_count, column_pages, rows_to_lend}
use Rattle.parquet_read.specs.declared.column_pages.ColumnPages.{ColumnPages}

-- a chunk of a column, with its bytes
abbrev pub ChunkBytes : Type 0
ChunkBytes = ColumnChunkMetaData × List ℕ

-- the item of a list that has one
abbrev pub lone : {A : Type 0} → List A → Option A
lone [] = None
lone (item ∷ []) = Some item
lone (first ∷ second ∷ others) = None

-- so many rows at most, and one at least
abbrev pub size_within : ℕ → Option ℕ → Option ℕ
size_within rows size = option_map (λ most. min most (max rows 1)) size

-- ---- locations

-- counted from a place on; a start that lies before it is taken as 0
abbrev pub counted_from : ℕ → FilteredPage → FilteredPage
counted_from start entry = record entry { start = entry.start - start }

-- each page with selected rows starts at a place or behind it
abbrev pub start_behind : ℕ → List FilteredPage → Bool
start_behind start entries = list_all (λ entry. nat_le start entry.start) (filter is_wanted entries)

-- by their places in the chunk
abbrev pub placed_in : ColumnChunkMetaData → List FilteredPage → List FilteredPage
placed_in column entries = map (counted_from (chunk_start column)) entries

abbrev pub are_in_chunk : ChunkBytes → List FilteredPage → Bool
are_in_chunk chunk entries = start_behind (chunk_start chunk.0) entries && lie_within (length chunk.1) (placed_in chunk.0 entries)

-- The pages with selected rows and, where there is one, the part before the first page lie in the chunk. Of a column that is read as nulls
-- no place is looked at.
abbrev pub location_causes : Bool → ChunkBytes → Option (List FilteredPage) → List Cause
location_causes is_null chunk None = []
location_causes is_null chunk (Some entries) = if is_null then [] else unless (are_in_chunk chunk entries) ExternalFormat

-- ---- pages

abbrev pub fresh_supply : Lent → ℕ → Supply
fresh_supply lent rows = record { pages = lent.pages; causes = lent.causes; row_count = rows; lent = 0 }

-- the pages of the whole chunk, or those that are located in it
abbrev pub chunk_supply : ChunkBytes → Option (List FilteredPage) → Supply
chunk_supply chunk None = fresh_supply (chunk_lent chunk.0.descriptor.primitive_type chunk.0.num_values chunk.1) chunk.0.num_values
chunk_supply chunk (Some entries) = fresh_supply (located_chunk chunk.0.descriptor.primitive_type chunk.1 (placed_in chunk.0 entries)) (selected_count entries)

abbrev pub opened_supply : ColumnPages → Supply
opened_supply pages = supply_of column_pages column_causes rows_to_lend column_count pages

-- ---- the field's column

abbrev pub codec_causes : ℤ → List Cause
codec_causes (pos zero) = []
codec_causes codec = NotYetImplemented ∷ []

-- It is flat and not compressed.
abbrev pub column_causes_of : ColumnChunkMetaData → List Cause
column_causes_of column = unless column.descriptor.flat NotYetImplemented ++ codec_causes column.codec

-- It is read as the type.
abbrev pub type_causes : DataType → ColumnChunkMetaData → List Cause
type_causes data_type column = unless (is_some (conversion column.descriptor.primitive_type data_type)) NotYetImplemented

abbrev pub chunk_causes_for : DataType → Option (List FilteredPage) → ChunkBytes → List Cause
chunk_causes_for data_type entries chunk =
    column_causes_of chunk.0 ++ (type_causes data_type chunk.0 ++ location_causes (is_null_type data_type) chunk entries)

-- There is one.
abbrev pub opening_causes : DataType → Option (List (List FilteredPage)) → List ChunkBytes → List Cause
opening_causes data_type lists chunks =
    option_map_or (chunk_causes_for data_type (option_and_then lone lists)) (lone chunks) (NotYetImplemented ∷ [])

-- all rows of the pages that are opened
abbrev pub opened_left : DataType → Option ℕ → ℕ → Option (List FilteredPage) → ChunkBytes → Option ColumnLeft
opened_left data_type size num_rows entries chunk =
    let stored = chunk.0.descriptor.primitive_type in
    option_map (column_left stored.physical_type data_type (size_within num_rows size) num_rows (chunk_supply chunk entries)) (conversion stored data_type)

abbrev pub field_left : DataType → Option ℕ → ℕ → Option (List (List FilteredPage)) → List ChunkBytes → Option ColumnLeft
field_left data_type size num_rows lists chunks =
    option_and_then (opened_left data_type size num_rows (option_and_then lone lists)) (lone chunks)

-- ---- what does not hang on the pages

-- the rows that are still wanted
abbrev pub rows_wanted : ColumnLeft → ℕ
rows_wanted left = left.standing.remaining + length left.standing.waiting

-- What is said of a column that is opened, whatever its pages are: the type of its arrays, how many rows one has at most, how many are still
-- wanted, and how many pages were lent.
pub record Outline : Type 0 where
  pub data_type : DataType
  pub size : Option ℕ
  pub rows : ℕ
  pub lent : ℕ

abbrev pub outline_of : ColumnLeft → Outline
outline_of left = record { data_type = left.data_type; size = left.size; rows = rows_wanted left; lent = left.lent }

-- of a column of which so many rows are asked for, and no page was lent
abbrev pub opened_outline : DataType → Option ℕ → ℕ → Outline
opened_outline data_type size num_rows = record { data_type = data_type; size = size_within num_rows size; rows = num_rows; lent = 0 }

-- how many rows there are by the metadata: all of the column, or those that are selected
abbrev pub rows_there : ColumnChunkMetaData → Option (List FilteredPage) → ℕ
rows_there column entries = option_map_or selected_count entries column.num_values

-- ---- calls

-- the selected rows of each page are well shaped
abbrev pub AreShaped : Option (List FilteredPage) → Type 0
AreShaped entries = IfSome entries (λ all. are_well_shaped all ≡ true)

-- The chunk size, a list of located pages for each column, and their selected rows.
pub record IsLegalOpening (size : Option ℕ) (columns : ℕ) (lists : Option (List (List FilteredPage))) : Type 0 where
  pub sized : IsChunkSize size
  pub paired : IfSome lists (λ all. length all ≡ columns)
  pub shaped : IfSome lists (λ all. All (λ entries. are_well_shaped entries ≡ true) all)

-- Memory is wanting, or what is asked is not legal, or one of the causes stands.
abbrev pub IsRefusal : Type 0 → List Cause → Error → Type 0
IsRefusal Legal causes error = IsWantOfMemory error ⊎ (IsMisfit Legal error ⊎ IsOneOf causes (cause_of error))

-- Pages of the column's type, of which only the first may be a dictionary page, as many rows as there are, and those of the chunk where they
-- are looked at.
pub record OpensPages (is_null : Bool) (chunk : ChunkBytes) (entries : Option (List FilteredPage)) (result : Result ColumnPages Error) : Type 0 where
  pub typed : IfOk result (λ pages. AreOfType chunk.0.descriptor.primitive_type (column_pages pages))
  pub ordered : IfOk result (λ pages. has_data_behind (column_pages pages) ≡ true)
  pub rows : IfOk result (λ pages. rows_to_lend pages ≡ (chunk_supply chunk entries).row_count)
  pub supply : IfOk result (λ pages. is_null ≡ false → opened_supply pages ≡ chunk_supply chunk entries)
  pub shaped : OnOk result (AreShaped entries)
  pub sound : OnOk result (location_causes is_null chunk entries ≡ [])
  pub refused : IfErr result (IsRefusal (AreShaped entries) (location_causes is_null chunk entries))

-- What is asked is legal and has no cause, and all of it is left; or it is refused.
pub record OpensAsked {X : Type 0} (Legal : Type 0) (causes : List Cause) (left_of : X → ColumnLeft) (left : Option ColumnLeft) (result : Result X Error) : Type 0 where
  pub legal : OnOk result Legal
  pub sound : OnOk result (causes ≡ [])
  pub begins : IfOk result (λ arrays. Some (left_of arrays) ≡ left)
  pub refused : IfErr result (IsRefusal Legal causes)

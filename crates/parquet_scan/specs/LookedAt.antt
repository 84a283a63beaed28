-- The parts of a file that a scan looks at.
use Rattle.std.specs.Prelude.{◌≡◌, ℕ, zero, suc, ◌+◌, nat_le, Bool, List, [], ◌∷◌, ◌++◌, Option, None, Some, filter, flat_map, length, map, option_and_then, option_map, sum_by, take, if◌then◌else◌}
use Rattle.std.specs.List.{AllByRecursion}
use Rattle.std.specs.Option.{option_map_or}
use Rattle.columns_core.specs.Causes.{is_empty}
use Rattle.columns_core.specs.declared.data_type.Field.{Field}
use Rattle.parquet_meta.specs.File.{footer, footer_place}
use Rattle.parquet_meta.specs.Places.{bytes_at, within}
use Rattle.parquet_meta.specs.declared.metadata.ColumnChunkMetaData.{ColumnChunkMetaData}
use Rattle.parquet_meta.specs.declared.metadata.PageLocation.{PageLocation}
use Rattle.parquet_meta.specs.declared.metadata.Place.{Place}
use Rattle.parquet_meta.specs.declared.metadata.RowGroupMetaData.{RowGroupMetaData}
use Rattle.parquet_page.specs.Chunk.{DictionaryPage, PlacedPage, dictionary_at, dictionary_size, pages_of_chunk}
use Rattle.parquet_page.specs.Locations.{part_of}
use Rattle.parquet_scan.specs.declared.bound.Bound.{Bound}
use Rattle.parquet_scan.specs.Causes.{IsValid, begins_below, causes, index_causes, metadata_causes, rows_held}
use Rattle.parquet_scan.specs.Cells.{chunk_of, first_location, given_chunks, is_null_type}
use Rattle.parquet_scan.specs.Costs.{opened_locations}
use Rattle.parquet_scan.specs.Pages.{locations}
use Rattle.parquet_scan.specs.Request.{Request}
use Rattle.parquet_scan.specs.Rows.{File, column_named, file_of, group_counts, groups_of, groups_read, prunes_pages}
use Rattle.parquet_scan.specs.Scan.{kept_groups}

-- ---- indexes

abbrev pub parts_if : Option Place → List Place
parts_if None = []
parts_if (Some place) = place ∷ []

abbrev pub offset_parts : RowGroupMetaData → Field → List Place
offset_parts group field = option_map_or (λ (column : ColumnChunkMetaData). parts_if column.offset_index) (column_named group field.name) []

-- The column index of a bounded field, and its offset index, which tells of as many pages. (The field of a bound is requested.)
abbrev pub bound_parts : RowGroupMetaData → Bound → List Place
bound_parts group bound = option_map_or (λ (column : ColumnChunkMetaData). parts_if column.column_index ++ parts_if column.offset_index) (column_named group bound.field) []

abbrev pub index_parts_of_group : Request → RowGroupMetaData → List Place
index_parts_of_group request group = flat_map (offset_parts group) request.fields ++ flat_map (bound_parts group) request.bounds

-- of each group that counts, where rows are pruned by pages
abbrev pub index_parts : Request → File → List Place
index_parts request file =
    if prunes_pages request (groups_of file) then flat_map (index_parts_of_group request) (filter (group_counts request) (groups_of file)) else []

-- ---- chunks whose pages are walked over

-- the front of a part
abbrev pub front_of_part : Place → ℕ → Place
front_of_part place size = record { offset = place.offset; length = size }

-- The dictionary of a chunk and the pages that are opened for so many rows; where no page stands at a place that is to be opened, all of the chunk.
abbrev pub walked_length : ℕ → ℕ → List ℕ → ℕ
walked_length zero num_values chunk = 0
walked_length (suc more) num_values chunk =
    let pages = pages_of_chunk num_values chunk in
    if nat_le (suc more) (rows_held pages) then dictionary_size chunk + sum_by (λ (placed : PlacedPage). placed.page.size) (filter (begins_below (suc more)) pages) else length chunk

abbrev pub walked_parts : List ℕ → List ℕ → ColumnChunkMetaData → Place → List Place
walked_parts bytes rows column chunk = front_of_part chunk (walked_length (length rows) column.num_values (bytes_at bytes chunk)) ∷ []

-- ---- chunks whose pages are located

-- the part that a location names, as far as it lies in the chunk
abbrev pub part_in_chunk : Place → PageLocation → Place
part_in_chunk chunk location = option_map_or (within chunk) (part_of location) (front_of_part chunk 0)

-- the dictionary page that begins a part and, where none is defined, all of the part
abbrev pub dictionary_length : List ℕ → ℕ
dictionary_length part = option_map_or (λ (read : DictionaryPage × List ℕ). read.0.size) (dictionary_at part) (length part)

-- in the part of a chunk before the first page, as far as it lies in the chunk
abbrev pub dictionary_part : List ℕ → Place → Option ℕ → Place
dictionary_part bytes chunk first = front_of_part chunk (option_map_or (λ size. dictionary_length (take size (bytes_at bytes chunk))) first 0)

-- Where a page is opened, so is the dictionary.
abbrev pub with_dictionary : Place → List Place → List Place
with_dictionary before [] = []
with_dictionary before (part ∷ parts) = before ∷ part ∷ parts

abbrev pub parts_by_locations : List ℕ → RowGroupMetaData → List ℕ → ColumnChunkMetaData → Place → List Place
parts_by_locations bytes group rows column chunk =
    with_dictionary (dictionary_part bytes chunk (first_location chunk.offset (locations bytes column))) (map (part_in_chunk chunk) (opened_locations bytes group rows column))

-- ---- groups that are read

abbrev pub chunk_parts : Bool → List ℕ → RowGroupMetaData → List ℕ → ColumnChunkMetaData → List Place
chunk_parts by_pages bytes group rows column =
    option_map_or (λ chunk. if by_pages then parts_by_locations bytes group rows column chunk else walked_parts bytes rows column chunk) (chunk_of bytes group column) []

-- Of a column that is read as nulls only the place of its chunk counts.
abbrev pub column_parts : Bool → List ℕ → RowGroupMetaData → List ℕ → Field → List Place
column_parts by_pages bytes group rows field =
    if is_null_type field.data_type then [] else option_map_or (chunk_parts by_pages bytes group rows) (column_named group field.name) []

abbrev pub group_parts : Bool → List Field → List ℕ → RowGroupMetaData × List ℕ → List Place
group_parts by_pages fields bytes read = flat_map (column_parts by_pages bytes read.0 read.1) fields

abbrev pub read_parts : Request → File → List Place
read_parts request file = flat_map (group_parts (prunes_pages request (groups_of file)) request.fields file.bytes) (groups_read request file)

-- ---- all of it

-- Which groups count is known only where nothing is wrong with the metadata, and which are read only where nothing is with the indexes.
abbrev pub file_parts : Request → File → List Place
file_parts request file =
    if is_empty (metadata_causes request file.metadata) then index_parts request file ++ (if is_empty (index_causes request file) then read_parts request file else []) else []

-- the end of the file, with its footer, and what it leads to
abbrev pub looked_at : Request → List ℕ → List Place
looked_at request bytes = footer_place bytes ∷ option_map_or (file_parts request) (file_of bytes) []

-- ---- two files

-- both have the same bytes in a part
abbrev pub AgreeAt : List ℕ → List ℕ → Place → Type 0
AgreeAt first second place = bytes_at second place ≡ bytes_at first place

abbrev pub AgreeOn : List ℕ → List ℕ → List Place → Type 0
AgreeOn first second parts = AllByRecursion (AgreeAt first second) parts

-- The same parts are looked at in both, the same is legal and the same is wrong, and where nothing is, the same rows are kept and the same cells are given.
pub record IsSameScan (request : Request) (first second : List ℕ) : Type 0 where
  pub same_parts : looked_at request second ≡ looked_at request first
  pub same_footer : footer second ≡ footer first
  pub same_causes : causes request second ≡ causes request first
  pub same_runs : IsValid request first → option_map (kept_groups request) (file_of second) ≡ option_map (kept_groups request) (file_of first)
  pub same_chunks : IsValid request first → option_and_then (given_chunks request) (file_of second) ≡ option_and_then (given_chunks request) (file_of first)

-- Files of one length that agree on the parts that are looked at in the first scan the same.
abbrev pub HaveSameScan : Request → List ℕ → List ℕ → Type 0
HaveSameScan request first second = length second ≡ length first → AgreeOn first second (looked_at request first) → IsSameScan request first second

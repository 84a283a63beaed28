-- What is wrong with a file for a request: the causes that the parts have which a scan has to look at. Each
-- error comes only where its cause is among them, and a file without a cause is valid.
use Rattle.std.specs.Prelude.{◌≡◌, ℕ, zero, suc, nat_le, nat_lt, Bool, true, false, is_some, Option, option_and_then, option_map, if◌then◌else◌, List, [], ◌∷◌, ◌++◌, filter, filter_map, flat_map, length, map, sum_by, Result, Ok, Err}
use Rattle.std.specs.List.{list_any}
use Rattle.std.specs.Option.{option_map_or}
use Rattle.columns_core.specs.Causes.{Cause, NotYetImplemented, ExternalFormat, Overflow, unless, and_then}
use Rattle.columns_core.specs.declared.cell.Cell.{Cell}
use Rattle.columns_core.specs.declared.data_type.DataType.{DataType}
use Rattle.columns_core.specs.declared.data_type.Field.{Field}
use Rattle.parquet_base.specs.declared.interval.Interval.{Interval}
use Rattle.parquet_base.specs.Intervals.{holds}
use Rattle.parquet_base.specs.Pieces.{cut}
use Rattle.parquet_meta.specs.declared.metadata.ColumnChunkMetaData.{ColumnChunkMetaData}
use Rattle.parquet_meta.specs.declared.metadata.ColumnDescriptor.{ColumnDescriptor}
use Rattle.parquet_meta.specs.declared.metadata.Ends.{Ends}
use Rattle.parquet_meta.specs.declared.metadata.FileMetaData.{FileMetaData}
use Rattle.parquet_meta.specs.declared.metadata.PhysicalType.{PhysicalType}
use Rattle.parquet_meta.specs.declared.metadata.Place.{Place}
use Rattle.parquet_meta.specs.declared.metadata.PrimitiveType.{PrimitiveType}
use Rattle.parquet_meta.specs.declared.metadata.RowGroupMetaData.{RowGroupMetaData}
use Rattle.parquet_meta.specs.Chunks.{chunk_causes}
use Rattle.parquet_meta.specs.Places.{bytes_at}
use Rattle.page_decoding.specs.Bytes.{cell_bytes, fits_most}
use Rattle.parquet_page.specs.Chunk.{ChunkPage, Dictionary, NoDictionary, Undefined, Defined, DictionaryPage, PlacedPage, pages_of_chunk}
use Rattle.parquet_page.specs.Content.{header_values}
use Rattle.parquet_page.specs.Opened.{page_causes}
use Rattle.parquet_page.specs.Spelling.{dictionary_entries, has_plain_entries}
use Rattle.flat_values.specs.Conversion.{Conversion, Item, Value, NotInRange, NotText}
use Rattle.flat_values.specs.MostBytes.{most_bytes}
use Rattle.flat_values.specs.Pairs.{conversion}
use Rattle.column_ends.specs.Converted.{group_array_causes, group_causes, group_cells, item_causes}
use Rattle.parquet_scan.specs.declared.bound.Bound.{Bound}
use Rattle.parquet_scan.specs.Cells.{Reading, chunk_of, content_of, dictionary_content, is_null_type, located_item, located_pages, located_reading, walked_item, walked_reading}
use Rattle.flat_binary.specs.Decoding.{key_limit_of}
use Rattle.parquet_scan.specs.Decoded.{column_entries}
use Rattle.parquet_scan.specs.Request.{Request, begins, bound_type, bounded_field}
use Rattle.parquet_scan.specs.Pages.{column_index_causes, locations, locations_causes}
use Rattle.parquet_scan.specs.Rows.{File, bounded_column, file_of, groups_of, column_named, group_counts, prunes_pages, groups_read}

-- ---- the requested fields, in the schema

-- a pair of types that is carried
abbrev pub pair_causes : PrimitiveType → DataType → List Cause
pair_causes stored data_type = unless (is_some (conversion stored data_type)) NotYetImplemented

-- A field that names columns has exactly one, which is flat and may be read as the field's type.
abbrev pub descriptor_causes : DataType → List ColumnDescriptor → List Cause
descriptor_causes data_type [] = []
descriptor_causes data_type (column ∷ []) = and_then (unless column.flat NotYetImplemented) (pair_causes column.primitive_type data_type)
descriptor_causes data_type (column ∷ more ∷ columns) = NotYetImplemented ∷ []

abbrev pub field_causes : List ColumnDescriptor → Field → List Cause
field_causes columns field = descriptor_causes field.data_type (filter (begins field.name) columns)

-- ---- the statistics of bounded fields, in every group

abbrev pub bounded_causes_of_group : List Field → Bound → RowGroupMetaData → List Cause
bounded_causes_of_group fields bound group =
    option_map_or (λ (typed : DataType × ColumnChunkMetaData). group_causes typed.0 typed.1) (bounded_column fields group bound) []

-- the ends of a bound's field in each group
abbrev pub bounded_cells : List Field → Bound → RowGroupMetaData → Option (Ends Cell)
bounded_cells fields bound group =
    option_and_then (λ (typed : DataType × ColumnChunkMetaData). group_cells typed.0 typed.1) (bounded_column fields group bound)

-- The ends of all groups are one array for the low ones and one for the high ones.
abbrev pub array_causes_of_bound : List Field → List RowGroupMetaData → Bound → List Cause
array_causes_of_bound fields groups bound =
    option_map_or (λ (field : Field). group_array_causes (bound_type field) (filter_map (bounded_cells fields bound) groups)) (bounded_field fields bound) []

abbrev pub causes_of_bound : List Field → List RowGroupMetaData → Bound → List Cause
causes_of_bound fields groups bound = flat_map (bounded_causes_of_group fields bound) groups ++ array_causes_of_bound fields groups bound

abbrev pub bounded_causes : List Field → List Bound → List RowGroupMetaData → List Cause
bounded_causes fields bounds groups = flat_map (causes_of_bound fields groups) bounds

-- ---- page indexes, where rows are pruned by pages

abbrev pub offset_causes_of_field : List ℕ → RowGroupMetaData → Field → List Cause
offset_causes_of_field bytes group field = option_map_or (locations_causes bytes group) (column_named group field.name) (ExternalFormat ∷ [])

abbrev pub index_causes_of_bound : List Field → List ℕ → RowGroupMetaData → Bound → List Cause
index_causes_of_bound fields bytes group bound =
    option_map_or (λ (typed : DataType × ColumnChunkMetaData). column_index_causes typed.0 (length (locations bytes typed.1)) bytes typed.1)
    (bounded_column fields group bound) (ExternalFormat ∷ [])

-- the offset index of each requested column, and the column index of each bounded one
abbrev pub index_causes_of_group : List Field → List Bound → List ℕ → RowGroupMetaData → List Cause
index_causes_of_group fields bounds bytes group =
    flat_map (offset_causes_of_field bytes group) fields ++ flat_map (index_causes_of_bound fields bytes group) bounds

-- of each group that counts
abbrev pub index_causes : Request → File → List Cause
index_causes request file =
    if prunes_pages request (groups_of file) then flat_map (index_causes_of_group request.fields request.bounds file.bytes) (filter (group_counts request) (groups_of file)) else []

-- ---- what is opened of a column

-- what is wrong with entries that are to be converted
abbrev pub causes_of_entries : Result (List Cell) (List Cause) → List Cause
causes_of_entries (Ok cells) = []
causes_of_entries (Err causes) = causes

-- what is wrong with a dictionary page that is read by a rule: the encoding of its entries, one of them, or the sum of their bytes
abbrev pub causes_of_defined : Reading → DictionaryPage → Conversion → List Cause
causes_of_defined reading page rule =
    and_then (unless (has_plain_entries page.encoding) NotYetImplemented)
    (causes_of_entries (column_entries reading.data_type rule reading.stored.physical_type (record { body = page.body; num_values = page.num_values })))

-- A dictionary that has to stand at the start of a chunk and does not is damaged.
abbrev pub causes_of_dictionary : Reading → Dictionary → List Cause
causes_of_dictionary reading NoDictionary = []
causes_of_dictionary reading Undefined = ExternalFormat ∷ []
causes_of_dictionary reading (Defined page) = option_map_or (causes_of_defined reading page) (conversion reading.stored reading.data_type) []

abbrev pub has_dictionary : Dictionary → Bool
has_dictionary NoDictionary = false
has_dictionary Undefined = true
has_dictionary (Defined page) = true

-- how many entries a dictionary has, where they are spelled
abbrev pub entry_count : PhysicalType → Dictionary → Option ℕ
entry_count type dictionary = option_map length (option_and_then (dictionary_entries type) (dictionary_content dictionary))

-- What is wrong with a data page as a whole. Its keys name entries, and those of a dictionary column are of their type.
abbrev pub causes_of_data : Reading → ChunkPage → List Cause
causes_of_data reading page =
    page_causes (key_limit_of reading.data_type) (has_dictionary reading.dictionary) (entry_count reading.stored.physical_type reading.dictionary) (content_of reading.stored page)

-- what is wrong with the items of rows, as far as pages stand for them
abbrev pub row_causes : (ℕ → Option Item) → List ℕ → List Cause
row_causes item rows = flat_map (λ row. option_map_or item_causes (item row) []) rows

-- the bytes of the text or byte string of a row
abbrev pub item_bytes : Item → ℕ
item_bytes (Value cell) = cell_bytes cell
item_bytes NotInRange = 0
item_bytes NotText = 0

abbrev pub bytes_of_rows : (ℕ → Option Item) → List ℕ → ℕ
bytes_of_rows item rows = sum_by (λ row. option_map_or item_bytes (item row) 0) rows

-- what is wrong with the rows of one chunk together: their bytes pass the offsets of the type
abbrev pub piece_causes : DataType → (ℕ → Option Item) → List ℕ → List Cause
piece_causes data_type item rows = unless (fits_most (most_bytes data_type) (bytes_of_rows item rows)) Overflow

-- what is wrong with rows that are given in chunks of a size
abbrev pub given_causes : Option ℕ → DataType → (ℕ → Option Item) → List ℕ → List Cause
given_causes size data_type item rows = row_causes item rows ++ flat_map (piece_causes data_type item) (cut size rows)

-- ---- the pages of a chunk, one after another

-- A page is opened for the first rows of a chunk where it begins before they end.
abbrev pub begins_below : ℕ → PlacedPage → Bool
begins_below rows placed = nat_lt placed.first_row rows

abbrev pub rows_held : List PlacedPage → ℕ
rows_held pages = sum_by (λ (placed : PlacedPage). header_values placed.page.header) pages

-- What is wrong with the dictionary and the pages that are opened for so many rows, of all pages that stand there. Where these hold
-- fewer rows, no page stands where one is to be opened.
abbrev pub causes_of_walk : Reading → ℕ → List PlacedPage → List Cause
causes_of_walk reading zero pages = []
causes_of_walk reading (suc more) pages =
    causes_of_dictionary reading reading.dictionary
    ++ flat_map (λ (placed : PlacedPage). causes_of_data reading placed.page) (filter (begins_below (suc more)) pages)
    ++ unless (nat_le (suc more) (rows_held pages)) ExternalFormat

abbrev pub walked_causes : Option ℕ → List ℕ → RowGroupMetaData → List ℕ → DataType → ColumnChunkMetaData → Place → List Cause
walked_causes size bytes group rows data_type column place =
    causes_of_walk (walked_reading bytes group data_type column) (length rows) (pages_of_chunk column.num_values (bytes_at bytes place))
    ++ given_causes size data_type (walked_item bytes group data_type column) rows

-- ---- located pages

-- some of these rows is one of an interval
abbrev pub holds_any : List ℕ → Interval → Bool
holds_any rows run = list_any (holds run) rows

-- a page that holds one of these rows is opened
abbrev pub is_opened : List ℕ → Interval × Option ChunkPage → Bool
is_opened rows named = holds_any rows named.0

abbrev pub opened_located : List ℕ → List (Interval × Option ChunkPage) → List (Option ChunkPage)
opened_located rows pages = map (λ (named : Interval × Option ChunkPage). named.1) (filter (is_opened rows) pages)

-- It stands where it is named.
abbrev pub causes_of_found : Reading → Option ChunkPage → List Cause
causes_of_found reading page = option_map_or (causes_of_data reading) page (ExternalFormat ∷ [])

-- Where a page is opened, so is the dictionary.
abbrev pub causes_of_opened : Reading → List (Option ChunkPage) → List Cause
causes_of_opened reading [] = []
causes_of_opened reading (page ∷ pages) = causes_of_dictionary reading reading.dictionary ++ flat_map (causes_of_found reading) (page ∷ pages)

-- Which pages are opened is known only where the locations have their shape.
abbrev pub located_causes : Option ℕ → List ℕ → RowGroupMetaData → List ℕ → DataType → ColumnChunkMetaData → List Cause
located_causes size bytes group rows data_type column =
    and_then (locations_causes bytes group column)
    (causes_of_opened (located_reading bytes group data_type column) (opened_located rows (located_pages bytes group column))
    ++ given_causes size data_type (located_item bytes group data_type column) rows)

-- ---- groups that are read

-- what is wrong with a chunk before its pages are looked at: it is one that is read, and it has its place in the file
abbrev pub chunk_read_causes : List ℕ → RowGroupMetaData → ColumnChunkMetaData → List Cause
chunk_read_causes bytes group column = and_then (chunk_causes column) (unless (is_some (chunk_of bytes group column)) ExternalFormat)

-- with what is opened of it
abbrev pub causes_of_chunk : Bool → Option ℕ → List ℕ → RowGroupMetaData → List ℕ → DataType → ColumnChunkMetaData → List Cause
causes_of_chunk by_pages size bytes group rows data_type column =
    and_then (chunk_causes column)
    (option_map_or (λ place. if by_pages then located_causes size bytes group rows data_type column else walked_causes size bytes group rows data_type column place)
    (chunk_of bytes group column) (ExternalFormat ∷ []))

-- No page of a column that is read as nulls is opened.
abbrev pub causes_of_read : Bool → Option ℕ → List ℕ → RowGroupMetaData → List ℕ → DataType → ColumnChunkMetaData → List Cause
causes_of_read by_pages size bytes group rows data_type column =
    and_then (pair_causes column.descriptor.primitive_type data_type)
    (if is_null_type data_type then chunk_read_causes bytes group column else causes_of_chunk by_pages size bytes group rows data_type column)

-- A group has a chunk for each column of the file.
abbrev pub causes_of_column : Bool → Option ℕ → List ℕ → RowGroupMetaData → List ℕ → Field → List Cause
causes_of_column by_pages size bytes group rows field =
    option_map_or (causes_of_read by_pages size bytes group rows field.data_type) (column_named group field.name) (ExternalFormat ∷ [])

abbrev pub causes_of_group : Bool → Option ℕ → List Field → List ℕ → RowGroupMetaData × List ℕ → List Cause
causes_of_group by_pages size fields bytes read = flat_map (causes_of_column by_pages size bytes read.0 read.1) fields

abbrev pub read_causes : Request → File → List Cause
read_causes request file =
    flat_map (causes_of_group (prunes_pages request (groups_of file)) request.chunk_size request.fields file.bytes) (groups_read request file)

-- ---- all of it

-- What is wrong with the metadata. Statistics are asked only where the fields have no cause.
abbrev pub metadata_causes : Request → FileMetaData → List Cause
metadata_causes request metadata =
    and_then (flat_map (field_causes metadata.columns) request.fields) (bounded_causes request.fields request.bounds metadata.row_groups)

-- Which groups count is known only where the fields and the statistics have no cause, and which are read only where the indexes have none.
abbrev pub file_causes : Request → File → List Cause
file_causes request file = and_then (metadata_causes request file.metadata) (and_then (index_causes request file) (read_causes request file))

-- what is wrong with these bytes for a request
abbrev pub causes : Request → List ℕ → List Cause
causes request bytes = option_map_or (file_causes request) (file_of bytes) (ExternalFormat ∷ [])

-- nothing is
pub record IsValid (request : Request) (bytes : List ℕ) : Type 0 where
  pub none : causes request bytes ≡ []

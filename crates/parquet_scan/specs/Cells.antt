-- The cells of a file, each found alone in the page that holds its row.
use Rattle.std.specs.Prelude.{ℕ, ◌-◌, nat_lt, Bool, true, false, List, [], ◌∷◌, length, map, find, flat_map, slice_get, zip, Option, None, option_map, option_and_then, if◌then◌else◌}
use Rattle.std.specs.Option.{option_map_or}
use Rattle.parquet_base.specs.declared.interval.Interval.{Interval}
use Rattle.parquet_base.specs.Intervals.{interval, holds}
use Rattle.parquet_base.specs.Pieces.{cut}
use Rattle.parquet_base.specs.Reading.{given}
use Rattle.columns_core.specs.Array.{column_of}
use Rattle.columns_core.specs.declared.array.Array.{Array}
use Rattle.columns_core.specs.declared.cell.Cell.{Cell, Null}
use Rattle.columns_core.specs.declared.data_type.DataType.{DataType}
use Rattle.columns_core.specs.declared.data_type.Field.{Field}
use Rattle.parquet_meta.specs.declared.metadata.ColumnChunkMetaData.{ColumnChunkMetaData}
use Rattle.parquet_meta.specs.declared.metadata.PageLocation.{PageLocation}
use Rattle.parquet_meta.specs.declared.metadata.Place.{Place}
use Rattle.parquet_meta.specs.declared.metadata.PrimitiveType.{PrimitiveType}
use Rattle.parquet_meta.specs.declared.metadata.RowGroupMetaData.{RowGroupMetaData}
use Rattle.parquet_meta.specs.Chunks.{chunk_place}
use Rattle.parquet_meta.specs.Places.{bytes_at}
use Rattle.parquet_page.specs.Chunk.{ChunkPage, Dictionary, NoDictionary, Undefined, Defined, PlacedPage, chunk_dictionary, pages_of_chunk}
use Rattle.parquet_page.specs.Content.{DataContent, DictContent, header_values}
use Rattle.parquet_page.specs.Located.{located_dictionary}
use Rattle.parquet_page.specs.Locations.{located, part_of}
use Rattle.parquet_page.specs.Spelling.{has_plain_entries}
use Rattle.parquet_page.specs.Values.{all_some}
pub use Rattle.flat_binary.specs.NullType.{is_null_type}
use Rattle.column_ends.specs.Converted.{as_cell}
use Rattle.flat_values.specs.Conversion.{Item, Value}
use Rattle.flat_values.specs.Items.{page_items}
use Rattle.parquet_scan.specs.Request.{Request}
use Rattle.parquet_scan.specs.Pages.{location_rows, locations}
use Rattle.parquet_scan.specs.Rows.{File, column_named, given_groups, groups_of, prunes_pages}

-- ---- the pages of a column in a group

-- where a column's chunk stands in a file's bytes
abbrev pub chunk_of : List ℕ → RowGroupMetaData → ColumnChunkMetaData → Option Place
chunk_of bytes group column = chunk_place (length bytes) group.num_rows column

-- the data pages of a column, one after another
abbrev pub walked_pages : List ℕ → RowGroupMetaData → ColumnChunkMetaData → List PlacedPage
walked_pages bytes group column = option_map_or (λ chunk. pages_of_chunk column.num_values (bytes_at bytes chunk)) (chunk_of bytes group column) []

-- ---- items of pages

-- How the pages of a column are read: what they store, over which dictionary, and as which type.
pub record Reading : Type 0 where
  pub stored : PrimitiveType
  pub dictionary : Dictionary
  pub data_type : DataType

abbrev pub content_of : PrimitiveType → ChunkPage → DataContent
content_of stored page = record { header = page.header; body = page.body; type = stored; selected = None }

-- a dictionary, where one is defined and the encoding of its entries is read
abbrev pub dictionary_content : Dictionary → Option DictContent
dictionary_content (Defined page) = given (has_plain_entries page.encoding) (record { body = page.body; num_values = page.num_values })
dictionary_content _ = None

-- the items that a page stands for
abbrev pub items_in : Reading → ChunkPage → Option (List Item)
items_in reading page = page_items reading.data_type (dictionary_content reading.dictionary) (content_of reading.stored page)

-- the item at a place of a page
abbrev pub item_at : Reading → ℕ → ChunkPage → Option Item
item_at reading place page = option_and_then (λ items. slice_get items place) (items_in reading page)

-- the item of a row in a page
abbrev pub item_in : Reading → ℕ → PlacedPage → Option Item
item_in reading row placed = item_at reading (row - placed.first_row) placed.page

-- ---- pages that stand one after another

abbrev pub rows_of_placed : PlacedPage → Interval
rows_of_placed placed = interval placed.first_row (header_values placed.page.header)

-- the item of a row, in the page that holds it
abbrev pub item_among : Reading → List PlacedPage → ℕ → Option Item
item_among reading pages row = option_and_then (item_in reading row) (find (λ (placed : PlacedPage). holds (rows_of_placed placed) row) pages)

-- the dictionary page that a column's chunk begins with
abbrev pub walked_dictionary : List ℕ → RowGroupMetaData → ColumnChunkMetaData → Dictionary
walked_dictionary bytes group column = option_map_or (λ place. chunk_dictionary (bytes_at bytes place)) (chunk_of bytes group column) NoDictionary

abbrev pub walked_reading : List ℕ → RowGroupMetaData → DataType → ColumnChunkMetaData → Reading
walked_reading bytes group data_type column = record { stored = column.descriptor.primitive_type; dictionary = walked_dictionary bytes group column; data_type = data_type }

abbrev pub walked_item : List ℕ → RowGroupMetaData → DataType → ColumnChunkMetaData → ℕ → Option Item
walked_item bytes group data_type column row = item_among (walked_reading bytes group data_type column) (walked_pages bytes group column) row

-- ---- located pages

-- the rows that a location names, beside the page that stands there, if one does
abbrev pub named_page : Place → List ℕ → Interval × PageLocation → Interval × Option ChunkPage
named_page place chunk named = (named.0, located place.offset chunk named.1 (named.0).length)

abbrev pub located_pages : List ℕ → RowGroupMetaData → ColumnChunkMetaData → List (Interval × Option ChunkPage)
located_pages bytes group column =
    option_map_or (λ place. map (named_page place (bytes_at bytes place)) (zip (location_rows bytes group column) (locations bytes column))) (chunk_of bytes group column) []

-- the item of a row, in the page of the location that names it
abbrev pub item_located : Reading → List (Interval × Option ChunkPage) → ℕ → Option Item
item_located reading pages row =
    option_and_then (λ (named : Interval × Option ChunkPage). option_and_then (item_at reading (row - (named.0).start)) named.1)
    (find (λ (named : Interval × Option ChunkPage). holds named.0 row) pages)

-- how far behind the start of a chunk the first page is named; a chunk has nothing before its start
abbrev pub first_location : ℕ → List PageLocation → Option ℕ
first_location start [] = None
first_location start (first ∷ others) = option_map (λ (part : Place). part.offset - start) (part_of first)

-- the dictionary of a chunk that is read by locations: it stands before the first of them
abbrev pub dictionary_before : ℕ → List ℕ → List PageLocation → Dictionary
dictionary_before start chunk locations = option_map_or (located_dictionary chunk) (first_location start locations) Undefined

abbrev pub dictionary_by_locations : List ℕ → RowGroupMetaData → ColumnChunkMetaData → Dictionary
dictionary_by_locations bytes group column = option_map_or (λ place. dictionary_before place.offset (bytes_at bytes place) (locations bytes column)) (chunk_of bytes group column) NoDictionary

abbrev pub located_reading : List ℕ → RowGroupMetaData → DataType → ColumnChunkMetaData → Reading
located_reading bytes group data_type column = record { stored = column.descriptor.primitive_type; dictionary = dictionary_by_locations bytes group column; data_type = data_type }

abbrev pub located_item : List ℕ → RowGroupMetaData → DataType → ColumnChunkMetaData → ℕ → Option Item
located_item bytes group data_type column row = item_located (located_reading bytes group data_type column) (located_pages bytes group column) row

-- ---- cells

-- The item of a row of a column: that of the located page, where rows are pruned by pages, and otherwise that of the page in the
-- chunk's own order. A column that is read as nulls has one for each row of its group, whatever its pages are.
abbrev pub column_item : Bool → List ℕ → RowGroupMetaData → DataType → ColumnChunkMetaData → ℕ → Option Item
column_item by_pages bytes group data_type column row =
    if is_null_type data_type then given (nat_lt row group.num_rows) (Value Null)
    else if by_pages then located_item bytes group data_type column row
    else walked_item bytes group data_type column row

abbrev pub column_cell : Bool → List ℕ → RowGroupMetaData → DataType → ColumnChunkMetaData → ℕ → Option Cell
column_cell by_pages bytes group data_type column row = option_and_then as_cell (column_item by_pages bytes group data_type column row)

-- the cell that is given for a field in a row of a group
abbrev pub given_cell : Bool → List ℕ → RowGroupMetaData → Field → ℕ → Option Cell
given_cell by_pages bytes group field row = option_and_then (λ column. column_cell by_pages bytes group field.data_type column row) (column_named group field.name)

-- the cell of a field in a row of a group, in the page that stands in the chunk's own order
abbrev pub cell : List ℕ → RowGroupMetaData → Field → ℕ → Option Cell
cell = given_cell false

-- the cell in the page of the location that names the row
abbrev pub located_cell : List ℕ → RowGroupMetaData → Field → ℕ → Option Cell
located_cell = given_cell true

-- ---- chunks

-- a column of a chunk: its type and its cells
abbrev pub given_column : Bool → List ℕ → RowGroupMetaData → List ℕ → Field → Option (DataType × List Cell)
given_column by_pages bytes group rows field = option_map (λ found. (field.data_type, found)) (all_some (map (given_cell by_pages bytes group field) rows))

abbrev pub given_chunk : Bool → List Field → List ℕ → RowGroupMetaData → List ℕ → Option (List (DataType × List Cell))
given_chunk by_pages fields bytes group rows = all_some (map (given_column by_pages bytes group rows) fields)

-- the chunks of a group with the rows that it gives
abbrev pub chunks_of_group : Bool → Option ℕ → List Field → List ℕ → RowGroupMetaData × List ℕ → List (Option (List (DataType × List Cell)))
chunks_of_group by_pages size fields bytes group = map (given_chunk by_pages fields bytes group.0) (cut size group.1)

abbrev pub group_chunks : Request → File → RowGroupMetaData × List ℕ → List (Option (List (DataType × List Cell)))
group_chunks request file = chunks_of_group (prunes_pages request (groups_of file)) request.chunk_size request.fields file.bytes

-- the given rows in chunks, group by group
abbrev pub given_chunks : Request → File → Option (List (List (DataType × List Cell)))
given_chunks request file = all_some (flat_map (group_chunks request file) (given_groups request file))

-- the given rows in chunks as they stand in the chunks' own order, whatever locations say
abbrev pub file_chunks : Request → File → Option (List (List (DataType × List Cell)))
file_chunks request file = all_some (flat_map (chunks_of_group false request.chunk_size request.fields file.bytes) (given_groups request file))

-- a chunk by its types and cells
abbrev pub columns_of_chunk : List Array → List (DataType × List Cell)
columns_of_chunk arrays = map column_of arrays

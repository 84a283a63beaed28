-- The bytes of pages: of each a header, and its body (docs/FORMAT.md, pages); and what metadata says of a column of them. A header is a struct of the compact
-- protocol. Each of its fields has a byte of its own ahead: 16 times how far its id is above the last, and the number of its kind, which is 5 for a number of
-- 32 bits and 12 for a struct. A number is stored doubled, in one byte where it is below 64, and a byte of 0 ends a struct.
use Rattle.std.specs.Prelude.{ℕ, pos, ◌+◌, ◌*◌, ◌%◌, true, false, List, [], ◌∷◌, ◌++◌, length, flat_map, None}
use Rattle.parquet_meta.specs.declared.metadata.ColumnChunkMetaData.{ColumnChunkMetaData}
use Rattle.parquet_meta.specs.declared.metadata.PhysicalType.{PhysicalType}
use Rattle.parquet_meta.specs.declared.metadata.PrimitiveType.{PrimitiveType}
use Rattle.parquet_meta.specs.declared.metadata.Repetition.{Repetition}
use Rattle.pages_for_tests.specs.declared.page.Page.{Page}
use Rattle.pages_for_tests.specs.declared.page.Page.TheVariants as page

-- a number below 64 as it is stored
abbrev pub stored : ℕ → ℕ
stored n = (n * 2) % 256

-- how many bytes there are, below 64, as it is stored; of more the remainder by 64
abbrev pub size : ℕ → ℕ
size long = stored (long % 64)

-- the next field, a number of 32 bits
abbrev pub next : ℕ → List ℕ
next number = (16 * 1 + 5) ∷ number ∷ []

-- the byte ahead of a struct whose id is so far above the last
abbrev pub struct_head : ℕ → ℕ
struct_head behind = 16 * behind + 12

-- 1 the page's type, 2 and 3 its size; then the byte ahead of a struct
abbrev pub front : ℕ → ℕ → ℕ → List ℕ
front type size head = next type ++ next size ++ next size ++ (head ∷ [])

-- Type 0, a data page, in 5: how many values, their encoding, and 3 as the encoding of both kinds of levels. Type 3, a data page of the second form, in 8: how many
-- values; 0 nulls, whatever the levels say; as many rows as values; 0, the plain encoding; and how many bytes the levels that tell nulls have, those of lists
-- having none. Type 2, a dictionary, in 7: how many entries, and 0, the plain encoding.
abbrev pub bytes_of_page : Page → List ℕ
bytes_of_page (page.First count encoding levels values) =
    front (stored 0) (size (length levels.now + length values.now)) (struct_head 2)
    ++ (next (stored count) ++ next (stored encoding) ++ next (stored 3) ++ next (stored 3) ++ (0 ∷ 0 ∷ [])) ++ levels.now ++ values.now
bytes_of_page (page.Second count levels values) =
    front (stored 3) (size (length levels.now + length values.now)) (struct_head 5)
    ++ (next (stored count) ++ next (stored 0) ++ next (stored count) ++ next (stored 0) ++ next (size (length levels.now)) ++ next (stored 0) ++ (0 ∷ 0 ∷ [])) ++ levels.now ++ values.now
bytes_of_page (page.Entries count entries) = front (stored 2) (size (length entries.now)) (struct_head 4) ++ (next (stored count) ++ next (stored 0) ++ (0 ∷ 0 ∷ [])) ++ entries.now
bytes_of_page (page.Bytes bytes) = bytes.now

-- pages one behind the other
abbrev pub bytes_of_pages : List Page → List ℕ
bytes_of_pages pages = flat_map bytes_of_page pages

abbrev pub type_of_column : PhysicalType → Repetition → PrimitiveType
type_of_column physical repetition = record { physical_type = physical; logical_type = None; repetition = repetition }

-- A column of so many values, without a name, in the file of its metadata, at its start, with no indexes and no statistics. Its size is not that of its pages.
abbrev pub column_of_values : PhysicalType → Repetition → ℕ → ColumnChunkMetaData
column_of_values physical repetition count = record {
  descriptor = record { path_in_schema = []; primitive_type = type_of_column physical repetition; flat = true };
  codec = pos 0;
  num_values = count;
  total_compressed_size = 18;
  data_page_offset = 0;
  dictionary_page_offset = None;
  statistics_bytes = None;
  offset_index = None;
  column_index = None;
  column_index_offset = None;
  foreign = false;
  encrypted = false;
}

-- The structs of the footer, by the ids of their fields.
use Rattle.std.specs.Prelude.{ℕ, Bool, true, false, ◌||◌, is_some, List, [], ◌∷◌, Option, Some, None, if◌then◌else◌}
use Rattle.parquet_base.specs.Reading.{◌>>=◌, given}
use Rattle.parquet_meta.specs.Meaning.{Rule, Field, i32, byte_string, struct_of, list_of, is_id, setting, passing, made}
use Rattle.parquet_meta.specs.Code.{count, small_count, type_code}
use Rattle.parquet_meta.specs.Statistics.{statistics}
use Rattle.parquet_meta.specs.Schema.{element, empty_struct}
use Rattle.parquet_meta.specs.Tree.{leaves}
use Rattle.parquet_meta.specs.declared.metadata.ColumnDescriptor.{ColumnDescriptor}
use Rattle.parquet_meta.specs.declared.metadata.Place.{Place}
use Rattle.parquet_meta.specs.declared.footer.ChunkMetaData.{ChunkMetaData}
use Rattle.parquet_meta.specs.declared.footer.ChunkMetaDataFields.{ChunkMetaDataFields}
use Rattle.parquet_meta.specs.declared.footer.ColumnChunk.{ColumnChunk}
use Rattle.parquet_meta.specs.declared.footer.ColumnChunkFields.{ColumnChunkFields}
use Rattle.parquet_meta.specs.declared.footer.RowGroup.{RowGroup}
use Rattle.parquet_meta.specs.declared.footer.RowGroupFields.{RowGroupFields}
use Rattle.parquet_meta.specs.declared.footer.Footer.{Footer}
use Rattle.parquet_meta.specs.declared.footer.FooterFields.{FooterFields}

-- ColumnMetaData: 1 type, 4 codec, 5 num_values, 7 total_compressed_size, 9 data_page_offset, all required; 11 dictionary_page_offset, 12 statistics
unfoldable pub chunk_meta_data_field : Field ChunkMetaDataFields
chunk_meta_data_field s id =
    if is_id id 1 then setting (λ t. record s { type_code = Some t }) type_code
    else (if is_id id 4 then setting (λ n. record s { codec = Some n }) i32
    else (if is_id id 5 then setting (λ n. record s { num_values = Some n }) count
    else (if is_id id 7 then setting (λ n. record s { total_compressed_size = Some n }) count
    else (if is_id id 9 then setting (λ n. record s { data_page_offset = Some n }) count
    else (if is_id id 11 then setting (λ n. record s { dictionary_page_offset = Some n }) count
    else (if is_id id 12 then setting (λ t. record s { statistics = Some t }) statistics
    else passing s))))))

unfoldable pub chunk_meta_data_of : ChunkMetaDataFields → Option ChunkMetaData
chunk_meta_data_of s = do
  t ← s.type_code
  c ← s.codec
  n ← s.num_values
  size ← s.total_compressed_size
  offset ← s.data_page_offset
  Some (record {
    type_code = t;
    numbers = record {
      codec = c;
      num_values = n;
      total_compressed_size = size;
      data_page_offset = offset;
      dictionary_page_offset = s.dictionary_page_offset;
      statistics = s.statistics;
    };
  })

abbrev pub no_chunk_meta_data : ChunkMetaDataFields
no_chunk_meta_data = record { type_code = None; codec = None; num_values = None; total_compressed_size = None; data_page_offset = None; dictionary_page_offset = None; statistics = None }

unfoldable pub chunk_meta_data : Rule ChunkMetaData
chunk_meta_data = made (struct_of chunk_meta_data_field no_chunk_meta_data) chunk_meta_data_of

-- ColumnChunk: 1 file_path, 3 meta_data, 4 and 5 place and length of the offset index, 6 and 7 of the column index, 8 crypto_metadata
unfoldable pub column_chunk_field : Field ColumnChunkFields
column_chunk_field s id =
    if is_id id 1 then setting (λ b. record s { file_path = Some b }) byte_string
    else (if is_id id 3 then setting (λ m. record s { meta_data = Some m }) chunk_meta_data
    else (if is_id id 4 then setting (λ n. record s { offset_index_offset = Some n }) count
    else (if is_id id 5 then setting (λ n. record s { offset_index_length = Some n }) small_count
    else (if is_id id 6 then setting (λ n. record s { column_index_offset = Some n }) count
    else (if is_id id 7 then setting (λ n. record s { column_index_length = Some n }) small_count
    else (if is_id id 8 then setting (λ e. record s { crypto_metadata = Some e }) empty_struct
    else passing s))))))

-- an index is there where both its place and its length are
abbrev pub place_of : Option ℕ → Option ℕ → Option Place
place_of (Some offset) (Some len) = Some (record { offset = offset; length = len })
place_of (Some offset) None = None
place_of None len = None

-- an empty path counts as absent
abbrev pub is_foreign : Option (List ℕ) → Bool
is_foreign None = false
is_foreign (Some []) = false
is_foreign (Some (byte ∷ bytes)) = true

-- a chunk says what it holds, or is encrypted
unfoldable pub column_chunk_of : ColumnChunkFields → Option ColumnChunk
column_chunk_of s = given (is_some s.meta_data || is_some s.crypto_metadata) (record {
  meta_data = s.meta_data;
  offset_index = place_of s.offset_index_offset s.offset_index_length;
  column_index = place_of s.column_index_offset s.column_index_length;
  column_index_offset = s.column_index_offset;
  foreign = is_foreign s.file_path;
  encrypted = is_some s.crypto_metadata;
})

abbrev pub no_chunk : ColumnChunkFields
no_chunk = record { file_path = None; meta_data = None; offset_index_offset = None; offset_index_length = None; column_index_offset = None; column_index_length = None; crypto_metadata = None }

unfoldable pub column_chunk : Rule ColumnChunk
column_chunk = made (struct_of column_chunk_field no_chunk) column_chunk_of

-- RowGroup: 1 columns, 3 num_rows, both required
unfoldable pub row_group_field : Field RowGroupFields
row_group_field s id =
    if is_id id 1 then setting (λ cs. record s { columns = Some cs }) (list_of column_chunk)
    else (if is_id id 3 then setting (λ n. record s { num_rows = Some n }) count
    else passing s)

unfoldable pub row_group_of : RowGroupFields → Option RowGroup
row_group_of s = do
  cs ← s.columns
  n ← s.num_rows
  Some (record { columns = cs; num_rows = n })

unfoldable pub row_group : Rule RowGroup
row_group = made (struct_of row_group_field (record { columns = None; num_rows = None })) row_group_of

-- each schema is a tree, also one that a later one replaces
unfoldable pub schema : Rule (List ColumnDescriptor)
schema = made (list_of element) leaves

-- FileMetaData: 2 schema, 3 num_rows, 4 row_groups, all required
unfoldable pub footer_field : Field FooterFields
footer_field s id =
    if is_id id 2 then setting (λ ls. record s { columns = Some ls }) schema
    else (if is_id id 3 then setting (λ n. record s { num_rows = Some n }) count
    else (if is_id id 4 then setting (λ gs. record s { row_groups = Some gs }) (list_of row_group)
    else passing s))

unfoldable pub footer_of : FooterFields → Option Footer
footer_of s = do
  ls ← s.columns
  n ← s.num_rows
  gs ← s.row_groups
  Some (record { columns = ls; num_rows = n; row_groups = gs })

abbrev pub no_footer : FooterFields
no_footer = record { columns = None; num_rows = None; row_groups = None }

unfoldable pub file_meta_data : Rule Footer
file_meta_data = made (struct_of footer_field no_footer) footer_of

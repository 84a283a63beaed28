-- Bytes of small files, and what they spell.
use Rattle.std.proofs.Common.{◌≡◌, ℕ, pos, negsuc, true, false, List, [], ◌∷◌, Some, None, refl}
use Rattle.std.specs.Prelude.{option_map}
use Rattle.std.specs.Str.{is_utf8, chars}
use lib.Utf8.{encode}
use Rattle.parquet_base.specs.Varint.{varint_within, varint}
use Rattle.parquet_thrift.specs.Numbers.{signed, signed_byte, raw, bytes_of_length}
use Rattle.parquet_thrift.specs.Values.{field_header, list_header, map_header, list_truth, elements, entries, fields_within, value_within, value, in_struct}
use Rattle.parquet_meta.specs.Meaning.{i32, i64, byte_string, name, unknown, in_turn, struct_of, each, list_of, setting, made, by_rule}
use Rattle.parquet_meta.specs.Code.{count, small_count, type_code}
use Rattle.parquet_meta.specs.Statistics.{statistics_field, statistics}
use Rattle.parquet_meta.specs.Schema.{repetition, element_field, element}
use Rattle.parquet_meta.specs.Tree.{neighbours, node_within, leaves}
use Rattle.parquet_meta.specs.Footer.{chunk_meta_data_field, chunk_meta_data_of, chunk_meta_data, column_chunk_field, column_chunk_of, column_chunk, row_group_field, row_group_of, row_group, schema, footer_field, footer_of, file_meta_data}
use Rattle.parquet_meta.specs.Front.{value_in}
use Rattle.parquet_meta.specs.File.{columns_of, meta_data_of, meta_data_in, footer_length, footer_at, footer}
use Rattle.parquet_meta.specs.Lists.{all_of}
use Rattle.parquet_meta.specs.TypedStatistics.{ends_by, typed_statistics}
use Rattle.parquet_meta.specs.declared.code.TypeCode.TheVariants as codes
use Rattle.parquet_meta.specs.declared.metadata.ColumnDescriptor.{ColumnDescriptor}
use Rattle.parquet_meta.specs.declared.metadata.ColumnChunkMetaData.{ColumnChunkMetaData}
use Rattle.parquet_meta.specs.declared.metadata.PhysicalType.TheVariants as types
use Rattle.parquet_meta.specs.declared.metadata.RawStatistics.TheVariants as raws
use Rattle.parquet_meta.specs.declared.metadata.Repetition.TheVariants.{Required}

-- one required INT32 column `a`, and no group
abbrev no_groups : List ℕ
no_groups = 80 ∷ 65 ∷ 82 ∷ 49 ∷ 21 ∷ 2 ∷ 25 ∷ 44 ∷ 72 ∷ 6 ∷ 115 ∷ 99 ∷ 104 ∷ 101 ∷ 109 ∷ 97 ∷ 21 ∷ 2 ∷ 0 ∷ 21 ∷ 2 ∷ 37 ∷ 0 ∷ 24 ∷ 1 ∷ 97 ∷ 0 ∷ 22 ∷ 0 ∷ 25 ∷ 12 ∷ 0 ∷ 28 ∷ 0 ∷ 0 ∷ 0 ∷ 80 ∷ 65 ∷ 82 ∷ 49 ∷ []

-- the same column, one group of the rows 10, 12, 15, 18 and 20 in one plain page
abbrev one_group : List ℕ
one_group = 80 ∷ 65 ∷ 82 ∷ 49 ∷ 21 ∷ 0 ∷ 21 ∷ 40 ∷ 21 ∷ 40 ∷ 44 ∷ 21 ∷ 10 ∷ 21 ∷ 0 ∷ 21 ∷ 6 ∷ 21 ∷ 6 ∷ 0 ∷ 0 ∷ 10 ∷ 0 ∷ 0 ∷ 0 ∷ 12 ∷ 0 ∷ 0 ∷ 0 ∷ 15 ∷ 0 ∷ 0 ∷ 0 ∷ 18 ∷ 0 ∷ 0 ∷ 0 ∷ 20 ∷ 0 ∷ 0 ∷ 0 ∷ 21 ∷ 2 ∷ 25 ∷ 44 ∷ 72 ∷ 6 ∷ 115 ∷ 99 ∷ 104 ∷ 101 ∷ 109 ∷ 97 ∷ 21 ∷ 2 ∷ 0 ∷ 21 ∷ 2 ∷ 37 ∷ 0 ∷ 24 ∷ 1 ∷ 97 ∷ 0 ∷ 22 ∷ 10 ∷ 25 ∷ 28 ∷ 25 ∷ 28 ∷ 38 ∷ 8 ∷ 28 ∷ 21 ∷ 2 ∷ 25 ∷ 21 ∷ 0 ∷ 25 ∷ 24 ∷ 1 ∷ 97 ∷ 21 ∷ 0 ∷ 22 ∷ 10 ∷ 22 ∷ 74 ∷ 22 ∷ 74 ∷ 38 ∷ 8 ∷ 60 ∷ 54 ∷ 0 ∷ 40 ∷ 4 ∷ 20 ∷ 0 ∷ 0 ∷ 0 ∷ 24 ∷ 4 ∷ 10 ∷ 0 ∷ 0 ∷ 0 ∷ 0 ∷ 0 ∷ 0 ∷ 22 ∷ 74 ∷ 22 ∷ 10 ∷ 0 ∷ 0 ∷ 75 ∷ 0 ∷ 0 ∷ 0 ∷ 80 ∷ 65 ∷ 82 ∷ 49 ∷ []

abbrev the_leaf : ColumnDescriptor
the_leaf = record { path_in_schema = (97 ∷ []) ∷ []; primitive_type = record { physical_type = types.Int32; logical_type = None; repetition = Required }; flat = true }

abbrev the_chunk : ColumnChunkMetaData
the_chunk = record {
  descriptor = the_leaf;
  codec = pos 0;
  num_values = 5;
  total_compressed_size = 37;
  data_page_offset = 4;
  dictionary_page_offset = None;
  statistics_bytes = Some (record { null_count = Some (pos 0); distinct_count = None; max_value = Some (20 ∷ 0 ∷ 0 ∷ 0 ∷ []); min_value = Some (10 ∷ 0 ∷ 0 ∷ 0 ∷ []) });
  offset_index = None;
  column_index = None;
  column_index_offset = None;
  foreign = false;
  encrypted = false;
}

no_groups-says : footer no_groups ≡ Some (record { num_rows = 0; columns = the_leaf ∷ []; row_groups = [] })
unfolding varint_within varint signed signed_byte raw bytes_of_length field_header list_header map_header list_truth elements entries fields_within value_within value i32 i64 byte_string name unknown in_turn struct_of each list_of setting made by_rule count small_count type_code statistics_field statistics repetition element_field element chunk_meta_data_field chunk_meta_data_of chunk_meta_data column_chunk_field column_chunk_of column_chunk row_group_field row_group_of row_group schema footer_field footer_of file_meta_data neighbours node_within leaves columns_of all_of meta_data_of value_in meta_data_in footer_length footer_at footer is_utf8 chars encode
no_groups-says = refl

one_group-says : footer one_group ≡ Some (record { num_rows = 5; columns = the_leaf ∷ []; row_groups = record { columns = the_chunk ∷ []; num_rows = 5 } ∷ [] })
unfolding varint_within varint signed signed_byte raw bytes_of_length field_header list_header map_header list_truth elements entries fields_within value_within value i32 i64 byte_string name unknown in_turn struct_of each list_of setting made by_rule count small_count type_code statistics_field statistics repetition element_field element chunk_meta_data_field chunk_meta_data_of chunk_meta_data column_chunk_field column_chunk_of column_chunk row_group_field row_group_of row_group schema footer_field footer_of file_meta_data neighbours node_within leaves columns_of all_of meta_data_of value_in meta_data_in footer_length footer_at footer is_utf8 chars encode
one_group-says = refl

-- ids 4 and 5 place the offset index, 6 and 7 the column index
chunk-indexes : option_map (λ x. x.0) (by_rule in_struct column_chunk 12 (60 ∷ 21 ∷ 2 ∷ 53 ∷ 0 ∷ 22 ∷ 10 ∷ 38 ∷ 74 ∷ 38 ∷ 8 ∷ 0 ∷ 22 ∷ 16 ∷ 21 ∷ 2 ∷ 22 ∷ 32 ∷ 21 ∷ 4 ∷ 0 ∷ []))
    ≡ Some (record {
      meta_data = Some (record {
        type_code = codes.Int32;
        numbers = record { codec = pos 0; num_values = 5; total_compressed_size = 37; data_page_offset = 4; dictionary_page_offset = None; statistics = None };
      });
      offset_index = Some (record { offset = 8; length = 1 });
      column_index = Some (record { offset = 16; length = 2 });
      column_index_offset = Some 16;
      foreign = false;
      encrypted = false;
    })
unfolding varint_within varint signed signed_byte raw bytes_of_length field_header list_header map_header list_truth elements entries fields_within value_within value i32 i64 byte_string name unknown in_turn struct_of each list_of setting made by_rule count small_count type_code statistics_field statistics repetition element_field element chunk_meta_data_field chunk_meta_data_of chunk_meta_data column_chunk_field column_chunk_of column_chunk row_group_field row_group_of row_group schema footer_field footer_of file_meta_data neighbours node_within leaves columns_of all_of meta_data_of value_in meta_data_in footer_length footer_at footer is_utf8 chars encode
chunk-indexes = refl

-- nulls -1, distinct values 2, greatest 5, least 6
statistics-are : option_map (λ x. x.0) (by_rule in_struct statistics 12 (54 ∷ 1 ∷ 22 ∷ 4 ∷ 24 ∷ 1 ∷ 5 ∷ 24 ∷ 1 ∷ 6 ∷ 0 ∷ []))
    ≡ Some (record { null_count = Some (negsuc 0); distinct_count = Some (pos 2); max_value = Some (5 ∷ []); min_value = Some (6 ∷ []) })
unfolding varint_within varint signed signed_byte raw bytes_of_length field_header list_header map_header list_truth elements entries fields_within value_within value i32 i64 byte_string name unknown in_turn struct_of each list_of setting made by_rule count small_count type_code statistics_field statistics repetition element_field element chunk_meta_data_field chunk_meta_data_of chunk_meta_data column_chunk_field column_chunk_of column_chunk row_group_field row_group_of row_group schema footer_field footer_of file_meta_data neighbours node_within leaves columns_of all_of meta_data_of value_in meta_data_in footer_length footer_at footer is_utf8 chars encode
statistics-are = refl

typed-are : typed_statistics types.Int32 (record { null_count = Some (pos 0); distinct_count = None; max_value = Some (20 ∷ 0 ∷ 0 ∷ 0 ∷ []); min_value = Some (10 ∷ 0 ∷ 0 ∷ 0 ∷ []) })
    ≡ Some (raws.Int32 (record { null_count = Some 0; distinct_count = None; min_value = Some (pos 10); max_value = Some (pos 20) }))
unfolding ends_by
typed-are = refl

-- Bytes of page headers and indexes, and what they spell.
use Rattle.std.proofs.Common.{◌≡◌, pos, negsuc, [], ◌∷◌, Some, None, refl}
use Rattle.parquet_base.specs.Varint.{varint_within, varint}
use Rattle.parquet_thrift.specs.Numbers.{signed, signed_byte, raw, bytes_of_length}
use Rattle.parquet_thrift.specs.Values.{field_header, list_header, map_header, list_truth, elements, entries, fields_within, value_within, value}
use Rattle.parquet_meta.specs.Meaning.{i32, i64, byte_string, truth_element, unknown, in_turn, struct_of, each, list_of, setting, made, by_rule}
use Rattle.parquet_meta.specs.Code.{small_count}
use Rattle.parquet_meta.specs.PageHeader.{data_field, data_of, data_header, dictionary_field, dictionary_of, dictionary_header, data_v2_field, data_v2_of, data_v2_header, page_type, header_field, page_header_of, header, page_header}
use Rattle.parquet_meta.specs.Front.{value_in}
use Rattle.parquet_meta.specs.OffsetIndex.{location_field, location_of, location, offset_index_field, offset_index_of, offset_index, locations_in}
use Rattle.parquet_meta.specs.ColumnIndex.{column_index_field, column_index_of, column_index, column_index_in}
use Rattle.parquet_meta.specs.PageIndexes.{pages, page_indexes, typed_index}
use Rattle.parquet_meta.specs.Indexes.{index_in}
use Rattle.parquet_meta.specs.declared.metadata.Index.TheVariants as indexes
use Rattle.parquet_meta.specs.declared.metadata.PhysicalType.TheVariants as types
use Rattle.parquet_meta.specs.declared.page_header.DataPageHeader.TheVariants.{V1, V2}
use Rattle.parquet_meta.specs.declared.page_header.PageKind.TheVariants.{Data, Dictionary}

a_data_page : page_header (0x15 ∷ 0x00 ∷ 0x15 ∷ 0x28 ∷ 0x15 ∷ 0x28 ∷ 0x2C ∷ 0x15 ∷ 0x0A ∷ 0x15 ∷ 0x00 ∷ 0x15 ∷ 0x06 ∷ 0x15 ∷ 0x06 ∷ 0x00 ∷ 0x00 ∷ 0x0A ∷ []) ≡ Some (record { kind = Data (V1 5 (pos 0) (pos 3)); size = 20 }, 0x0A ∷ [])
unfolding varint_within varint signed signed_byte raw bytes_of_length field_header list_header map_header list_truth elements entries fields_within value_within value i32 unknown in_turn struct_of setting made by_rule small_count data_field data_of data_header page_type header_field page_header_of header page_header
a_data_page = refl

a_dictionary_page : page_header (0x15 ∷ 0x04 ∷ 0x25 ∷ 0x10 ∷ 0x4C ∷ 0x15 ∷ 0x04 ∷ 0x15 ∷ 0x00 ∷ 0x00 ∷ 0x00 ∷ []) ≡ Some (record { kind = Dictionary 2 (pos 0); size = 8 }, [])
unfolding varint_within varint signed signed_byte raw bytes_of_length field_header list_header map_header list_truth elements entries fields_within value_within value i32 unknown in_turn struct_of setting made by_rule small_count dictionary_field dictionary_of dictionary_header page_type header_field page_header_of header page_header
a_dictionary_page = refl

-- 2 values, encoding 0, one byte of definition levels and 3 of repetition levels
a_data_page_v2 : page_header (0x15 ∷ 0x06 ∷ 0x25 ∷ 0x0E ∷ 0x5C ∷ 0x15 ∷ 0x04 ∷ 0x35 ∷ 0x00 ∷ 0x15 ∷ 0x02 ∷ 0x15 ∷ 0x06 ∷ 0x00 ∷ 0x00 ∷ []) ≡ Some (record { kind = Data (V2 2 (pos 0) 1 3); size = 7 }, [])
unfolding varint_within varint signed signed_byte raw bytes_of_length field_header list_header map_header list_truth elements entries fields_within value_within value i32 unknown in_turn struct_of setting made by_rule small_count data_v2_field data_v2_of data_v2_header page_type header_field page_header_of header page_header
a_data_page_v2 = refl

-- a type of 1, and then one of 0 that replaces it
each_type_counts : page_header (0x15 ∷ 0x02 ∷ 0x05 ∷ 0x02 ∷ 0x00 ∷ 0x25 ∷ 0x00 ∷ 0x2C ∷ 0x15 ∷ 0x00 ∷ 0x15 ∷ 0x00 ∷ 0x15 ∷ 0x06 ∷ 0x00 ∷ 0x00 ∷ []) ≡ None
unfolding varint_within varint signed signed_byte raw bytes_of_length field_header list_header map_header list_truth elements entries fields_within value_within value i32 unknown in_turn struct_of setting made by_rule small_count data_field data_of data_header page_type header_field page_header_of header page_header
each_type_counts = refl

three_locations : locations_in (0x19 ∷ 0x3C ∷ 0x16 ∷ 0x08 ∷ 0x15 ∷ 0xC8 ∷ 0x01 ∷ 0x16 ∷ 0x00 ∷ 0x00 ∷ 0x16 ∷ 0xD0 ∷ 0x01 ∷ 0x15 ∷ 0xC8 ∷ 0x01 ∷ 0x16 ∷ 0x14 ∷ 0x00 ∷ 0x16 ∷ 0x98 ∷ 0x03 ∷ 0x15 ∷ 0x64 ∷ 0x16 ∷ 0x32 ∷ 0x00 ∷ 0x00 ∷ [])
    ≡ Some (record { offset = pos 4; compressed_page_size = pos 100; first_row_index = pos 0 } ∷ record { offset = pos 104; compressed_page_size = pos 100; first_row_index = pos 10 }
    ∷ record { offset = pos 204; compressed_page_size = pos 50; first_row_index = pos 25 } ∷ [])
unfolding varint_within varint signed signed_byte raw bytes_of_length field_header list_header map_header list_truth elements entries fields_within value_within value i32 i64 unknown in_turn struct_of each list_of setting made by_rule location_field location_of location offset_index_field offset_index_of offset_index value_in locations_in
three_locations = refl

-- a page from 1 to -2 without nulls, and a page of three nulls, for which other ends are stored
two_pages : index_in types.Int32 (0x19 ∷ 0x21 ∷ 0x02 ∷ 0x01 ∷ 0x19 ∷ 0x28 ∷ 0x04 ∷ 0x01 ∷ 0x00 ∷ 0x00 ∷ 0x00 ∷ 0x00 ∷ 0x19 ∷ 0x28 ∷ 0x04 ∷ 0xFE ∷ 0xFF ∷ 0xFF ∷ 0xFF ∷ 0x01 ∷ 0x07 ∷ 0x29 ∷ 0x26 ∷ 0x00 ∷ 0x06 ∷ 0x00 ∷ [])
    ≡ Some (indexes.Int32 (record { min = Some (pos 1); max = Some (negsuc 1); null_count = Some (pos 0) } ∷ record { min = None; max = None; null_count = Some (pos 3) } ∷ []))
unfolding varint_within varint signed signed_byte raw bytes_of_length field_header list_header map_header list_truth elements entries fields_within value_within value i64 byte_string truth_element unknown in_turn struct_of each list_of setting made by_rule column_index_field column_index_of column_index value_in column_index_in pages page_indexes typed_index
two_pages = refl

-- one null page, and no ends
shorter_lists : column_index_in (0x19 ∷ 0x11 ∷ 0x01 ∷ 0x19 ∷ 0x08 ∷ 0x19 ∷ 0x08 ∷ 0x00 ∷ []) ≡ None
unfolding varint_within varint signed signed_byte raw bytes_of_length field_header list_header map_header list_truth elements entries fields_within value_within value i64 byte_string truth_element unknown in_turn struct_of each list_of setting made by_rule column_index_field column_index_of column_index value_in column_index_in
shorter_lists = refl

-- Small files, against bytes from outside.
use Rattle.std.proofs.Common.{◌≡◌, pos, List, [], ◌∷◌, Some, None, refl, ap, ◌∙◌, map}
use Rattle.std.specs.Fmt.{digits}
use Rattle.std.specs.List.{range_with_len}
use Rattle.parquet_base.specs.Pieces.{cut}
use Rattle.parquet_page.specs.Stored.{Number, Octets}
use Rattle.compact_write.specs.Fields.{values_of}
use Rattle.compact_write.specs.Written.{varint_bytes_within, varint_bytes, signed_bytes, binary_bytes, field_header_bytes, list_header_bytes, value_bytes, element_bytes, elements_bytes, fields_bytes}
use Rattle.parquet_meta.specs.declared.metadata.PhysicalType.TheVariants as types
use Rattle.parquet_meta.specs.declared.metadata.Repetition.TheVariants.{Optional}
use Rattle.parquet_plain.specs.Bodies.{number_bytes, number_of_bits, bits_bytes, level_bytes, values_bytes, body_bytes}
use Rattle.parquet_plain.specs.Columns.{Rows, written_page, written_chunk, written_chunks, written_file}
use Rattle.parquet_plain.specs.Description.{page_bytes}
use Rattle.parquet_plain.specs.File.{columns_at, groups_at, all_locations_bytes, meta_data_of_plain, plain_file}
use Rattle.parquet_plain.specs.Orders.{numbers_at_most}
use Rattle.parquet_sample.specs.Sample.{group_rows, rows_of_numbers, sample, sample_columns}
use Rattle.parquet_plain.specs.Structs.{page_header_bytes, offset_index_bytes, column_index_bytes, footer_bytes}

no_rows : sample 0 0 ≡ 80 ∷ 65 ∷ 82 ∷ 49 ∷ 21 ∷ 2 ∷ 25 ∷ 76 ∷ 72 ∷ 6 ∷ 115 ∷ 99 ∷ 104 ∷ 101 ∷ 109 ∷ 97 ∷ 21 ∷ 6 ∷ 0 ∷ 21 ∷ 4 ∷ 37 ∷ 0 ∷ 24 ∷ 2 ∷ 105 ∷ 100 ∷ 0 ∷ 21 ∷ 2 ∷ 37 ∷ 2 ∷ 24 ∷ 3 ∷ 113 ∷ 116 ∷ 121 ∷ 0 ∷ 21 ∷ 12 ∷ 37 ∷ 0 ∷ 24 ∷ 4 ∷ 110 ∷ 97 ∷ 109 ∷ 101 ∷ 0 ∷ 22 ∷ 0 ∷ 25 ∷ 12 ∷ 0 ∷ 50 ∷ 0 ∷ 0 ∷ 0 ∷ 80 ∷ 65 ∷ 82 ∷ 49 ∷ []
unfolding values_of varint_bytes_within varint_bytes signed_bytes binary_bytes field_header_bytes list_header_bytes value_bytes element_bytes elements_bytes fields_bytes number_bytes number_of_bits bits_bytes level_bytes values_bytes body_bytes written_page written_chunk written_chunks written_file page_bytes columns_at groups_at all_locations_bytes meta_data_of_plain plain_file sample page_header_bytes offset_index_bytes column_index_bytes footer_bytes
no_rows = refl

-- one nullable column of 64 bits, and no group
no_groups : plain_file (written_file (record { column = record { name = 120 ∷ []; type = record { physical_type = types.Int64; logical_type = None; repetition = Optional } }; at_most = numbers_at_most; page_rows = 2 } ∷ []) [])
    ≡ 80 ∷ 65 ∷ 82 ∷ 49 ∷ 21 ∷ 2 ∷ 25 ∷ 44 ∷ 72 ∷ 6 ∷ 115 ∷ 99 ∷ 104 ∷ 101 ∷ 109 ∷ 97 ∷ 21 ∷ 2 ∷ 0 ∷ 21 ∷ 4 ∷ 37 ∷ 2 ∷ 24 ∷ 1 ∷ 120 ∷ 0 ∷ 22 ∷ 0 ∷ 25 ∷ 12 ∷ 0 ∷ 28 ∷ 0 ∷ 0 ∷ 0 ∷ 80 ∷ 65 ∷ 82 ∷ 49 ∷ []
unfolding values_of varint_bytes_within varint_bytes signed_bytes binary_bytes field_header_bytes list_header_bytes value_bytes element_bytes elements_bytes fields_bytes number_bytes number_of_bits bits_bytes level_bytes values_bytes body_bytes written_page written_chunk written_chunks written_file page_bytes columns_at groups_at all_locations_bytes meta_data_of_plain plain_file sample page_header_bytes offset_index_bytes column_index_bytes footer_bytes
no_groups = refl

-- the items of six rows
abbrev six : Rows
six = record {
  count = 6;
  items = (Some (Number (pos 0)) ∷ Some (Number (pos 1)) ∷ Some (Number (pos 2)) ∷ Some (Number (pos 3)) ∷ Some (Number (pos 4)) ∷ Some (Number (pos 5)) ∷ []) ∷ (None ∷ Some (Number (pos 1)) ∷ Some (Number (pos 2)) ∷ Some (Number (pos 3)) ∷ Some (Number (pos 4)) ∷ None ∷ []) ∷ (Some (Octets (114 ∷ 48 ∷ [])) ∷ Some (Octets (114 ∷ 49 ∷ [])) ∷ Some (Octets (114 ∷ 50 ∷ [])) ∷ Some (Octets (114 ∷ 51 ∷ [])) ∷ Some (Octets (114 ∷ 52 ∷ [])) ∷ Some (Octets (114 ∷ 53 ∷ [])) ∷ []) ∷ [];
}

six_groups : map rows_of_numbers (cut (Some group_rows) (range_with_len 0 6)) ≡ six ∷ []
unfolding digits
six_groups = refl

six_bytes : plain_file (written_file sample_columns (six ∷ [])) ≡ 80 ∷ 65 ∷ 82 ∷ 49 ∷ 21 ∷ 0 ∷ 21 ∷ 96 ∷ 21 ∷ 96 ∷ 44 ∷ 21 ∷ 12 ∷ 21 ∷ 0 ∷ 21 ∷ 6 ∷ 21 ∷ 6 ∷ 0 ∷ 0 ∷ 0 ∷ 0 ∷ 0 ∷ 0 ∷ 0 ∷ 0 ∷ 0 ∷ 0 ∷ 1 ∷ 0 ∷ 0 ∷ 0 ∷ 0 ∷ 0 ∷ 0 ∷ 0 ∷ 2 ∷ 0 ∷ 0 ∷ 0 ∷ 0 ∷ 0 ∷ 0 ∷ 0 ∷ 3 ∷ 0 ∷ 0 ∷ 0 ∷ 0 ∷ 0 ∷ 0 ∷ 0 ∷ 4 ∷ 0 ∷ 0 ∷ 0 ∷ 0 ∷ 0 ∷ 0 ∷ 0 ∷ 5 ∷ 0 ∷ 0 ∷ 0 ∷ 0 ∷ 0 ∷ 0 ∷ 0 ∷ 21 ∷ 0 ∷ 21 ∷ 44 ∷ 21 ∷ 44 ∷ 44 ∷ 21 ∷ 12 ∷ 21 ∷ 0 ∷ 21 ∷ 6 ∷ 21 ∷ 6 ∷ 0 ∷ 0 ∷ 2 ∷ 0 ∷ 0 ∷ 0 ∷ 3 ∷ 30 ∷ 1 ∷ 0 ∷ 0 ∷ 0 ∷ 2 ∷ 0 ∷ 0 ∷ 0 ∷ 3 ∷ 0 ∷ 0 ∷ 0 ∷ 4 ∷ 0 ∷ 0 ∷ 0 ∷ 21 ∷ 0 ∷ 21 ∷ 72 ∷ 21 ∷ 72 ∷ 44 ∷ 21 ∷ 12 ∷ 21 ∷ 0 ∷ 21 ∷ 6 ∷ 21 ∷ 6 ∷ 0 ∷ 0 ∷ 2 ∷ 0 ∷ 0 ∷ 0 ∷ 114 ∷ 48 ∷ 2 ∷ 0 ∷ 0 ∷ 0 ∷ 114 ∷ 49 ∷ 2 ∷ 0 ∷ 0 ∷ 0 ∷ 114 ∷ 50 ∷ 2 ∷ 0 ∷ 0 ∷ 0 ∷ 114 ∷ 51 ∷ 2 ∷ 0 ∷ 0 ∷ 0 ∷ 114 ∷ 52 ∷ 2 ∷ 0 ∷ 0 ∷ 0 ∷ 114 ∷ 53 ∷ 25 ∷ 17 ∷ 2 ∷ 25 ∷ 24 ∷ 8 ∷ 0 ∷ 0 ∷ 0 ∷ 0 ∷ 0 ∷ 0 ∷ 0 ∷ 0 ∷ 25 ∷ 24 ∷ 8 ∷ 5 ∷ 0 ∷ 0 ∷ 0 ∷ 0 ∷ 0 ∷ 0 ∷ 0 ∷ 21 ∷ 0 ∷ 25 ∷ 22 ∷ 0 ∷ 0 ∷ 25 ∷ 17 ∷ 2 ∷ 25 ∷ 24 ∷ 4 ∷ 1 ∷ 0 ∷ 0 ∷ 0 ∷ 25 ∷ 24 ∷ 4 ∷ 4 ∷ 0 ∷ 0 ∷ 0 ∷ 21 ∷ 0 ∷ 25 ∷ 22 ∷ 4 ∷ 0 ∷ 25 ∷ 17 ∷ 2 ∷ 25 ∷ 24 ∷ 2 ∷ 114 ∷ 48 ∷ 25 ∷ 24 ∷ 2 ∷ 114 ∷ 53 ∷ 21 ∷ 0 ∷ 25 ∷ 22 ∷ 0 ∷ 0 ∷ 25 ∷ 28 ∷ 22 ∷ 8 ∷ 21 ∷ 130 ∷ 1 ∷ 22 ∷ 0 ∷ 0 ∷ 0 ∷ 25 ∷ 28 ∷ 22 ∷ 138 ∷ 1 ∷ 21 ∷ 78 ∷ 22 ∷ 0 ∷ 0 ∷ 0 ∷ 25 ∷ 28 ∷ 22 ∷ 216 ∷ 1 ∷ 21 ∷ 106 ∷ 22 ∷ 0 ∷ 0 ∷ 0 ∷ 21 ∷ 2 ∷ 25 ∷ 76 ∷ 72 ∷ 6 ∷ 115 ∷ 99 ∷ 104 ∷ 101 ∷ 109 ∷ 97 ∷ 21 ∷ 6 ∷ 0 ∷ 21 ∷ 4 ∷ 37 ∷ 0 ∷ 24 ∷ 2 ∷ 105 ∷ 100 ∷ 0 ∷ 21 ∷ 2 ∷ 37 ∷ 2 ∷ 24 ∷ 3 ∷ 113 ∷ 116 ∷ 121 ∷ 0 ∷ 21 ∷ 12 ∷ 37 ∷ 0 ∷ 24 ∷ 4 ∷ 110 ∷ 97 ∷ 109 ∷ 101 ∷ 0 ∷ 22 ∷ 12 ∷ 25 ∷ 28 ∷ 25 ∷ 60 ∷ 38 ∷ 8 ∷ 28 ∷ 21 ∷ 4 ∷ 25 ∷ 21 ∷ 0 ∷ 25 ∷ 24 ∷ 2 ∷ 105 ∷ 100 ∷ 21 ∷ 0 ∷ 22 ∷ 12 ∷ 22 ∷ 130 ∷ 1 ∷ 22 ∷ 130 ∷ 1 ∷ 38 ∷ 8 ∷ 60 ∷ 54 ∷ 0 ∷ 40 ∷ 8 ∷ 5 ∷ 0 ∷ 0 ∷ 0 ∷ 0 ∷ 0 ∷ 0 ∷ 0 ∷ 24 ∷ 8 ∷ 0 ∷ 0 ∷ 0 ∷ 0 ∷ 0 ∷ 0 ∷ 0 ∷ 0 ∷ 0 ∷ 0 ∷ 22 ∷ 212 ∷ 3 ∷ 21 ∷ 22 ∷ 22 ∷ 194 ∷ 2 ∷ 21 ∷ 62 ∷ 0 ∷ 38 ∷ 138 ∷ 1 ∷ 28 ∷ 21 ∷ 2 ∷ 25 ∷ 37 ∷ 0 ∷ 6 ∷ 25 ∷ 24 ∷ 3 ∷ 113 ∷ 116 ∷ 121 ∷ 21 ∷ 0 ∷ 22 ∷ 12 ∷ 22 ∷ 78 ∷ 22 ∷ 78 ∷ 38 ∷ 138 ∷ 1 ∷ 60 ∷ 54 ∷ 4 ∷ 40 ∷ 4 ∷ 4 ∷ 0 ∷ 0 ∷ 0 ∷ 24 ∷ 4 ∷ 1 ∷ 0 ∷ 0 ∷ 0 ∷ 0 ∷ 0 ∷ 22 ∷ 234 ∷ 3 ∷ 21 ∷ 22 ∷ 22 ∷ 128 ∷ 3 ∷ 21 ∷ 46 ∷ 0 ∷ 38 ∷ 216 ∷ 1 ∷ 28 ∷ 21 ∷ 12 ∷ 25 ∷ 21 ∷ 0 ∷ 25 ∷ 24 ∷ 4 ∷ 110 ∷ 97 ∷ 109 ∷ 101 ∷ 21 ∷ 0 ∷ 22 ∷ 12 ∷ 22 ∷ 106 ∷ 22 ∷ 106 ∷ 38 ∷ 216 ∷ 1 ∷ 60 ∷ 54 ∷ 0 ∷ 40 ∷ 2 ∷ 114 ∷ 53 ∷ 24 ∷ 2 ∷ 114 ∷ 48 ∷ 0 ∷ 0 ∷ 22 ∷ 128 ∷ 4 ∷ 21 ∷ 22 ∷ 22 ∷ 174 ∷ 3 ∷ 21 ∷ 38 ∷ 0 ∷ 22 ∷ 186 ∷ 2 ∷ 22 ∷ 12 ∷ 0 ∷ 0 ∷ 225 ∷ 0 ∷ 0 ∷ 0 ∷ 80 ∷ 65 ∷ 82 ∷ 49 ∷ []
unfolding values_of varint_bytes_within varint_bytes signed_bytes binary_bytes field_header_bytes list_header_bytes value_bytes element_bytes elements_bytes fields_bytes number_bytes number_of_bits bits_bytes level_bytes values_bytes body_bytes written_page written_chunk written_chunks written_file page_bytes columns_at groups_at all_locations_bytes meta_data_of_plain plain_file sample page_header_bytes offset_index_bytes column_index_bytes footer_bytes
six_bytes = refl

six_rows : sample 6 0 ≡ 80 ∷ 65 ∷ 82 ∷ 49 ∷ 21 ∷ 0 ∷ 21 ∷ 96 ∷ 21 ∷ 96 ∷ 44 ∷ 21 ∷ 12 ∷ 21 ∷ 0 ∷ 21 ∷ 6 ∷ 21 ∷ 6 ∷ 0 ∷ 0 ∷ 0 ∷ 0 ∷ 0 ∷ 0 ∷ 0 ∷ 0 ∷ 0 ∷ 0 ∷ 1 ∷ 0 ∷ 0 ∷ 0 ∷ 0 ∷ 0 ∷ 0 ∷ 0 ∷ 2 ∷ 0 ∷ 0 ∷ 0 ∷ 0 ∷ 0 ∷ 0 ∷ 0 ∷ 3 ∷ 0 ∷ 0 ∷ 0 ∷ 0 ∷ 0 ∷ 0 ∷ 0 ∷ 4 ∷ 0 ∷ 0 ∷ 0 ∷ 0 ∷ 0 ∷ 0 ∷ 0 ∷ 5 ∷ 0 ∷ 0 ∷ 0 ∷ 0 ∷ 0 ∷ 0 ∷ 0 ∷ 21 ∷ 0 ∷ 21 ∷ 44 ∷ 21 ∷ 44 ∷ 44 ∷ 21 ∷ 12 ∷ 21 ∷ 0 ∷ 21 ∷ 6 ∷ 21 ∷ 6 ∷ 0 ∷ 0 ∷ 2 ∷ 0 ∷ 0 ∷ 0 ∷ 3 ∷ 30 ∷ 1 ∷ 0 ∷ 0 ∷ 0 ∷ 2 ∷ 0 ∷ 0 ∷ 0 ∷ 3 ∷ 0 ∷ 0 ∷ 0 ∷ 4 ∷ 0 ∷ 0 ∷ 0 ∷ 21 ∷ 0 ∷ 21 ∷ 72 ∷ 21 ∷ 72 ∷ 44 ∷ 21 ∷ 12 ∷ 21 ∷ 0 ∷ 21 ∷ 6 ∷ 21 ∷ 6 ∷ 0 ∷ 0 ∷ 2 ∷ 0 ∷ 0 ∷ 0 ∷ 114 ∷ 48 ∷ 2 ∷ 0 ∷ 0 ∷ 0 ∷ 114 ∷ 49 ∷ 2 ∷ 0 ∷ 0 ∷ 0 ∷ 114 ∷ 50 ∷ 2 ∷ 0 ∷ 0 ∷ 0 ∷ 114 ∷ 51 ∷ 2 ∷ 0 ∷ 0 ∷ 0 ∷ 114 ∷ 52 ∷ 2 ∷ 0 ∷ 0 ∷ 0 ∷ 114 ∷ 53 ∷ 25 ∷ 17 ∷ 2 ∷ 25 ∷ 24 ∷ 8 ∷ 0 ∷ 0 ∷ 0 ∷ 0 ∷ 0 ∷ 0 ∷ 0 ∷ 0 ∷ 25 ∷ 24 ∷ 8 ∷ 5 ∷ 0 ∷ 0 ∷ 0 ∷ 0 ∷ 0 ∷ 0 ∷ 0 ∷ 21 ∷ 0 ∷ 25 ∷ 22 ∷ 0 ∷ 0 ∷ 25 ∷ 17 ∷ 2 ∷ 25 ∷ 24 ∷ 4 ∷ 1 ∷ 0 ∷ 0 ∷ 0 ∷ 25 ∷ 24 ∷ 4 ∷ 4 ∷ 0 ∷ 0 ∷ 0 ∷ 21 ∷ 0 ∷ 25 ∷ 22 ∷ 4 ∷ 0 ∷ 25 ∷ 17 ∷ 2 ∷ 25 ∷ 24 ∷ 2 ∷ 114 ∷ 48 ∷ 25 ∷ 24 ∷ 2 ∷ 114 ∷ 53 ∷ 21 ∷ 0 ∷ 25 ∷ 22 ∷ 0 ∷ 0 ∷ 25 ∷ 28 ∷ 22 ∷ 8 ∷ 21 ∷ 130 ∷ 1 ∷ 22 ∷ 0 ∷ 0 ∷ 0 ∷ 25 ∷ 28 ∷ 22 ∷ 138 ∷ 1 ∷ 21 ∷ 78 ∷ 22 ∷ 0 ∷ 0 ∷ 0 ∷ 25 ∷ 28 ∷ 22 ∷ 216 ∷ 1 ∷ 21 ∷ 106 ∷ 22 ∷ 0 ∷ 0 ∷ 0 ∷ 21 ∷ 2 ∷ 25 ∷ 76 ∷ 72 ∷ 6 ∷ 115 ∷ 99 ∷ 104 ∷ 101 ∷ 109 ∷ 97 ∷ 21 ∷ 6 ∷ 0 ∷ 21 ∷ 4 ∷ 37 ∷ 0 ∷ 24 ∷ 2 ∷ 105 ∷ 100 ∷ 0 ∷ 21 ∷ 2 ∷ 37 ∷ 2 ∷ 24 ∷ 3 ∷ 113 ∷ 116 ∷ 121 ∷ 0 ∷ 21 ∷ 12 ∷ 37 ∷ 0 ∷ 24 ∷ 4 ∷ 110 ∷ 97 ∷ 109 ∷ 101 ∷ 0 ∷ 22 ∷ 12 ∷ 25 ∷ 28 ∷ 25 ∷ 60 ∷ 38 ∷ 8 ∷ 28 ∷ 21 ∷ 4 ∷ 25 ∷ 21 ∷ 0 ∷ 25 ∷ 24 ∷ 2 ∷ 105 ∷ 100 ∷ 21 ∷ 0 ∷ 22 ∷ 12 ∷ 22 ∷ 130 ∷ 1 ∷ 22 ∷ 130 ∷ 1 ∷ 38 ∷ 8 ∷ 60 ∷ 54 ∷ 0 ∷ 40 ∷ 8 ∷ 5 ∷ 0 ∷ 0 ∷ 0 ∷ 0 ∷ 0 ∷ 0 ∷ 0 ∷ 24 ∷ 8 ∷ 0 ∷ 0 ∷ 0 ∷ 0 ∷ 0 ∷ 0 ∷ 0 ∷ 0 ∷ 0 ∷ 0 ∷ 22 ∷ 212 ∷ 3 ∷ 21 ∷ 22 ∷ 22 ∷ 194 ∷ 2 ∷ 21 ∷ 62 ∷ 0 ∷ 38 ∷ 138 ∷ 1 ∷ 28 ∷ 21 ∷ 2 ∷ 25 ∷ 37 ∷ 0 ∷ 6 ∷ 25 ∷ 24 ∷ 3 ∷ 113 ∷ 116 ∷ 121 ∷ 21 ∷ 0 ∷ 22 ∷ 12 ∷ 22 ∷ 78 ∷ 22 ∷ 78 ∷ 38 ∷ 138 ∷ 1 ∷ 60 ∷ 54 ∷ 4 ∷ 40 ∷ 4 ∷ 4 ∷ 0 ∷ 0 ∷ 0 ∷ 24 ∷ 4 ∷ 1 ∷ 0 ∷ 0 ∷ 0 ∷ 0 ∷ 0 ∷ 22 ∷ 234 ∷ 3 ∷ 21 ∷ 22 ∷ 22 ∷ 128 ∷ 3 ∷ 21 ∷ 46 ∷ 0 ∷ 38 ∷ 216 ∷ 1 ∷ 28 ∷ 21 ∷ 12 ∷ 25 ∷ 21 ∷ 0 ∷ 25 ∷ 24 ∷ 4 ∷ 110 ∷ 97 ∷ 109 ∷ 101 ∷ 21 ∷ 0 ∷ 22 ∷ 12 ∷ 22 ∷ 106 ∷ 22 ∷ 106 ∷ 38 ∷ 216 ∷ 1 ∷ 60 ∷ 54 ∷ 0 ∷ 40 ∷ 2 ∷ 114 ∷ 53 ∷ 24 ∷ 2 ∷ 114 ∷ 48 ∷ 0 ∷ 0 ∷ 22 ∷ 128 ∷ 4 ∷ 21 ∷ 22 ∷ 22 ∷ 174 ∷ 3 ∷ 21 ∷ 38 ∷ 0 ∷ 22 ∷ 186 ∷ 2 ∷ 22 ∷ 12 ∷ 0 ∷ 0 ∷ 225 ∷ 0 ∷ 0 ∷ 0 ∷ 80 ∷ 65 ∷ 82 ∷ 49 ∷ []
unfolding sample
six_rows = ap (λ (groups : List Rows). plain_file (written_file sample_columns groups)) six_groups ∙ six_bytes

-- Small chunks, and the pages that they have.
use Rattle.std.proofs.Common.{◌≡◌, ℕ, pos, false, List, [], ◌∷◌, ◌++◌, take, refl}
use Rattle.parquet_base.specs.Varint.{varint_within, varint}
use Rattle.parquet_thrift.specs.Numbers.{signed, signed_byte, raw, bytes_of_length}
use Rattle.parquet_thrift.specs.Values.{field_header, list_header, map_header, list_truth, elements, entries, fields_within, value_within, value}
use Rattle.parquet_meta.specs.Meaning.{i32, in_turn, struct_of, unknown, setting, made, by_rule}
use Rattle.parquet_meta.specs.Code.{count, small_count}
use Rattle.parquet_meta.specs.PageHeader.{data_field, data_of, data_header, dictionary_field, dictionary_of, dictionary_header, data_v2_field, data_v2_of, data_v2_header, page_type, header_field, page_header_of, header, page_header}
use Rattle.parquet_meta.specs.declared.page_header.DataPageHeader.TheVariants.{V1}
use Rattle.parquet_page.specs.Chunk.{ChunkPage, Defined, chunk_dictionary, chunk_pages, data_page_at, dictionary_at, page_at, pages_from, pages_of_chunk}

-- a plain data page of two numbers: a header of 17 bytes and a body of 8
abbrev first_page : List ℕ
first_page = 0x15 ∷ 0x00 ∷ 0x15 ∷ 0x10 ∷ 0x15 ∷ 0x10 ∷ 0x2C ∷ 0x15 ∷ 0x04 ∷ 0x15 ∷ 0x00 ∷ 0x15 ∷ 0x06 ∷ 0x15 ∷ 0x06 ∷ 0x00 ∷ 0x00 ∷ 0x0A ∷ 0x00 ∷ 0x00 ∷ 0x00 ∷ 0x0C ∷ 0x00 ∷ 0x00 ∷ 0x00 ∷ []

abbrev second_page : List ℕ
second_page = 0x15 ∷ 0x00 ∷ 0x15 ∷ 0x10 ∷ 0x15 ∷ 0x10 ∷ 0x2C ∷ 0x15 ∷ 0x04 ∷ 0x15 ∷ 0x00 ∷ 0x15 ∷ 0x06 ∷ 0x15 ∷ 0x06 ∷ 0x00 ∷ 0x00 ∷ 0x0F ∷ 0x00 ∷ 0x00 ∷ 0x00 ∷ 0x12 ∷ 0x00 ∷ 0x00 ∷ 0x00 ∷ []

-- a plain dictionary page of two numbers
abbrev dictionary : List ℕ
dictionary = 0x15 ∷ 0x04 ∷ 0x15 ∷ 0x10 ∷ 0x15 ∷ 0x10 ∷ 0x4C ∷ 0x15 ∷ 0x04 ∷ 0x15 ∷ 0x00 ∷ 0x00 ∷ 0x00 ∷ 0x0A ∷ 0x00 ∷ 0x00 ∷ 0x00 ∷ 0x0C ∷ 0x00 ∷ 0x00 ∷ 0x00 ∷ []

abbrev page_of : List ℕ → ChunkPage
page_of body = record { size = 25; header = V1 2 (pos 0) (pos 3); body = body }

abbrev first_body : List ℕ
first_body = 10 ∷ 0 ∷ 0 ∷ 0 ∷ 12 ∷ 0 ∷ 0 ∷ 0 ∷ []

abbrev second_body : List ℕ
second_body = 15 ∷ 0 ∷ 0 ∷ 0 ∷ 18 ∷ 0 ∷ 0 ∷ 0 ∷ []

-- what stands behind the page that reaches the count is not looked at
two_pages : pages_of_chunk 4 (first_page ++ second_page ++ 0xFF ∷ []) ≡ record { start = 0; first_row = 0; page = page_of first_body } ∷ record { start = 25; first_row = 2; page = page_of second_body } ∷ []
unfolding varint_within varint signed signed_byte raw bytes_of_length field_header list_header map_header list_truth elements entries fields_within value_within value i32 in_turn struct_of unknown setting made by_rule count small_count data_field data_of data_header dictionary_field dictionary_of dictionary_header data_v2_field data_v2_of data_v2_header page_type header_field page_header_of header page_header page_at data_page_at dictionary_at pages_from chunk_pages
two_pages = refl

behind_a_dictionary : pages_of_chunk 2 (dictionary ++ first_page) ≡ record { start = 21; first_row = 0; page = page_of first_body } ∷ []
unfolding varint_within varint signed signed_byte raw bytes_of_length field_header list_header map_header list_truth elements entries fields_within value_within value i32 in_turn struct_of unknown setting made by_rule count small_count data_field data_of data_header dictionary_field dictionary_of dictionary_header data_v2_field data_v2_of data_v2_header page_type header_field page_header_of header page_header page_at data_page_at dictionary_at pages_from chunk_pages
behind_a_dictionary = refl

the_dictionary : chunk_dictionary (dictionary ++ first_page) ≡ Defined (record { size = 21; num_values = 2; encoding = pos 0; body = first_body })
unfolding varint_within varint signed signed_byte raw bytes_of_length field_header list_header map_header list_truth elements entries fields_within value_within value i32 in_turn struct_of unknown setting made by_rule count small_count data_field data_of data_header dictionary_field dictionary_of dictionary_header data_v2_field data_v2_of data_v2_header page_type header_field page_header_of header page_header page_at data_page_at dictionary_at pages_from chunk_pages
the_dictionary = refl

-- the second page would pass the count, ends early, or is another dictionary page
past_the_count : chunk_pages 3 (first_page ++ second_page) ≡ record { pages = page_of first_body ∷ []; is_whole = false }
unfolding varint_within varint signed signed_byte raw bytes_of_length field_header list_header map_header list_truth elements entries fields_within value_within value i32 in_turn struct_of unknown setting made by_rule count small_count data_field data_of data_header dictionary_field dictionary_of dictionary_header data_v2_field data_v2_of data_v2_header page_type header_field page_header_of header page_header page_at data_page_at dictionary_at pages_from chunk_pages
past_the_count = refl

cut_off : chunk_pages 4 (first_page ++ take 24 second_page) ≡ record { pages = page_of first_body ∷ []; is_whole = false }
unfolding varint_within varint signed signed_byte raw bytes_of_length field_header list_header map_header list_truth elements entries fields_within value_within value i32 in_turn struct_of unknown setting made by_rule count small_count data_field data_of data_header dictionary_field dictionary_of dictionary_header data_v2_field data_v2_of data_v2_header page_type header_field page_header_of header page_header page_at data_page_at dictionary_at pages_from chunk_pages
cut_off = refl

late_dictionary : chunk_pages 4 (first_page ++ dictionary) ≡ record { pages = page_of first_body ∷ []; is_whole = false }
unfolding varint_within varint signed signed_byte raw bytes_of_length field_header list_header map_header list_truth elements entries fields_within value_within value i32 in_turn struct_of unknown setting made by_rule count small_count data_field data_of data_header dictionary_field dictionary_of dictionary_header data_v2_field data_v2_of data_v2_header page_type header_field page_header_of header page_header page_at data_page_at dictionary_at pages_from chunk_pages
late_dictionary = refl

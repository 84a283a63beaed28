-- A page header: what the page holds, and how many bytes its body has. The ids are those of the format.
use Rattle.std.specs.Prelude.{zero, suc, ℤ, pos, negsuc, Option, Some, None, if◌then◌else◌}
use Rattle.parquet_base.specs.Reading.{Read, ◌>>=◌}
use Rattle.parquet_thrift.specs.Values.{in_struct}
use Rattle.parquet_meta.specs.Meaning.{Rule, Field, i32, struct_of, is_id, setting, passing, made, by_rule}
use Rattle.parquet_meta.specs.Code.{small_count}
use Rattle.parquet_meta.specs.declared.page_header.DataFields.{DataFields}
use Rattle.parquet_meta.specs.declared.page_header.DataPageHeader.TheVariants.{V1, V2}
use Rattle.parquet_meta.specs.declared.page_header.DataV2Fields.{DataV2Fields}
use Rattle.parquet_meta.specs.declared.page_header.DictionaryFields.{DictionaryFields}
use Rattle.parquet_meta.specs.declared.page_header.HeaderFields.{HeaderFields}
use Rattle.parquet_meta.specs.declared.page_header.PageHeader.{PageHeader}
use Rattle.parquet_meta.specs.declared.page_header.PageKind.{PageKind}
use Rattle.parquet_meta.specs.declared.page_header.PageKind.TheVariants.{Data, Dictionary}
use Rattle.parquet_meta.specs.declared.page_header.PageType.{PageType}
use Rattle.parquet_meta.specs.declared.page_header.PageType.TheVariants.{DataPage, DictionaryPage, DataPageV2}

-- DataPageHeader: 1 num_values, 2 encoding, 3 definition_level_encoding, all required
unfoldable pub data_field : Field DataFields
data_field s id =
    if is_id id 1 then setting (λ n. record s { num_values = Some n }) small_count
    else (if is_id id 2 then setting (λ n. record s { encoding = Some n }) i32
    else (if is_id id 3 then setting (λ n. record s { definition_encoding = Some n }) i32
    else passing s))

unfoldable pub data_of : DataFields → Option PageKind
data_of s = do
  n ← s.num_values
  e ← s.encoding
  d ← s.definition_encoding
  Some (Data (V1 n e d))

unfoldable pub data_header : Rule PageKind
data_header = made (struct_of data_field (record { num_values = None; encoding = None; definition_encoding = None })) data_of

-- DictionaryPageHeader: 1 num_values, 2 encoding, both required
unfoldable pub dictionary_field : Field DictionaryFields
dictionary_field s id =
    if is_id id 1 then setting (λ n. record s { num_values = Some n }) small_count
    else (if is_id id 2 then setting (λ n. record s { encoding = Some n }) i32
    else passing s)

unfoldable pub dictionary_of : DictionaryFields → Option PageKind
dictionary_of s = do
  n ← s.num_values
  e ← s.encoding
  Some (Dictionary n e)

unfoldable pub dictionary_header : Rule PageKind
dictionary_header = made (struct_of dictionary_field (record { num_values = None; encoding = None })) dictionary_of

-- DataPageHeaderV2: 1 num_values, 4 encoding, 5 and 6 byte lengths of definition and repetition levels, all required
unfoldable pub data_v2_field : Field DataV2Fields
data_v2_field s id =
    if is_id id 1 then setting (λ n. record s { num_values = Some n }) small_count
    else (if is_id id 4 then setting (λ n. record s { encoding = Some n }) i32
    else (if is_id id 5 then setting (λ n. record s { definition_length = Some n }) small_count
    else (if is_id id 6 then setting (λ n. record s { repetition_length = Some n }) small_count
    else passing s)))

unfoldable pub data_v2_of : DataV2Fields → Option PageKind
data_v2_of s = do
  n ← s.num_values
  e ← s.encoding
  d ← s.definition_length
  r ← s.repetition_length
  Some (Data (V2 n e d r))

unfoldable pub data_v2_header : Rule PageKind
data_v2_header = made (struct_of data_v2_field (record { num_values = None; encoding = None; definition_length = None; repetition_length = None })) data_v2_of

-- the types of pages that are read: 0 data, 2 dictionary, 3 data of the second form
abbrev pub page_type_of : ℤ → Option PageType
page_type_of (pos zero) = Some DataPage
page_type_of (pos (suc zero)) = None
page_type_of (pos (suc (suc zero))) = Some DictionaryPage
page_type_of (pos (suc (suc (suc zero)))) = Some DataPageV2
page_type_of (pos (suc (suc (suc (suc n))))) = None
page_type_of (negsuc n) = None

unfoldable pub page_type : Rule PageType
page_type = made i32 page_type_of

-- PageHeader: 1 type, 3 compressed_page_size, both required, and the one that fits the type of 5 data_page_header,
-- 7 dictionary_page_header, 8 data_page_header_v2
unfoldable pub header_field : Field HeaderFields
header_field s id =
    if is_id id 1 then setting (λ t. record s { page_type = Some t }) page_type
    else (if is_id id 3 then setting (λ n. record s { size = Some n }) small_count
    else (if is_id id 5 then setting (λ k. record s { data_page = Some k }) data_header
    else (if is_id id 7 then setting (λ k. record s { dictionary_page = Some k }) dictionary_header
    else (if is_id id 8 then setting (λ k. record s { data_page_v2 = Some k }) data_v2_header
    else passing s))))

-- the header that fits the type
abbrev pub kind_of : HeaderFields → PageType → Option PageKind
kind_of s DataPage = s.data_page
kind_of s DictionaryPage = s.dictionary_page
kind_of s DataPageV2 = s.data_page_v2

unfoldable pub page_header_of : HeaderFields → Option PageHeader
page_header_of s = do
  t ← s.page_type
  k ← kind_of s t
  n ← s.size
  Some (record { kind = k; size = n })

unfoldable pub header : Rule PageHeader
header = made (struct_of header_field (record { page_type = None; size = None; data_page = None; dictionary_page = None; data_page_v2 = None })) page_header_of

-- the header that the bytes begin with
unfoldable pub page_header : Read PageHeader
page_header bytes = by_rule in_struct header 12 bytes

-- The list of optional stored values that a whole page stands for.
use Rattle.std.specs.Prelude.{ℕ, ℤ, pos, negsuc, ◌==◌, ◌||◌, ◌&&◌, Bool, true, false, List, Option, Some}
use Rattle.parquet_base.specs.Reading.{◌>>=◌, given}
use Rattle.parquet_meta.specs.declared.metadata.PhysicalType.{PhysicalType}
use Rattle.parquet_meta.specs.declared.metadata.Repetition.{Repetition}
use Rattle.parquet_meta.specs.declared.metadata.Repetition.TheVariants.{Required, Optional, Repeated}
use Rattle.parquet_page.specs.Content.{DataContent, DictContent, header_values}
use Rattle.parquet_page.specs.Levels.{body_parts, presence, present_count, placed}
use Rattle.parquet_page.specs.Stored.{Stored}
use Rattle.parquet_page.specs.Values.{Encoding, Keys, encoding_of, goes_with, plain_values, dictionary_keys, values_in, unless_none}
use Rattle.parquet_meta.specs.declared.page_header.DataPageHeader.{DataPageHeader}
use Rattle.parquet_meta.specs.declared.page_header.DataPageHeader.TheVariants.{V1, V2}

abbrev pub is_keys : Option Encoding → Bool
is_keys (Some Keys) = true
is_keys _ = false

abbrev pub header_encoding : DataPageHeader → ℤ
header_encoding (V1 count encoding levels) = encoding
header_encoding (V2 count encoding definition repetition) = encoding

-- Levels of the first form may have an encoding of their own, of which one is read.
abbrev pub has_readable_levels : Repetition → DataPageHeader → Bool
has_readable_levels Optional (V1 count encoding (pos levels)) = levels == 3
has_readable_levels Optional (V1 count encoding (negsuc levels)) = false
has_readable_levels Optional (V2 count encoding definition repetition) = true
has_readable_levels Required header = true
has_readable_levels Repeated header = true

-- the encoding of a page, if it and that of its levels are read for this type
abbrev pub page_encoding : DataContent → Option Encoding
page_encoding page = do
  encoding ← encoding_of (header_encoding page.header)
  given (goes_with encoding page.type.physical_type && has_readable_levels page.type.repetition page.header) encoding

-- the encodings of a dictionary page that are read: plain, by one of two numbers
abbrev pub has_plain_entries : ℤ → Bool
has_plain_entries (pos encoding) = (encoding == 0) || (encoding == 2)
has_plain_entries (negsuc encoding) = false

-- the entries of a dictionary page
abbrev pub dictionary_entries : PhysicalType → DictContent → Option (List Stored)
dictionary_entries type page = plain_values type page.body page.num_values

-- which places of a page have a value, and the bytes of the values
unfoldable pub places_and_values : DataContent → Option (List Bool × List ℕ)
places_and_values page = do
  body ← body_parts page.type.repetition page.header page.body
  places ← presence page.type.repetition body.definition (header_values page.header)
  Some (places, body.values)

-- the keys of a page of keys
unfoldable pub page_keys : DataContent → Option (List ℕ)
page_keys page = do
  keys_page ← given (is_keys (encoding_of (header_encoding page.header))) page
  parts ← places_and_values keys_page
  unless_none (present_count parts.0) (dictionary_keys parts.1 (present_count parts.0))

-- the key of each place
unfoldable pub placed_keys : DataContent → Option (List (Option ℕ))
placed_keys page = do
  parts ← places_and_values page
  keys ← page_keys page
  placed parts.0 keys

-- The list has as many places as the header says.
unfoldable pub spelled : DataContent → Option (List Stored) → Option (List (Option Stored))
spelled page dictionary = do
  encoding ← page_encoding page
  parts ← places_and_values page
  values ← unless_none (present_count parts.0) (values_in encoding page.type.physical_type dictionary parts.1 (present_count parts.0))
  placed parts.0 values

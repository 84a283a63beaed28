-- Worked examples, by evaluation.
use Rattle.std.proofs.Common.{◌≡◌, ℕ, List, [], ◌∷◌, Option, Some, None, refl}
use Rattle.std.specs.Prelude.{ℤ, pos, negsuc, true, false}
use Rattle.columns_core.specs.Causes.{NotYetImplemented, ExternalFormat, OutOfSpec, Overflow}
use Rattle.parquet_base.specs.Bytes.{little_endian}
use Rattle.parquet_base.specs.Intervals.{interval}
use Rattle.parquet_base.specs.Varint.{varint, varint_within}
use Rattle.parquet_encoding.specs.Bits.{packed}
use Rattle.parquet_encoding.specs.Hybrid.{hybrid, runs, first_run}
use Rattle.parquet_encoding.specs.Plain.{plain_fixed, first_string}
use Rattle.parquet_meta.specs.declared.metadata.PageLocation.{PageLocation}
use Rattle.parquet_meta.specs.declared.metadata.PhysicalType.{PhysicalType}
use Rattle.parquet_meta.specs.declared.metadata.PhysicalType.TheVariants.{Int32, ByteArray}
use Rattle.parquet_meta.specs.declared.metadata.Repetition.{Repetition}
use Rattle.parquet_meta.specs.declared.metadata.Repetition.TheVariants.{Required, Optional}
use Rattle.parquet_meta.specs.declared.page_header.DataPageHeader.TheVariants.{V1}
use Rattle.parquet_page.specs.Content.{DataContent}
use Rattle.parquet_page.specs.Levels.{prefixed_parts, presence}
use Rattle.parquet_page.specs.Locations.{has_shape, page_intervals}
use Rattle.parquet_page.specs.Opened.{page_causes}
use Rattle.parquet_page.specs.Selected.{selected_of}
use Rattle.parquet_page.specs.Spelling.{page_keys, places_and_values, placed_keys, spelled}
use Rattle.parquet_page.specs.Stored.{Stored, Number, Octets}
use Rattle.parquet_page.specs.Values.{dictionary_keys, plain_values}

-- a page of the first form, with levels of the encoding that is read
abbrev of : PhysicalType → Repetition → ℕ → ℕ → List ℕ → DataContent
of type repetition count encoding body = record {
  header = V1 count (pos encoding) (pos 3);
  body = body;
  type = record { physical_type = type; logical_type = None; repetition = repetition };
  selected = None;
}

-- ---- stored values

abbrev four_places : DataContent
four_places = of Int32 Optional 4 0 (2 ∷ 0 ∷ 0 ∷ 0 ∷ 0x03 ∷ 0x0D ∷ 7 ∷ 0 ∷ 0 ∷ 0 ∷ 8 ∷ 0 ∷ 0 ∷ 0 ∷ 9 ∷ 0 ∷ 0 ∷ 0 ∷ [])

abbrev seven_eight_nine : List (Option Stored)
seven_eight_nine = Some (Number (pos 7)) ∷ None ∷ Some (Number (pos 8)) ∷ Some (Number (pos 9)) ∷ []

three_of_four : spelled four_places None ≡ Some seven_eight_nine
unfolding spelled places_and_values prefixed_parts first_string presence plain_values plain_fixed hybrid runs first_run varint varint_within packed little_endian
three_of_four = refl

second_and_third : selected_of (Some (interval 1 2 ∷ [])) seven_eight_nine ≡ None ∷ Some (Number (pos 8)) ∷ []
second_and_third = refl

-- ---- keys

two_keys : placed_keys (of ByteArray Required 2 8 (0x02 ∷ 0x04 ∷ 0x02 ∷ [])) ≡ Some (Some 2 ∷ Some 2 ∷ [])
unfolding placed_keys page_keys places_and_values prefixed_parts presence dictionary_keys hybrid runs first_run varint varint_within packed little_endian
two_keys = refl

abbrev letters : Option (List Stored)
letters = Some (Octets (0x78 ∷ []) ∷ Octets (0x79 ∷ []) ∷ Octets (0x7A ∷ []) ∷ [])

third_entry_twice : spelled (of ByteArray Required 2 8 (0x02 ∷ 0x04 ∷ 0x02 ∷ [])) letters ≡ Some (Some (Octets (0x7A ∷ [])) ∷ Some (Octets (0x7A ∷ [])) ∷ [])
unfolding spelled places_and_values prefixed_parts presence dictionary_keys hybrid runs first_run varint varint_within packed little_endian
third_entry_twice = refl

-- ---- what is wrong with a page

key_past_the_entries : page_causes None true (Some 3) (of ByteArray Required 1 8 (0x02 ∷ 0x02 ∷ 0x03 ∷ [])) ≡ OutOfSpec ∷ []
unfolding page_causes page_keys places_and_values prefixed_parts presence dictionary_keys hybrid runs first_run varint varint_within packed little_endian
key_past_the_entries = refl

key_past_its_type : page_causes (Some 256) true None (of ByteArray Required 1 8 (0x09 ∷ 0x02 ∷ 0x00 ∷ 0x01 ∷ [])) ≡ Overflow ∷ []
unfolding page_causes page_keys places_and_values prefixed_parts presence dictionary_keys hybrid runs first_run varint varint_within packed little_endian
key_past_its_type = refl

no_keys : page_causes None true (Some 3) (of ByteArray Required 1 8 []) ≡ ExternalFormat ∷ []
unfolding page_causes page_keys places_and_values prefixed_parts presence dictionary_keys
no_keys = refl

no_dictionary : page_causes None false None (of ByteArray Required 1 8 []) ≡ NotYetImplemented ∷ []
unfolding page_causes
no_dictionary = refl

plain_page_of_a_dictionary_column : page_causes (Some 256) true (Some 3) (of Int32 Required 1 0 (7 ∷ 0 ∷ 0 ∷ 0 ∷ [])) ≡ NotYetImplemented ∷ []
unfolding page_causes
plain_page_of_a_dictionary_column = refl

-- ---- rows of pages

abbrev at_row : ℤ → PageLocation
at_row row = record { offset = pos 4; compressed_page_size = pos 1; first_row_index = row }

pages_of_thirty : page_intervals (at_row (pos 0) ∷ at_row (pos 10) ∷ at_row (pos 25) ∷ []) 30 ≡ Some (interval 0 10 ∷ interval 10 15 ∷ interval 25 5 ∷ [])
unfolding page_intervals
pages_of_thirty = refl

past_the_end : page_intervals (at_row (pos 31) ∷ []) 30 ≡ None
unfolding page_intervals
past_the_end = refl

falling : page_intervals (at_row (pos 5) ∷ at_row (pos 4) ∷ []) 30 ≡ None
unfolding page_intervals
falling = refl

negative : page_intervals (at_row (negsuc 0) ∷ []) 30 ≡ None
unfolding page_intervals
negative = refl

not_from_row_0 : has_shape (at_row (pos 1) ∷ []) 30 ≡ false
unfolding page_intervals
not_from_row_0 = refl

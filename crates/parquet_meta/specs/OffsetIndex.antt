-- An offset index: where each page of a chunk stands. The ids are those of the format.
use Rattle.std.specs.Prelude.{ℕ, List, Option, Some, None, if◌then◌else◌}
use Rattle.parquet_base.specs.Reading.{◌>>=◌}
use Rattle.parquet_meta.specs.Front.{value_in}
use Rattle.parquet_meta.specs.Meaning.{Rule, Field, i32, i64, struct_of, list_of, is_id, setting, passing, made}
use Rattle.parquet_meta.specs.declared.metadata.PageLocation.{PageLocation}
use Rattle.parquet_meta.specs.declared.offset_index.LocationFields.{LocationFields}
use Rattle.parquet_meta.specs.declared.offset_index.OffsetIndexFields.{OffsetIndexFields}

-- PageLocation: 1 offset, 2 compressed_page_size, 3 first_row_index, all required
unfoldable pub location_field : Field LocationFields
location_field s id =
    if is_id id 1 then setting (λ n. record s { offset = Some n }) i64
    else (if is_id id 2 then setting (λ n. record s { compressed_page_size = Some n }) i32
    else (if is_id id 3 then setting (λ n. record s { first_row_index = Some n }) i64
    else passing s))

unfoldable pub location_of : LocationFields → Option PageLocation
location_of s = do
  o ← s.offset
  n ← s.compressed_page_size
  r ← s.first_row_index
  Some (record { offset = o; compressed_page_size = n; first_row_index = r })

unfoldable pub location : Rule PageLocation
location = made (struct_of location_field (record { offset = None; compressed_page_size = None; first_row_index = None })) location_of

-- OffsetIndex: 1 page_locations, required
unfoldable pub offset_index_field : Field OffsetIndexFields
offset_index_field s id = if is_id id 1 then setting (λ ls. record s { page_locations = Some ls }) (list_of location) else passing s

unfoldable pub offset_index_of : OffsetIndexFields → Option (List PageLocation)
offset_index_of s = s.page_locations

unfoldable pub offset_index : Rule (List PageLocation)
offset_index = made (struct_of offset_index_field (record { page_locations = None })) offset_index_of

-- the locations that the bytes begin with; bytes after them are passed over
unfoldable pub locations_in : List ℕ → Option (List PageLocation)
locations_in = value_in offset_index

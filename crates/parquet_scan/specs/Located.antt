-- Parts of a chunk that are read by the locations of its pages.
use Rattle.std.specs.Prelude.{ℕ, ◌-◌, List, Option, None, if◌then◌else◌, is_some}
use Rattle.columns_core.specs.Causes.{Cause, ExternalFormat, unless}
use Rattle.parquet_meta.specs.declared.metadata.Place.{Place}
use Rattle.parquet_meta.specs.Places.{lies_in, part_at}
use Rattle.parquet_page.specs.Lent.{first_start}
use Rattle.parquet_page.specs.declared.page.FilteredPage.{FilteredPage}

-- the bytes of a part that lies in another
abbrev pub part_in : List ℕ → Place → Place → Option (List ℕ)
part_in bytes outer part = if lies_in outer part then part_at bytes part else None

abbrev pub part_causes : List ℕ → Place → Place → List Cause
part_causes bytes outer part = unless (is_some (part_in bytes outer part)) ExternalFormat

-- the part of a page with its selected rows
abbrev pub entry_place : FilteredPage → Place
entry_place entry = record { offset = entry.start; length = entry.length }

abbrev pub entry_part : List ℕ → Place → FilteredPage → Option (List ℕ)
entry_part bytes chunk entry = part_in bytes chunk (entry_place entry)

abbrev pub entry_causes : List ℕ → Place → FilteredPage → List Cause
entry_causes bytes chunk entry = part_causes bytes chunk (entry_place entry)

-- the part of a chunk before the first page
abbrev pub place_before : Place → List FilteredPage → Place
place_before chunk entries = record { offset = chunk.offset; length = first_start entries - chunk.offset }

-- What a file says of itself, as text, and what may be wrong with the parts that it is told from.
use Rattle.std.specs.Prelude.{◌≡◌, ◌↔◌, ℕ, ◌+◌, List, [], ◌∷◌, ◌++◌, flat_map, sum_by, if◌then◌else◌, Option, Some, None, IsSome, option_map}
use Rattle.std.specs.List.{enumerate_from}
use Rattle.std.specs.Option.{option_map_or}
use Rattle.columns_core.specs.Causes.{Cause, ExternalFormat, is_empty}
use Rattle.parquet_meta.specs.File.{footer, most_taken}
use Rattle.parquet_meta.specs.declared.metadata.FileMetaData.{FileMetaData}
use Rattle.inspect_program.specs.Columns.{columns_text}
use Rattle.inspect_program.specs.Groups.{group_causes_told, group_indexes_length, group_text}
use Rattle.inspect_program.specs.Guess.{are_single}

-- a line for each column, and then the lines of each group
abbrev pub told_metadata : List ℕ → FileMetaData → List ℕ
told_metadata bytes metadata =
    columns_text metadata.columns
    ++ flat_map (group_text (are_single metadata.columns) bytes) (enumerate_from 0 metadata.row_groups)

abbrev pub told_groups_causes : List ℕ → FileMetaData → List Cause
told_groups_causes bytes metadata = flat_map (group_causes_told (are_single metadata.columns) bytes) metadata.row_groups

-- The footer has to be spelled, and all that is told of each group to be without a cause.
abbrev pub inspection_causes : List ℕ → List Cause
inspection_causes bytes = option_map_or (told_groups_causes bytes) (footer bytes) (ExternalFormat ∷ [])

-- the text of bytes without a cause
abbrev pub inspection : List ℕ → Option (List ℕ)
inspection bytes =
    if is_empty (inspection_causes bytes) then option_map (told_metadata bytes) (footer bytes) else None

-- how many bytes the indexes have that are told of
abbrev pub told_indexes_length : FileMetaData → ℕ
told_indexes_length metadata = sum_by (group_indexes_length (are_single metadata.columns)) metadata.row_groups

-- the footer, and these indexes
abbrev pub most_inspected : List ℕ → ℕ
most_inspected bytes = most_taken (Some bytes) + option_map_or told_indexes_length (footer bytes) 0

-- Bytes have a text exactly where they have no cause.
abbrev pub SoundBytesAreTold : Type 0
SoundBytesAreTold = (bytes : List ℕ) → IsSome (inspection bytes) ↔ (inspection_causes bytes ≡ [])

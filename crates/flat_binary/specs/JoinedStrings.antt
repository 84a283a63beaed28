-- The strings of a page that are joined behind their lengths, and where they stand.
use Rattle.std.specs.Prelude.{ℕ, Bool, true, false, List, [], is_some, ◌&&◌, Option, Some, IfSome, IsSome}
use Rattle.std.specs.Option.{option_map_or}
use Rattle.columns_core.specs.Causes.{Cause, ExternalFormat, NotYetImplemented, and_then, unless}
use Rattle.parquet_base.specs.Reading.{◌>>=◌}
use Rattle.parquet_encoding.specs.DeltaLength.{delta_length_places}
use Rattle.parquet_encoding.specs.JoinedLeft.{joined_left, joined_values}
use Rattle.parquet_page.specs.Content.{DataContent}
use Rattle.parquet_page.specs.Levels.{present_count}
use Rattle.parquet_page.specs.Spelling.{header_encoding, places_and_values}
use Rattle.parquet_page.specs.ValidityLeft.{levels_causes}
use Rattle.parquet_page.specs.Values.{DeltaLengths, Encoding, encoding_of, goes_with, unless_none}
use Rattle.flat_binary.specs.declared.delta.Delta.{Delta}

-- whether a page has such strings
abbrev pub are_lengths : Option Encoding → Bool
are_lengths (Some DeltaLengths) = true
are_lengths _ = false

abbrev pub is_joined : DataContent → Bool
is_joined page = are_lengths (encoding_of (header_encoding page.header)) && goes_with DeltaLengths page.type.physical_type

-- Where its stored strings stand among the bytes of its values, if these are spelled. Where none is stored, nothing is looked at.
unfoldable pub string_places : DataContent → Option (List (ℕ × ℕ))
string_places page = do
  parts ← places_and_values page
  unless_none (present_count parts.0) (delta_length_places parts.1 (present_count parts.0))

-- what is wrong with a page that is to have such strings
abbrev pub joined_causes : DataContent → List Cause
joined_causes page =
    and_then (unless (is_joined page) NotYetImplemented) (and_then (levels_causes page) (unless (is_some (string_places page)) ExternalFormat))

-- the place is one among the strings in these bytes
abbrev pub IsAmongStrings : List ℕ → Delta → Type 0
IsAmongStrings bytes delta = IfSome delta.strings (λ place. IsSome (joined_left place bytes))

-- where those stand that are left
abbrev pub strings_behind : List ℕ → Delta → List (ℕ × ℕ)
strings_behind bytes delta = option_map_or (λ place. joined_values place bytes) delta.strings []

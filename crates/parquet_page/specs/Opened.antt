-- What is wrong with a page that is opened.
use Rattle.std.specs.Prelude.{ℕ, is_some, ◌&&◌, ◌||◌, not, Bool, false, List, [], ◌∷◌, ◌++◌, Option, None}
use Rattle.std.specs.Option.{option_map_or}
use Rattle.columns_core.specs.Causes.{Cause, NotYetImplemented, ExternalFormat, OutOfSpec, Overflow, unless}
use Rattle.parquet_base.specs.Reading.{◌>>=◌, given}
use Rattle.parquet_page.specs.Content.{DataContent}
use Rattle.parquet_page.specs.Spelling.{has_readable_levels, header_encoding, page_keys, spelled}
use Rattle.parquet_page.specs.Values.{Encoding, Keys, encoding_of, goes_with, has_key_past}

-- Keys are read where the column has a dictionary; a column that is read as a dictionary has pages of keys alone.
abbrev pub goes_on_dictionary : Bool → Bool → Encoding → Bool
goes_on_dictionary as_keys has_dictionary Keys = has_dictionary
goes_on_dictionary as_keys has_dictionary _ = not as_keys

-- the encoding of a page, where it is carried; a column that is read as a dictionary takes keys of any type
abbrev pub carried_encoding : Bool → Bool → DataContent → Option Encoding
carried_encoding as_keys has_dictionary page = do
  encoding ← encoding_of (header_encoding page.header)
  given ((as_keys || goes_with encoding page.type.physical_type) && goes_on_dictionary as_keys has_dictionary encoding && has_readable_levels page.type.repetition page.header) encoding

-- some key is past so many, if their number is told
abbrev pub passes : Option ℕ → List ℕ → Bool
passes count keys = option_map_or (λ n. has_key_past n keys) count false

-- what is wrong with keys: one is past the entries, or past the last key of their type
abbrev pub key_causes : Option ℕ → Option ℕ → List ℕ → List Cause
key_causes most entries keys = unless (not (passes entries keys)) OutOfSpec ++ unless (not (passes most keys)) Overflow

-- what is wrong with the levels and values of a page in an encoding that is carried
abbrev pub spelling_causes : Option ℕ → Option ℕ → DataContent → Encoding → List Cause
spelling_causes most entries page Keys = option_map_or (key_causes most entries) (page_keys page) (ExternalFormat ∷ [])
spelling_causes most entries page _ = unless (is_some (spelled page None)) ExternalFormat

-- What is wrong with a page. A column that is read as a dictionary has keys of a type, so many at most. The number of entries is
-- told where the dictionary is defined and its entries are spelled.
unfoldable pub page_causes : Option ℕ → Bool → Option ℕ → DataContent → List Cause
page_causes most has_dictionary entries page =
    option_map_or (spelling_causes most entries page) (carried_encoding (is_some most) has_dictionary page) (NotYetImplemented ∷ [])

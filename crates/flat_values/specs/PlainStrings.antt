-- States of pages of byte strings that stand each behind its length.
use Rattle.std.specs.Prelude.{◌≡◌, ℕ, Bool, true, false, List, map, Option, None, Some, IsSome}
use Rattle.columns_core.specs.Causes.{Cause, NotYetImplemented, and_then, unless}
use Rattle.parquet_encoding.specs.Places.{bytes_in}
use Rattle.parquet_encoding.specs.PlainLeft.{strings, strings_left}
use Rattle.parquet_encoding.specs.declared.plain_bytes.PlainBytes.{PlainBytes}
use Rattle.parquet_page.specs.Content.{DataContent}
use Rattle.parquet_page.specs.Opened.{page_causes}
use Rattle.parquet_page.specs.Stored.{Stored, Octets}
use Rattle.parquet_page.specs.Values.{Encoding, Plain, Keys, DeltaPacked, DeltaLengths}
use Rattle.flat_values.specs.FlatLeft.{read_encoding}
use Rattle.page_decoding.specs.Outcome.{Outcome}
use Rattle.flat_values.specs.Conversion.{Conversion}
use Rattle.flat_values.specs.FlatState.{IsFlatState, state_outcomes}
use Rattle.flat_values.specs.Outcomes.{selected_outcomes, stored_outcome}
use Rattle.flat_values.specs.declared.flat_decoder.FlatState.{FlatState}

-- the strings that a place among them has still to give, on the bytes that it is handed
abbrev pub plain_strings : List ℕ → PlainBytes → List Stored
plain_strings bytes place = map (λ at. Octets (bytes_in bytes at)) (strings place bytes)

-- what they give by a conversion
abbrev pub string_outcomes : Conversion → List ℕ → PlainBytes → List Outcome
string_outcomes rule bytes place = map (stored_outcome rule) (plain_strings bytes place)

-- the place is one among the strings in these bytes
abbrev pub IsOverStrings : List ℕ → PlainBytes → Type 0
IsOverStrings bytes place = IsSome (strings_left place bytes)

-- Whatever its strings become, a state of plain byte strings gives what the selected places of its page give.
pub record IsStringState (page : DataContent) (state : FlatState PlainBytes) : Type 0 where
  pub is_state : (rule : Conversion) → IsFlatState IsOverStrings (string_outcomes rule) page state
  pub rows : (rule : Conversion) → state_outcomes (string_outcomes rule) page state ≡ selected_outcomes rule None page

-- ---- refused pages

abbrev pub is_plain_encoding : Option Encoding → Bool
is_plain_encoding None = false
is_plain_encoding (Some Plain) = true
is_plain_encoding (Some Keys) = false
is_plain_encoding (Some DeltaPacked) = false
is_plain_encoding (Some DeltaLengths) = false

-- what is wrong with a page that is to have plain byte strings
abbrev pub string_causes : DataContent → List Cause
string_causes page = and_then (unless (is_plain_encoding (read_encoding false page)) NotYetImplemented) (page_causes None false None page)

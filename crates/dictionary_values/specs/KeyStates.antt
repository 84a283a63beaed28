-- States of pages of keys of any stored type, and dictionaries of which only the number of entries is read.
use Rattle.std.specs.Prelude.{◌≡◌, ℕ, is_some, true, List, [], ◌∷◌, length, replicate, Option, Some, Result, Ok}
use Rattle.std.specs.Option.{option_map_or}
use Rattle.columns_core.specs.Array.{cells}
use Rattle.columns_core.specs.Causes.{Cause, ExternalFormat, NotYetImplemented, unless}
use Rattle.columns_core.specs.declared.array.Array.{Array}
use Rattle.columns_core.specs.declared.cell.Cell.{Cell, Null}
use Rattle.parquet_page.specs.Content.{DataContent, DictContent}
use Rattle.parquet_page.specs.Opened.{carried_encoding, page_causes}
use Rattle.parquet_page.specs.Spelling.{page_keys}
use Rattle.flat_values.specs.FlatState.{IsFlatState, state_outcomes}
use Rattle.flat_values.specs.KeysLeft.{IsAmongKeys}
use Rattle.flat_values.specs.declared.flat_decoder.FlatState.{FlatState}
use Rattle.flat_values.specs.declared.keys.KeyPlace.{KeyPlace}
use Rattle.dictionary_values.specs.Keys.{selected_keys}
use Rattle.dictionary_values.specs.KeysGiven.{keys_given}

-- what is wrong with a page that is read as one of keys, which are compared with no entries
abbrev pub uncompared_causes : DataContent → List Cause
uncompared_causes page = option_map_or (λ _. unless (is_some (page_keys page)) ExternalFormat) (carried_encoding true true page) (NotYetImplemented ∷ [])

-- Over each dictionary that has an entry for each key, and for each type of keys that has them all, a state of keys gives the keys of the selected
-- places of its page.
pub record IsStateOfKeys (page : DataContent) (state : FlatState KeyPlace) : Type 0 where
  pub is_state : (most : ℕ) (dict : Option Array) → IsFlatState IsAmongKeys (keys_given most dict) page state
  pub rows : (most : ℕ) (entries : Array) → page_causes (Some most) true (Some (length (cells entries))) page ≡ [] → state_outcomes (keys_given most (Some entries)) page state ≡ selected_keys most (Some (cells entries)) page

-- the entries of a dictionary page of which only their number is read
abbrev pub counted_entries : DictContent → Result (List Cell) (List Cause)
counted_entries page = Ok (replicate page.num_values Null)

-- States of pages whose values are stored in one encoding: plain, or keys.
use Rattle.std.specs.Prelude.{◌≡◌, ℕ, true, [], List, length, map, Some, None, IsSome}
use Rattle.columns_core.specs.declared.cell.Cell.{Cell}
use Rattle.parquet_meta.specs.declared.metadata.PhysicalType.{PhysicalType}
use Rattle.parquet_page.specs.Content.{DataContent}
use Rattle.parquet_page.specs.Opened.{page_causes}
use Rattle.parquet_page.specs.Values.{plain_values}
use Rattle.page_decoding.specs.Outcome.{Outcome}
use Rattle.flat_values.specs.Conversion.{Conversion}
use Rattle.flat_values.specs.FlatState.{IsFlatState, state_outcomes}
use Rattle.flat_values.specs.KeysLeft.{IsAmongKeys, keys}
use Rattle.flat_values.specs.NumbersLeft.{plain_left}
use Rattle.flat_values.specs.Outcomes.{entry_outcome, selected_outcomes, stored_outcome}
use Rattle.flat_values.specs.declared.flat_decoder.FlatState.{FlatState}
use Rattle.flat_values.specs.declared.keys.KeyPlace.{KeyPlace}
use Rattle.flat_values.specs.declared.numbers.PlainPlace.{PlainPlace}

-- what plain values give by a conversion
abbrev pub plain_outcomes : Conversion → PhysicalType → List ℕ → PlainPlace → List Outcome
plain_outcomes rule type bytes place = map (stored_outcome rule) (plain_left type bytes place)

-- what keys give over the entries of a dictionary
abbrev pub key_outcomes : List Cell → List ℕ → KeyPlace → List Outcome
key_outcomes entries bytes place = map (entry_outcome (Some entries)) (keys place bytes)

-- Whatever its values become, a state of plain values gives what the selected places of its page give.
pub record IsPlainState (type : PhysicalType) (page : DataContent) (state : FlatState PlainPlace) : Type 0 where
  pub is_state : (rule : Conversion) → IsFlatState (λ bytes place. IsSome (plain_values type bytes place.count)) (plain_outcomes rule type) page state
  pub rows : (rule : Conversion) → state_outcomes (plain_outcomes rule type) page state ≡ selected_outcomes rule None page

-- likewise a state of keys, over each dictionary that has an entry for each key
pub record IsKeyState (page : DataContent) (state : FlatState KeyPlace) : Type 0 where
  pub is_state : (entries : List Cell) → IsFlatState IsAmongKeys (key_outcomes entries) page state
  pub rows : (rule : Conversion) (entries : List Cell) → page_causes None true (Some (length entries)) page ≡ [] → state_outcomes (key_outcomes entries) page state ≡ selected_outcomes rule (Some entries) page

-- What the words of a command line are read into.
use Rattle.std.specs.Prelude.{◌≡◌, ◌+◌, ℕ, Bool, take, drop, if◌then◌else◌, codes, List, [], ◌++◌, Option, Some, None, option_map, option_and_then, unwrap_or}
use Rattle.columns_core.specs.declared.data_type.Field.{Field}
use Rattle.parquet_scan.specs.declared.bound.Bound.{Bound}
use Rattle.pq_common.specs.Spelled.{number}
use Rattle.clap.specs.Matches.{found_of, first_value, matched_of, one_text, raw_values}
use Rattle.clap.specs.declared.parser.matches.ArgMatches.{ArgMatches}
use Rattle.scan_program.specs.declared.command.Asked.{Asked}
use Rattle.scan_program.specs.declared.items.End.{End}
use Rattle.scan_program.specs.declared.items.Item.{Item}
use Rattle.scan_program.specs.declared.items.Item.TheVariants as read
use Rattle.scan_program.specs.Words as words
use Rattle.scan_program.specs.Words.{BoundEnd, Command, all_bounds, all_items, command_on, ends, fields, spelled_command}

abbrev pub command_of : Asked → Command
command_of asked = record {
  request = record { fields = asked.schema.fields; bounds = asked.bounds; chunk_size = asked.chunk_size; limit = asked.limit };
  summary = asked.summary;
}

-- ---- items

abbrev pub as_written : End → BoundEnd
as_written end = record { name = end.name.now; is_low = end.is_low; value = end.value.now }

abbrev pub as_item : Item → words.SpelledItem
as_item (read.Column field) = words.Column field
as_item (read.End end) = words.End (as_written end)

-- the end that a sign at a place makes of a text
abbrev pub split_at : ℕ → Bool → List ℕ → BoundEnd
split_at place is_low text = record { name = take place text; is_low = is_low; value = drop (place + 2) text }

-- fields and ends in front of those of the texts that are left
abbrev pub items_behind : List Field → List BoundEnd → List (List ℕ) → Option (List Field × List BoundEnd)
items_behind front more texts = option_map (λ items. (front ++ fields items, more ++ ends items)) (all_items texts)

-- the fields and the ends among items
abbrev pub split_items : List (List ℕ) → Option (List Field × List BoundEnd)
split_items texts = option_map (λ items. (fields items, ends items)) (all_items texts)

-- bounds in front of those of the fields that are left, behind the fields that were seen
abbrev pub bounds_behind : List BoundEnd → List Bound → List Field → List Field → Option (List Bound)
bounds_behind given bounds seen left = option_map (λ rest. bounds ++ rest) (all_bounds given seen left)

-- ---- all of it

-- the number that a text spells, where there is a text
abbrev pub number_in : Option (List ℕ) → Option (Option ℕ)
number_in None = Some None
number_in (Some text) = option_map Some (number text)

-- the command that items and options ask for, as they are written
abbrev pub written_command : List (List ℕ) → Option (List ℕ) → Option (List ℕ) → Bool → Option Command
written_command items chunk_size limit summary =
    option_and_then (λ (parts : List Field × List BoundEnd). option_and_then (λ n. option_and_then (λ m.
    command_on parts.0 parts.1 n m summary) (number_in limit)) (number_in chunk_size)) (split_items items)

-- what was found tells the command that the words spell
pub record IsSaid (words : List (List ℕ)) (found : ArgMatches) : Type 0 where
  pub summary : Bool
  pub flag : one_text (found_of found) (codes "summary") ≡ Some (if summary then codes "true" else codes "false")
  pub command : spelled_command words
      ≡ written_command (unwrap_or (option_map raw_values (matched_of (found_of found) (codes "ITEM"))) [])
      (first_value (found_of found) (codes "chunk")) (first_value (found_of found) (codes "limit")) summary

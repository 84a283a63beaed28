-- What builders make: the type and the cells of an array, or why there is none.
use Rattle.std.specs.Prelude.{◌≡◌, ℕ, ◌-◌, ◌^◌, ◌==◌, ◌&&◌, is_some, nat_le, nat_lt, Bool, true, false, List, [], ◌∷◌, ◌++◌, length, map, flat_map, Option, Some, None}
use Rattle.std.specs.Coded.{coded_list}
use Rattle.std.specs.List.{list_all, range_with_len}
use Rattle.std.specs.Option.{option_map_or}
use Rattle.columns_core.specs.Array.{cells, data_type_of}
use Rattle.columns_core.specs.Causes.{Overflow}
use Rattle.columns_core.specs.DictionaryType.{entry_type, key_type}
use Rattle.columns_core.specs.Equal.{is_same}
use Rattle.columns_core.specs.Nested.{map_type, field_types, first_length, rows}
use Rattle.columns_core.specs.Shown.{Shown}
use Rattle.columns_core.specs.contracts.data_type.DataType.{the_row as data_type_row}
use Rattle.columns_core.specs.declared.array.Array.{Array}
use Rattle.columns_core.specs.declared.array.Array.TheVariants as array
use Rattle.columns_core.specs.declared.cell.Cell.{Cell, Cells}
use Rattle.columns_core.specs.declared.data_type.DataType.{DataType}
use Rattle.columns_core.specs.declared.data_type.IntegerType.{IntegerType}
use Rattle.columns_core.specs.declared.data_type.IntegerType.TheVariants as key
use Rattle.parquet_statistics.specs.BuiltTypes.{is_large_list, is_same_type, item_type}
use Rattle.parquet_statistics.specs.Refusal.{Refusal, Argument, Caused, demand}
use Rattle.parquet_statistics.specs.declared.dyn_mutable.DynMutable.{DynMutable, fold-DynMutable, out-DynMutable}
use Rattle.parquet_statistics.specs.declared.dyn_mutable.DynMutable.TheOpen.{DynMutable-F, DynMutableDictionary-F, DynMutableListArray-F, DynMutableMapArray-F, DynMutableStructArray-F}
use Rattle.parquet_statistics.specs.declared.dyn_mutable.DynMutableDictionary.{DynMutableDictionary}
use Rattle.parquet_statistics.specs.declared.dyn_mutable.DynMutableListArray.{DynMutableListArray}
use Rattle.parquet_statistics.specs.declared.dyn_mutable.DynMutableMapArray.{DynMutableMapArray}
use Rattle.parquet_statistics.specs.declared.dyn_mutable.DynMutableStructArray.{DynMutableStructArray}

-- An array of the type with the cells, where nothing is refused.
pub record Made : Type 0 where
  pub data_type : DataType
  pub cells : List Cell
  pub refusals : List Refusal

abbrev pub made_cells : Made → List Cell
made_cells all = all.cells

abbrev pub made_type : Made → DataType
made_type all = all.data_type

abbrev pub made_refusals : Made → List Refusal
made_refusals all = all.refusals

-- what a contract sees of the array
abbrev pub made_shown : Made → Shown
made_shown all = (all.data_type, all.cells)

-- nothing is refused
abbrev pub freely_made : DataType → List Cell → Made
freely_made data_type cells = record { data_type = data_type; cells = cells; refusals = [] }

-- an array that is made already
abbrev pub made_array : Array → Made
made_array own = freely_made (data_type_of own) (cells own)

-- a type is the one that is named
abbrev pub is_type_named : Option DataType → DataType → Bool
is_type_named named data_type = option_map_or (λ own. is_same_type own data_type) named false

-- types are those that are named, in turn
abbrev pub are_named : Option (List DataType) → List DataType → Bool
are_named named types = option_map_or (λ own. is_same (coded_list data_type_row.coded) own types) named false

-- ---- dictionaries

-- the greatest number of a type of keys
abbrev pub most_keys : IntegerType → ℕ
most_keys key.Int8 = 2 ^ 7 - 1
most_keys key.Int16 = 2 ^ 15 - 1
most_keys key.Int32 = 2 ^ 31 - 1
most_keys key.Int64 = 2 ^ 63 - 1
most_keys key.UInt8 = 2 ^ 8 - 1
most_keys key.UInt16 = 2 ^ 16 - 1
most_keys key.UInt32 = 2 ^ 32 - 1
most_keys key.UInt64 = 2 ^ 64 - 1

-- the keys of a dictionary array, as places of entries, and its entries
abbrev pub keyed_in : Array → Option (List (Option ℕ) × List Cell)
keyed_in (array.Dictionary column) = Some (column.keys, column.entries)
keyed_in _ = None

-- the keys 0, 1, 2 and on, one for each cell
abbrev pub keys_of_all : List Cell → List (Option ℕ)
keys_of_all cells = map Some (range_with_len 0 (length cells))

abbrev pub keyed_in_turn : List Cell → List (Option ℕ) × List Cell
keyed_in_turn entries = (keys_of_all entries, entries)

-- an array of a dictionary type has an entry for each cell, and the keys 0, 1, 2 and on
abbrev pub HasKeysInTurn : DataType → Array → Type 0
HasKeysInTurn data_type array = is_some (key_type data_type) ≡ true → keyed_in array ≡ Some (keyed_in_turn (cells array))

-- Keys name all entries, in turn, and their number has to be one of the type of keys.
abbrev pub dictionary_made : DataType → Made → Made
dictionary_made data_type entries = record {
  data_type = data_type;
  cells = entries.cells;
  refusals = entries.refusals
      ++ (demand (is_type_named (entry_type data_type) entries.data_type) Argument
      ++ demand (option_map_or (λ keys. nat_le (length entries.cells) (most_keys keys)) (key_type data_type) true) (Caused Overflow));
}

-- ---- lists and maps

-- the greatest place of 64 bits or of 32
abbrev pub most_places : Bool → ℕ
most_places true = 2 ^ 63 - 1
most_places false = 2 ^ 31 - 1

-- each cell is a list of one
abbrev pub list_made : DataType → Made → Made
list_made data_type items = record {
  data_type = data_type;
  cells = map (λ cell. Cells (cell ∷ [])) items.cells;
  refusals = items.refusals
      ++ (demand (is_type_named (item_type data_type) items.data_type) Argument
      ++ demand (nat_le (length items.cells) (most_places (is_large_list data_type))) (Caused Overflow));
}

-- all cells are one map
abbrev pub map_made : DataType → Made → Made
map_made data_type pairs = record {
  data_type = data_type;
  cells = Cells pairs.cells ∷ [];
  refusals = pairs.refusals
      ++ (demand (is_type_named (map_type data_type) pairs.data_type) Argument
      ++ demand (nat_le (length pairs.cells) (most_places false)) (Caused Overflow));
}

-- ---- structs

-- there is a column, and all are equally long
abbrev pub are_even : List (List Cell) → Bool
are_even columns = nat_lt 0 (length columns) && list_all (λ column. length column == first_length columns) columns

-- the cells of the columns side by side
abbrev pub struct_made : DataType → List Made → Made
struct_made data_type columns = record {
  data_type = data_type;
  cells = map Cells (rows (map made_cells columns));
  refusals = flat_map made_refusals columns
      ++ (demand (are_named (field_types data_type) (map made_type columns)) Argument
      ++ demand (are_even (map made_cells columns)) Argument);
}

-- ---- builders

abbrev pub made_at : DynMutable-F Made Made Made Made Made → Made
made_at (DynMutable-F.Flat builder) = freely_made builder.0 builder.1
made_at (DynMutable-F.Dictionary entries) = entries
made_at (DynMutable-F.List items) = items
made_at (DynMutable-F.Map pairs) = pairs
made_at (DynMutable-F.Struct fields) = fields

abbrev pub made_dictionary : DynMutableDictionary-F Made Made Made Made Made → Made
made_dictionary entries = dictionary_made entries.data_type entries.inner.value

abbrev pub made_list : DynMutableListArray-F Made Made Made Made Made → Made
made_list items = list_made items.data_type items.inner.value

abbrev pub made_map : DynMutableMapArray-F Made Made Made Made Made → Made
made_map pairs = map_made pairs.data_type pairs.inner.value

abbrev pub made_struct : DynMutableStructArray-F Made Made Made Made Made → Made
made_struct fields = struct_made fields.data_type fields.inner.items

-- what a builder makes
unfoldable pub made_by : DynMutable → Made
made_by builder = fold-DynMutable Made Made Made Made Made made_at made_dictionary made_list made_map made_struct builder

abbrev pub is_keyed_at : DynMutable-F DynMutable DynMutableDictionary DynMutableListArray DynMutableMapArray DynMutableStructArray → Bool
is_keyed_at (DynMutable-F.Flat builder) = false
is_keyed_at (DynMutable-F.Dictionary entries) = true
is_keyed_at (DynMutable-F.List items) = false
is_keyed_at (DynMutable-F.Map pairs) = false
is_keyed_at (DynMutable-F.Struct fields) = false

-- a builder of dictionaries
abbrev pub is_keyed : DynMutable → Bool
is_keyed builder = is_keyed_at (out-DynMutable builder)

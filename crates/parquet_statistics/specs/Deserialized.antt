-- The statistics of a field in row groups: four arrays in the shape of its type, or what is wrong with them.
use Rattle.std.specs.Prelude.{◌≡◌, ℕ, ◌==◌, ◌&&◌, pos, Bool, false, List, [], ◌∷◌, ◌++◌, length, map, flat_map, take, drop, zip, unwrap_or, is_some, Option, Some, None, option_map, option_and_then}
use Rattle.std.specs.List.{list_all}
use Rattle.std.specs.Option.{option_map_or}
use Rattle.columns_core.specs.Array.{column_of}
use Rattle.columns_core.specs.Causes.{Cause, NotYetImplemented, and_then, unless}
use Rattle.columns_core.specs.declared.array.Array.{Array}
use Rattle.columns_core.specs.declared.cell.Cell.{Cell, Null, Int}
use Rattle.columns_core.specs.declared.data_type.DataType.{DataType, fold-DataType}
use Rattle.columns_core.specs.declared.data_type.DataType.TheOpen.{Field-F}
use Rattle.columns_core.specs.declared.data_type.Field.{Field}
use Rattle.parquet_base.specs.Reading.{given}
use Rattle.parquet_meta.specs.Indexes.{field_columns}
use Rattle.parquet_meta.specs.declared.metadata.ColumnChunkMetaData.{ColumnChunkMetaData}
use Rattle.parquet_meta.specs.declared.metadata.Ends.{Ends}
use Rattle.parquet_meta.specs.declared.metadata.RowGroupMetaData.{RowGroupMetaData}
use Rattle.flat_builders.specs.Flat.{flatness}
use Rattle.column_ends.specs.Converted.{group_array_causes, group_causes, group_cells}
use Rattle.parquet_statistics.specs.BuiltTypes.{is_flat_shape}
use Rattle.parquet_statistics.specs.CountType.{count_type}
use Rattle.parquet_statistics.specs.LeafTypes.{Inside, Values, Entries, Items, Pairs, Fields, has_column, has_single_dictionaries, leaf_types, inside_at}
use Rattle.parquet_statistics.specs.Made.{HasKeysInTurn, Made}
use Rattle.parquet_statistics.specs.Refusal.{Refusal, Argument, Caused}
use Rattle.parquet_statistics.specs.Shaped.{shaped}
use Rattle.parquet_statistics.specs.declared.statistics.Statistics.{Statistics}

-- ---- which fields have statistics

abbrev pub is_count : ℕ → Option ℕ → Bool
is_count count None = false
is_count count (Some other) = count == other

-- there is one, and all are the same
abbrev pub agreed : List (Option ℕ) → Option ℕ
agreed [] = None
agreed (None ∷ others) = None
agreed (Some count ∷ others) = given (list_all (is_count count) others) count

abbrev pub slots_in : ℕ → Inside (Option ℕ) → Option ℕ
slots_in groups Values = Some groups
slots_in groups (Entries slots) = slots
slots_in groups (Items slots) = slots
slots_in groups (Pairs slots) = option_map (λ _. 1) slots
slots_in groups (Fields fields) = agreed fields

-- How many slots an array of a type has over so many groups: one each, and of a map one in all. A struct has fields, which come to the same number.
unfoldable pub slot_count : ℕ → DataType → Option ℕ
slot_count groups data_type =
    fold-DataType (Option ℕ) (Option ℕ) (λ layer. slots_in groups (inside_at layer)) (λ (field : Field-F (Option ℕ) (Option ℕ)). field.data_type) data_type

-- the arrays of ends, which have the type, and those of counts
abbrev pub has_slots : ℕ → DataType → Bool
has_slots groups data_type = is_some (slot_count groups data_type) && is_some (slot_count groups (count_type data_type))

-- Each group has a column of the field, and each array comes to a number of slots.
abbrev pub fits_groups : Field → List RowGroupMetaData → Bool
fits_groups field groups = list_all (λ group. has_column group.columns field) groups && has_slots (length groups) field.data_type

-- ---- what the groups tell of its columns

-- the columns of the field
abbrev pub columns_in : Field → RowGroupMetaData → List ColumnChunkMetaData
columns_in field group = field_columns field.name group.columns

abbrev pub nothing_told : Ends Cell
nothing_told = record { null_count = None; distinct_count = None; min_value = None; max_value = None }

-- what the statistics of a column tell in a type; of statistics without a cause
abbrev pub told_in : DataType → ColumnChunkMetaData → Ends Cell
told_in data_type column = unwrap_or (group_cells data_type column) nothing_told

-- For each type in turn, what the column at its place tells in each group.
abbrev pub told_columns : List DataType → List (List ColumnChunkMetaData) → List (List (Ends Cell))
told_columns [] groups = []
told_columns (data_type ∷ types) groups = map (told_in data_type) (flat_map (take 1) groups) ∷ told_columns types (map (drop 1) groups)

abbrev pub told_of_field : Field → List RowGroupMetaData → List (List (Ends Cell))
told_of_field field groups = told_columns (leaf_types field.data_type) (map (columns_in field) groups)

-- ---- the four arrays

-- what is not told is null
abbrev pub count_slot : Option ℕ → Cell
count_slot None = Null
count_slot (Some count) = Int (pos count)

abbrev pub nulls_slot : Ends Cell → Cell
nulls_slot ends = count_slot ends.null_count

abbrev pub distinct_slot : Ends Cell → Cell
distinct_slot ends = count_slot ends.distinct_count

abbrev pub low_slot : Ends Cell → Cell
low_slot ends = unwrap_or ends.min_value Null

abbrev pub high_slot : Ends Cell → Cell
high_slot ends = unwrap_or ends.max_value Null

-- with no column left
abbrev pub all_taken : Made × List (List Cell) → Option Made
all_taken (made, []) = Some made
all_taken (made, cells ∷ columns) = None

-- the array of a type over slots of what columns tell
abbrev pub array_of_slots : DataType → (Ends Cell → Cell) → List (List (Ends Cell)) → Option Made
array_of_slots data_type slot columns = option_and_then all_taken (shaped data_type (map (map slot) columns))

-- An array is what was made, nothing was refused, and a dictionary's keys are 0, 1, 2 and on.
abbrev pub IsMade : Option Made → Array → Type 0
IsMade None array = ⊥
IsMade (Some made) array = (column_of array ≡ (made.data_type, made.cells)) × (made.refusals ≡ []) × HasKeysInTurn made.data_type array

-- of this type, of what its columns tell
pub record AreArraysOf (data_type : DataType) (told : List (List (Ends Cell))) (statistics : Statistics) : Type 0 where
  pub nulls : IsMade (array_of_slots (count_type data_type) nulls_slot told) statistics.null_count
  pub distinct : IsMade (array_of_slots (count_type data_type) distinct_slot told) statistics.distinct_count
  pub low : IsMade (array_of_slots data_type low_slot told) statistics.min_value
  pub high : IsMade (array_of_slots data_type high_slot told) statistics.max_value

abbrev pub AreStatistics : Field → List RowGroupMetaData → Statistics → Type 0
AreStatistics field groups statistics = AreArraysOf field.data_type (told_of_field field groups) statistics

-- ---- what is wrong

-- There is a builder of each column's values. A dictionary has one column, as it has one number for a group in an array of counts.
abbrev pub field_type_causes : DataType → List Cause
field_type_causes data_type =
    unless (has_single_dictionaries data_type && list_all (λ leaf. is_flat_shape (flatness leaf)) (leaf_types data_type)) NotYetImplemented

-- In each group the field has as many columns as there are types, and each tells of values of its type.
abbrev pub group_causes_of_field : Field → RowGroupMetaData → List Cause
group_causes_of_field field group =
    and_then (unless (length (leaf_types field.data_type) == length (columns_in field group)) NotYetImplemented)
    (flat_map (λ typed. group_causes typed.0 typed.1) (zip (leaf_types field.data_type) (columns_in field group)))

-- The least values of a column fit one array, and the greatest another.
abbrev pub side_causes_of_columns : List DataType → List (List (Ends Cell)) → List Cause
side_causes_of_columns types told = flat_map (λ typed. group_array_causes typed.0 typed.1) (zip types told)

abbrev pub byte_causes : Field → List RowGroupMetaData → List Cause
byte_causes field groups = side_causes_of_columns (leaf_types field.data_type) (told_of_field field groups)

-- of what is refused, the cause; arguments fit by then
abbrev pub causes_of_refusal : Refusal → List Cause
causes_of_refusal Argument = []
causes_of_refusal (Caused cause) = cause ∷ []

-- Lengths are numbers of the type of keys of a dictionary, and of the type of places of a list or a map.
abbrev pub length_causes : Option Made → List Cause
length_causes made = option_map_or (λ all. flat_map causes_of_refusal all.refusals) made []

abbrev pub count_array_causes : DataType → List (List (Ends Cell)) → List Cause
count_array_causes data_type told = length_causes (array_of_slots data_type nulls_slot told) ++ length_causes (array_of_slots data_type distinct_slot told)

abbrev pub end_array_causes : DataType → List (List (Ends Cell)) → List Cause
end_array_causes data_type told = length_causes (array_of_slots data_type low_slot told) ++ length_causes (array_of_slots data_type high_slot told)

abbrev pub causes_of_arrays : DataType → List (List (Ends Cell)) → List Cause
causes_of_arrays data_type told = count_array_causes (count_type data_type) told ++ end_array_causes data_type told

-- Bytes and lengths are asked where all else is well.
abbrev pub deserialize_causes : Field → List RowGroupMetaData → List Cause
deserialize_causes field groups =
    and_then (field_type_causes field.data_type ++ flat_map (group_causes_of_field field) groups)
    (byte_causes field groups ++ causes_of_arrays field.data_type (told_of_field field groups))

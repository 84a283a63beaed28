-- What the parts of a call that makes statistics go by.
use Rattle.std.specs.Prelude.{◌≡◌, ◌==◌, ℕ, List, [], ◌∷◌, ◌++◌, length, map, flat_map, take, drop, IfSome, Option, Some}
use Rattle.std.specs.List.{AllByRecursion, AllZip}
use Rattle.columns_core.specs.Array.{data_type_of}
use Rattle.columns_core.specs.Causes.{Cause, NotYetImplemented, unless}
use Rattle.columns_core.specs.declared.array.Array.{Array}
use Rattle.columns_core.specs.declared.cell.Cell.{Cell}
use Rattle.columns_core.specs.declared.data_type.DataType.{DataType}
use Rattle.columns_core.specs.declared.data_type.Field.{Field}
use Rattle.columns_core.specs.declared.error.Error.{Error}
use Rattle.parquet_meta.specs.declared.metadata.ColumnChunkMetaData.{ColumnChunkMetaData}
use Rattle.parquet_meta.specs.declared.metadata.Ends.{Ends}
use Rattle.parquet_meta.specs.declared.metadata.RowGroupMetaData.{RowGroupMetaData}
use Rattle.flat_builders.specs.Flat.{Flat, flatness}
use Rattle.column_ends.specs.Converted.{group_array_causes, group_causes}
use Rattle.column_ends.specs.Laws.{IsEndOf}
use Rattle.parquet_statistics.specs.CountType.{count_type}
use Rattle.parquet_statistics.specs.Deserialized.{IsMade, array_of_slots, columns_in, count_slot, distinct_slot, high_slot, low_slot, nulls_slot, slot_count}
use Rattle.parquet_statistics.specs.Made.{Made, made_refusals}
use Rattle.parquet_statistics.specs.Refusal.{IsRefusedBy}
use Rattle.parquet_statistics.specs.Shaped.{shaped, shaped_in_turn}
use Rattle.parquet_statistics.specs.declared.column_arrays.Count.{Count}
use Rattle.parquet_statistics.specs.declared.column_arrays.Count.TheVariants.{Nulls, Distinct}
use Rattle.parquet_statistics.specs.declared.column_arrays.End.{End}
use Rattle.parquet_statistics.specs.declared.column_arrays.End.TheVariants.{Low, High}
use Rattle.parquet_statistics.specs.declared.field_arrays.CountArrays.{CountArrays}
use Rattle.parquet_statistics.specs.declared.field_arrays.EndArrays.{EndArrays}
use Rattle.parquet_statistics.specs.declared.slots.Arrays.{Arrays}
use Rattle.parquet_statistics.specs.declared.slots.Arrays.TheVariants as arrays

-- the type of arrays of the statistics of a field
abbrev pub type_of_arrays : Arrays → DataType → DataType
type_of_arrays arrays.Ends data_type = data_type
type_of_arrays arrays.Counts data_type = count_type data_type

-- ---- arrays in the shape of a type

-- the first arrays have these types
abbrev pub AreOfTypes : List DataType → List Array → Type 0
AreOfTypes types arrays = take (length types) (map data_type_of arrays) ≡ types

-- of each type in turn, each over what those before it left
abbrev pub shaped_each : List DataType → List (List Cell) → Option (List Made × List (List Cell))
shaped_each types columns = shaped_in_turn (map (λ _. shaped) types) types columns

-- an error tells of what is refused of what would be made
abbrev pub IsShapeRefused : Option (Made × List (List Cell)) → Error → Type 0
IsShapeRefused found error = IfSome found (λ all. IsRefusedBy all.0.refusals error)

abbrev pub AreShapesRefused : Option (List Made × List (List Cell)) → Error → Type 0
AreShapesRefused found error = IfSome found (λ all. IsRefusedBy (flat_map made_refusals all.0) error)

-- ---- the arrays of columns

abbrev pub slot_of_end : End → Ends Cell → Cell
slot_of_end Low ends = low_slot ends
slot_of_end High ends = high_slot ends

abbrev pub count_on : Count → Ends Cell → Option ℕ
count_on Nulls ends = ends.null_count
count_on Distinct ends = ends.distinct_count

abbrev pub slot_of_count : Count → Ends Cell → Cell
slot_of_count count ends = count_slot (count_on count ends)

-- both ends of a group are values of a type
abbrev pub HasEndsOf : DataType → Ends Cell → Type 0
HasEndsOf data_type ends = IsEndOf data_type ends.min_value × IsEndOf data_type ends.max_value

-- what the ends of a column need to become arrays of a type
pub record AreReady (data_type : DataType) (column : List (Ends Cell)) : Type 0 where
  pub flat : flatness data_type ≡ Flat
  pub typed : AllByRecursion (HasEndsOf data_type) column
  pub fit : group_array_causes data_type column ≡ []

-- and those of columns, of the type beside each
abbrev pub AreEachReady : List DataType → List (List (Ends Cell)) → Type 0
AreEachReady types columns = AllZip AreReady types columns

-- ---- what is told of columns

-- a field has so many columns in a group
abbrev pub uneven_causes : ℕ → Field → RowGroupMetaData → List Cause
uneven_causes count field group = unless (count == length (columns_in field group)) NotYetImplemented

-- in each group the column at a place
abbrev pub columns_in_place : ℕ → List (List ColumnChunkMetaData) → List ColumnChunkMetaData
columns_in_place place groups = flat_map (take 1) (map (drop place) groups)

-- what is wrong with the column at the place of each type, in each group
abbrev pub causes_by_column : List DataType → List (List ColumnChunkMetaData) → List Cause
causes_by_column [] groups = []
causes_by_column (data_type ∷ types) groups = flat_map (group_causes data_type) (flat_map (take 1) groups) ++ causes_by_column types (map (drop 1) groups)

-- ---- the arrays of a field

-- The type comes to a number of slots over so many groups, and each column tells once of each.
pub record HasSlots (data_type : DataType) (told : List (List (Ends Cell))) : Type 0 where
  pub groups : ℕ
  pub slots : ℕ
  pub is : slot_count groups data_type ≡ Some slots
  pub even : AllByRecursion (λ column. length column ≡ groups) told

-- of this type, of the counts or the ends that columns tell
pub record AreCountArrays (data_type : DataType) (told : List (List (Ends Cell))) (arrays : CountArrays) : Type 0 where
  pub nulls : IsMade (array_of_slots data_type nulls_slot told) arrays.nulls
  pub distinct : IsMade (array_of_slots data_type distinct_slot told) arrays.distinct

pub record AreEndArrays (data_type : DataType) (told : List (List (Ends Cell))) (arrays : EndArrays) : Type 0 where
  pub low : IsMade (array_of_slots data_type low_slot told) arrays.low
  pub high : IsMade (array_of_slots data_type high_slot told) arrays.high

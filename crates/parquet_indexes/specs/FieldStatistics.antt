-- What the column indexes of a file tell of the pages of fields, and what is wrong with them.
use Rattle.std.specs.Prelude.{◌≡◌, ℕ, ◌&&◌, ◌==◌, Bool, true, false, List, [], ◌∷◌, length, flat_map, sum_by, zip, IsSomeAnd, Some, Result, MatchResult}
use Rattle.std.specs.List.{AllZip, list_all}
use Rattle.std.specs.Option.{option_map_or}
use Rattle.columns_core.specs.Causes.{Cause, ExternalFormat, NotYetImplemented, and_then, unless}
use Rattle.columns_core.specs.declared.data_type.DataType.{DataType}
use Rattle.columns_core.specs.declared.data_type.Field.{Field}
use Rattle.columns_core.specs.declared.error.Error.{Error}
use Rattle.columns_core.specs.declared.error.Error.TheVariants as error
use Rattle.parquet_meta.specs.Indexes.{column_index_length, field_columns, is_read, raw_index}
use Rattle.parquet_meta.specs.declared.metadata.ColumnChunkMetaData.{ColumnChunkMetaData}
use Rattle.parquet_statistics.specs.LeafTypes.{leaf_types}
use Rattle.parquet_indexes.specs.FieldTypes.{arranged}
use Rattle.parquet_indexes.specs.Told.{AreTold, is_carried_pair, statistics_causes}
use Rattle.parquet_indexes.specs.declared.page_statistics.ColumnPageStatistics.{ColumnPageStatistics}
use Rattle.parquet_indexes.specs.declared.page_statistics.FieldPageStatistics.{FieldPageStatistics}

-- ---- a column, with the type that it is read as

-- The statistics are what its index tells in the type.
abbrev pub IsOfColumn : List ℕ → DataType × ColumnChunkMetaData → ColumnPageStatistics → Type 0
IsOfColumn file typed statistics =
    IsSomeAnd (raw_index file typed.1) (λ index. AreTold typed.1.descriptor.primitive_type typed.0 index statistics)

-- Its stored type is carried, and it has an index, which has statistics in the type.
abbrev pub causes_of_typed : List ℕ → DataType × ColumnChunkMetaData → List Cause
causes_of_typed file typed =
    and_then (unless (is_read typed.1) NotYetImplemented)
    (option_map_or (statistics_causes typed.1.descriptor.primitive_type typed.0) (raw_index file typed.1) (ExternalFormat ∷ []))

-- ---- a field

-- its columns among these, each with the type that it is read as
abbrev pub typed_columns : List ColumnChunkMetaData → Field → List (DataType × ColumnChunkMetaData)
typed_columns columns field = zip (leaf_types field.data_type) (field_columns field.name columns)

-- The statistics are those of its columns, in the shape of its type.
pub record IsOfField (file : List ℕ) (columns : List ColumnChunkMetaData) (field : Field) (statistics : FieldPageStatistics) : Type 0 where
  pub told : List ColumnPageStatistics
  pub each : AllZip (IsOfColumn file) (typed_columns columns field) told
  pub shaped : arranged field.data_type told ≡ Some (statistics, [])

-- It has as many columns as there are types, each without a cause.
abbrev pub causes_of_field : List ℕ → List ColumnChunkMetaData → Field → List Cause
causes_of_field file columns field =
    and_then (unless (length (leaf_types field.data_type) == length (field_columns field.name columns)) NotYetImplemented)
    (flat_map (causes_of_typed file) (typed_columns columns field))

-- ---- fields

abbrev pub AreOfFields : List ℕ → List ColumnChunkMetaData → List Field → List FieldPageStatistics → Type 0
AreOfFields file columns fields statistics = AllZip (IsOfField file columns) fields statistics

abbrev pub causes_of_fields : List ColumnChunkMetaData → List Field → List ℕ → List Cause
causes_of_fields columns fields file = flat_map (causes_of_field file columns) fields

-- how many bytes the column indexes of a field's columns have
abbrev pub column_indexes_length : List ColumnChunkMetaData → Field → ℕ
column_indexes_length columns field = sum_by column_index_length (field_columns field.name columns)

-- ---- what is carried, by the arguments alone

-- Its stored type is read as this type.
abbrev pub is_carried_column : DataType × ColumnChunkMetaData → Bool
is_carried_column typed = is_carried_pair typed.1.descriptor.primitive_type typed.0

-- It has as many columns as there are types, each carried.
abbrev pub is_carried_field : List ColumnChunkMetaData → Field → Bool
is_carried_field columns field =
    length (leaf_types field.data_type) == length (field_columns field.name columns) && list_all is_carried_column (typed_columns columns field)

-- NotYetImplemented comes only where not all is carried.
abbrev pub TellsUncarried : Bool → Error → Type 0
TellsUncarried carried (error.NotYetImplemented part) = carried ≡ false
TellsUncarried carried (error.InvalidArgumentError part) = Unit {0}
TellsUncarried carried (error.ExternalFormat part) = Unit {0}
TellsUncarried carried (error.OutOfSpec part) = Unit {0}
TellsUncarried carried error.Overflow = Unit {0}
TellsUncarried carried error.Io = Unit {0}
TellsUncarried carried error.OutOfMemory = Unit {0}

-- Whatever a source tells, an answer comes only where all is carried, and NotYetImplemented only where not all is.
abbrev pub TellsCarried : {T : Type 0} → Bool → Result T Error → Type 0
TellsCarried carried result = MatchResult result (λ _. carried ≡ true) (TellsUncarried carried)

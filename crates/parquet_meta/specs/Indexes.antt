-- The indexes of columns, at the places that the footer names.
use Rattle.std.specs.Prelude.{◌≡◌, ℕ, Bool, true, false, ◌&&◌, ◌==◌, List, [], ◌∷◌, Option, Some, None, IfSome, is_some, is_none, Result, Ok, Err, if◌then◌else◌}
use Rattle.std.specs.Cmp.Lexicographic.{pointwise}
use Rattle.std.specs.List.{filter, list_all, list_any}
use Rattle.std.specs.Option.{option_map_or}
use Rattle.columns_core.specs.declared.error.Error.{Error}
use Rattle.columns_core.specs.declared.error.Error.TheVariants as error
use Rattle.parquet_base.specs.Failures.{MayFail}
use Rattle.parquet_base.specs.Reading.{◌>>=◌}
use Rattle.parquet_meta.specs.ColumnIndex.{column_index_in}
use Rattle.parquet_meta.specs.Lists.{all_of}
use Rattle.parquet_meta.specs.OffsetIndex.{locations_in}
use Rattle.parquet_meta.specs.PageIndexes.{typed_index}
use Rattle.parquet_meta.specs.Places.{part_at}
use Rattle.parquet_meta.specs.TypedStatistics.{is_carried}
use Rattle.parquet_meta.specs.declared.metadata.ColumnChunkMetaData.{ColumnChunkMetaData}
use Rattle.parquet_meta.specs.declared.metadata.Index.{Index}
use Rattle.parquet_meta.specs.declared.metadata.PageLocation.{PageLocation}
use Rattle.parquet_meta.specs.declared.metadata.PhysicalType.{PhysicalType}
use Rattle.parquet_meta.specs.declared.metadata.Place.{Place}

-- ---- columns of a field

-- the first name of a path
abbrev pub is_first : List ℕ → List (List ℕ) → Bool
is_first name [] = false
is_first name (first ∷ others) = pointwise ◌==◌ first name

abbrev pub begins_with : List ℕ → ColumnChunkMetaData → Bool
begins_with name column = is_first name column.descriptor.path_in_schema

-- the columns whose path begins with a name
abbrev pub field_columns : List ℕ → List ColumnChunkMetaData → List ColumnChunkMetaData
field_columns name columns = filter (begins_with name) columns

-- what stands beside these columns; the longer list is cut
abbrev pub field_items : {A : Type 0} → List ℕ → List ColumnChunkMetaData → List A → List A
field_items name [] items = []
field_items name (column ∷ columns) [] = []
field_items name (column ∷ columns) (item ∷ items) = if begins_with name column then item ∷ field_items name columns items else field_items name columns items

-- ---- where pages stand

abbrev pub locations_at : List ℕ → Option Place → Option (List PageLocation)
locations_at file None = Some []
locations_at file (Some place) = part_at file place >>= locations_in

-- the locations of a column's pages, none where it has no offset index
abbrev pub locations_of : List ℕ → ColumnChunkMetaData → Option (List PageLocation)
locations_of file column = locations_at file column.offset_index

-- ---- ends of pages

abbrev pub type_of : ColumnChunkMetaData → PhysicalType
type_of column = column.descriptor.primitive_type.physical_type

abbrev pub index_in : PhysicalType → List ℕ → Option Index
index_in physical_type bytes = column_index_in bytes >>= typed_index physical_type

abbrev pub index_at : PhysicalType → List ℕ → Option Place → Option Index
index_at physical_type file None = None
index_at physical_type file (Some place) = part_at file place >>= index_in physical_type

abbrev pub raw_index : List ℕ → ColumnChunkMetaData → Option Index
raw_index file column = index_at (type_of column) file column.column_index

-- a column of a type that is carried
abbrev pub is_read : ColumnChunkMetaData → Bool
is_read column = is_carried (type_of column)

abbrev pub has_index : ColumnChunkMetaData → Bool
has_index column = is_some column.column_index

-- the index of a column that is carried has no value
abbrev pub is_broken : List ℕ → ColumnChunkMetaData → Bool
is_broken file column = is_read column && is_none (raw_index file column)

-- A call gives the index of a column, or refuses: as not carried by the type, and as damaged where the index is missing or has
-- no value.
abbrev pub FindsIndex : ColumnChunkMetaData → Option (List ℕ) → ℕ → ℕ → Result Index Error → Type 0
FindsIndex column told before now (Ok x) = (is_read column ≡ true) × (has_index column ≡ true) × IfSome told (λ file. raw_index file column ≡ Some x)
FindsIndex column told before now (Err (error.NotYetImplemented part)) = is_read column ≡ false
FindsIndex column told before now (Err (error.ExternalFormat part)) = IfSome told (λ file. is_broken file column ≡ true)
FindsIndex column told before now (Err error.Io) = MayFail before now
FindsIndex column told before now (Err error.OutOfMemory) = Unit {0}
FindsIndex column told before now (Err _) = ⊥

-- A call gives the indexes of these columns. It refuses as not carried where a type is not, and as damaged where an index is
-- missing or has no value.
abbrev pub FindsIndexes : {X : Type 0} → (X → List Index) → List ColumnChunkMetaData → Option (List ℕ) → ℕ → ℕ → Result X Error → Type 0
FindsIndexes view columns told before now (Ok x) =
    (list_all is_read columns ≡ true) × (list_all has_index columns ≡ true) × IfSome told (λ file. all_of (raw_index file) columns ≡ Some (view x))
FindsIndexes view columns told before now (Err (error.NotYetImplemented part)) = list_all is_read columns ≡ false
FindsIndexes view columns told before now (Err (error.ExternalFormat part)) = IfSome told (λ file. list_any (is_broken file) columns ≡ true)
FindsIndexes view columns told before now (Err error.Io) = MayFail before now
FindsIndexes view columns told before now (Err error.OutOfMemory) = Unit {0}
FindsIndexes view columns told before now (Err _) = ⊥

-- ---- how much is read

abbrev pub place_length : Option Place → ℕ
place_length place = option_map_or (λ p. p.length) place 0

abbrev pub offset_index_length : ColumnChunkMetaData → ℕ
offset_index_length column = place_length column.offset_index

abbrev pub column_index_length : ColumnChunkMetaData → ℕ
column_index_length column = place_length column.column_index

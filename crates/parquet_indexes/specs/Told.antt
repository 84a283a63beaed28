-- What the index of a column tells of its pages in a type, as arrays, and what is wrong with it.
use Rattle.std.specs.Prelude.{ℕ, ◌&&◌, Bool, List, [], ◌∷◌, ◌++◌, length, flat_map, map, is_some, is_none, IsSomeAnd, Option, Some, None, if◌then◌else◌}
use Rattle.std.specs.Option.{option_map_or}
use Rattle.columns_core.specs.Causes.{Cause, ExternalFormat, NotYetImplemented, unless}
use Rattle.columns_core.specs.DictionaryType.{entry_type}
use Rattle.columns_core.specs.Types.{Layer}
use Rattle.columns_core.specs.declared.cell.Cell.{Cell}
use Rattle.columns_core.specs.declared.data_type.DataType.{DataType, out-DataType}
use Rattle.columns_core.specs.declared.data_type.DataType.TheOpen.{DataType-F}
use Rattle.parquet_meta.specs.TypedStatistics.{known_count}
use Rattle.parquet_meta.specs.declared.metadata.Index.{Index}
use Rattle.parquet_meta.specs.declared.metadata.Index.TheVariants as indexes
use Rattle.parquet_meta.specs.declared.metadata.PageIndex.{PageIndex}
use Rattle.parquet_meta.specs.declared.metadata.PhysicalType.{PhysicalType}
use Rattle.parquet_meta.specs.declared.metadata.PhysicalType.TheVariants as physical
use Rattle.parquet_meta.specs.declared.metadata.PrimitiveLogicalType.{PrimitiveLogicalType}
use Rattle.parquet_meta.specs.declared.metadata.PrimitiveType.{PrimitiveType}
use Rattle.parquet_meta.specs.declared.metadata.Repetition.TheVariants.{Required}
use Rattle.parquet_page.specs.Stored.{Octets}
use Rattle.flat_values.specs.Conversion.{BigEndian}
use Rattle.column_ends.specs.Converted.{causes_of_index, cell_page, index_cells, index_rule}
use Rattle.column_ends.specs.Rules.{takes_size}
use Rattle.column_ends.specs.Told.{stored_page}
use Rattle.column_ends.specs.declared.rules.FixedRule.TheVariants.{Decimal}
use Rattle.parquet_indexes.specs.PageStatistics.{AreOfPages}
use Rattle.parquet_indexes.specs.declared.page_statistics.ColumnPageStatistics.{ColumnPageStatistics}

-- The arrays tell what the index of a column tells in a type.
abbrev pub AreTold : PrimitiveType → DataType → Index → ColumnPageStatistics → Type 0
AreTold stored data_type index statistics = IsSomeAnd (index_cells stored data_type index) (λ pages. AreOfPages data_type pages statistics)

-- Ends are values of no dictionary type; it is the type of its entries that is asked for.
abbrev pub statistics_causes : PrimitiveType → DataType → Index → List Cause
statistics_causes stored data_type index = if is_some (entry_type data_type) then NotYetImplemented ∷ [] else causes_of_index stored data_type index

-- Such a pair of types is carried, whatever an index tells. No pair with floating point numbers is.
abbrev pub is_carried_pair : PrimitiveType → DataType → Bool
is_carried_pair stored data_type = is_none (entry_type data_type) && is_some (index_rule stored data_type)

-- columns of a stored type; whether they are repeated is not asked
abbrev pub required_type : PhysicalType → Option PrimitiveLogicalType → PrimitiveType
required_type type logical = record { physical_type = type; logical_type = logical; repetition = Required }

-- ---- fixed bytes

-- what is told of pages of fixed bytes, whose number a type of bytes says
abbrev pub fixed_cells_at : Layer → DataType → List (PageIndex (List ℕ)) → Option (List (PageIndex Cell))
fixed_cells_at (DataType-F.FixedSizeBinary size) data_type pages = index_cells (required_type (physical.FixedLenByteArray size) None) data_type (indexes.FixedLenByteArray size pages)
fixed_cells_at (DataType-F.Decimal precision scale) data_type pages = Some (map (cell_page BigEndian) (map (stored_page Octets) pages))
fixed_cells_at _ data_type pages = None

abbrev pub fixed_cells : DataType → List (PageIndex (List ℕ)) → Option (List (PageIndex Cell))
fixed_cells data_type = fixed_cells_at (out-DataType data_type) data_type

-- A decimal has 1 to 16 bytes, whatever others have.
abbrev pub decimal_causes : Option (List ℕ) → List Cause
decimal_causes end = option_map_or (λ bytes. unless (takes_size Decimal (length bytes)) ExternalFormat) end []

abbrev pub decimal_page_causes : PageIndex (List ℕ) → List Cause
decimal_page_causes page = unless (is_some (known_count page.null_count)) ExternalFormat ++ decimal_causes page.min ++ decimal_causes page.max

abbrev pub fixed_causes_at : Layer → DataType → List (PageIndex (List ℕ)) → List Cause
fixed_causes_at (DataType-F.FixedSizeBinary size) data_type pages = causes_of_index (required_type (physical.FixedLenByteArray size) None) data_type (indexes.FixedLenByteArray size pages)
fixed_causes_at (DataType-F.Decimal precision scale) data_type pages = flat_map decimal_page_causes pages
fixed_causes_at _ data_type pages = NotYetImplemented ∷ []

abbrev pub fixed_causes : DataType → List (PageIndex (List ℕ)) → List Cause
fixed_causes data_type = fixed_causes_at (out-DataType data_type) data_type

-- The arrays tell what such pages tell in a type.
abbrev pub AreOfFixed : DataType → List (PageIndex (List ℕ)) → ColumnPageStatistics → Type 0
AreOfFixed data_type pages statistics = IsSomeAnd (fixed_cells data_type pages) (λ cells. AreOfPages data_type cells statistics)

-- How a column that is read as a type is decoded.
use Rattle.std.specs.Prelude.{ℕ, List, Option, Some, None, option_and_then, option_map, Result}
use Rattle.columns_core.specs.Causes.{Cause}
use Rattle.columns_core.specs.DictionaryType.{entry_type, key_type}
use Rattle.columns_core.specs.Types.{Layer, value_type}
use Rattle.columns_core.specs.declared.cell.Cell.{Cell}
use Rattle.columns_core.specs.declared.data_type.DataType.{DataType, out-DataType}
use Rattle.parquet_meta.specs.declared.metadata.PhysicalType.{PhysicalType}
use Rattle.parquet_page.specs.Content.{DataContent, DictContent}
use Rattle.page_decoding.specs.Outcome.{Outcome}
use Rattle.flat_values.specs.ColumnLeft.{Decoding}
use Rattle.flat_values.specs.Conversion.{Conversion}
use Rattle.flat_values.specs.MostBytes.{most_bytes}
use Rattle.flat_values.specs.Outcomes.{fitted_by, selected_outcomes}
use Rattle.dictionary_values.specs.Keys.{keys_of, selected_entries}

-- how many keys the keys' type of a dictionary type has from 0 on; other types have no keys
abbrev pub key_limit_of : DataType → Option ℕ
key_limit_of data_type = option_map keys_of (key_type data_type)

-- What the selected places of a data page give over the entries of a dictionary: values, by a rule; or, where the column is read as keys of
-- which a type has so many, the entries that they name.
abbrev pub outcomes_by : Option ℕ → Conversion → Option (List Cell) → DataContent → List Outcome
outcomes_by None rule = selected_outcomes rule
outcomes_by (Some most) rule = selected_entries most

-- to one who reads them as a type
abbrev pub column_outcomes : DataType → Conversion → Option (List Cell) → DataContent → List Outcome
column_outcomes data_type = outcomes_by (key_limit_of data_type)

-- The entries of a dictionary page, by a rule. Together they fit an array of their own, of the type of the values.
abbrev pub column_entries : DataType → Conversion → PhysicalType → DictContent → Result (List Cell) (List Cause)
column_entries data_type rule physical = fitted_by (most_bytes (value_type data_type)) rule physical

-- How a column of a stored type is decoded by a rule. An array of keys has no most bytes of its own.
abbrev pub column_decoding : PhysicalType → DataType → Conversion → Decoding
column_decoding physical data_type rule = record {
  entries = column_entries data_type rule physical;
  outcomes = column_outcomes data_type rule;
  most_bytes = most_bytes data_type;
}

-- the conversion of the entries of a dictionary type, by a table of entries
abbrev pub entry_conversion : (Layer → Option Conversion) → DataType → Option Conversion
entry_conversion table data_type = option_and_then (λ value. table (out-DataType value)) (entry_type data_type)

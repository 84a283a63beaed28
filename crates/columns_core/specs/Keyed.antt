-- What a contract sees of a dictionary array: its type, its keys as places of entries, and its entries.
use Rattle.std.specs.Prelude.{ℕ, ℤ, pos, List, map, Option, refl}
use Rattle.std.specs.Coded.{Coded, code_by, coded×, coded_list, coded_option, coded_ℕ}
use Rattle.columns_core.specs.declared.data_type.DataType.{DataType}
use Rattle.columns_core.specs.declared.cell.Cell.{Cell}
use Rattle.columns_core.specs.Column.{cell_of}
use Rattle.columns_core.specs.Entries.{entries_named, key_places}

pub record KeyedColumn : Type 0 where
  pub data_type : DataType
  pub keys : List (Option ℕ)
  pub entries : List Cell

-- how it is stored, from how types and cells are
abbrev pub keyed_code : Coded DataType → Coded Cell → Coded KeyedColumn
keyed_code types cells =
    code_by (DataType × (List (Option ℕ) × List Cell)) (coded× types (coded× (coded_list (coded_option coded_ℕ)) (coded_list cells)))
    (λ d. (d.data_type, (d.keys, d.entries))) (λ p. record { data_type = p.0; keys = p.1.0; entries = p.1.1 }) (λ _. refl)

-- the entry that each key names, null where there is no key
abbrev pub keyed_cells : {K : Type 0} → (K → ℤ) → List Cell → List (Option K) → List Cell
keyed_cells number entries keys = map (cell_of (λ cell. cell)) (entries_named number entries keys)

abbrev pub named_cells : KeyedColumn → List Cell
named_cells dictionary = keyed_cells pos dictionary.entries dictionary.keys

-- the dictionary of these keys and entries
abbrev pub keyed_column : {K : Type 0} → (K → ℤ) → DataType → List (Option K) → List Cell → KeyedColumn
keyed_column number data_type keys entries =
    record { data_type = data_type; keys = key_places number keys; entries = entries }

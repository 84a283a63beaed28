-- The types of dictionary columns, and readers of their entries.
use Rattle.std.specs.Prelude.{refl}
use Rattle.std.specs.Coded.{Coded, code_by, coded×}
use Rattle.columns_core.specs.DictionaryType.{IsDictionaryOf}
use Rattle.columns_core.specs.declared.data_type.DataType.{DataType}
use Rattle.columns_core.specs.declared.data_type.IntegerType.{IntegerType}

-- a dictionary type of these keys, whose entries are of such a type
pub record HoldsEntries (IsType : DataType → Type 0) (key : IntegerType) (data_type : DataType) : Type 0 where
  pub value : DataType
  pub keyed : IsDictionaryOf key value data_type
  pub is_type : IsType value

-- a decoder of the values, and the type of the arrays
pub record EntriesBy (V : Type 0) : Type 0 where
  pub values : V
  pub data_type : DataType

abbrev pub entries_code : {V : Type 0} → Coded V → Coded DataType → Coded (EntriesBy V)
entries_code {V} values types = code_by (V × DataType) (coded× values types) (λ e. (e.values, e.data_type)) (λ p. record { values = p.0; data_type = p.1 }) (λ _. refl)

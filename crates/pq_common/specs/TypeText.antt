-- Types as text: what spells them.
use Rattle.std.specs.Prelude.{ℕ, List, [], ◌++◌, codes, decimal}
use Rattle.columns_core.specs.Types.{Layer}
use Rattle.columns_core.specs.declared.data_type.DataType.{DataType, out-DataType}
use Rattle.columns_core.specs.declared.data_type.DataType.TheOpen.{DataType-F}
use Rattle.columns_core.specs.declared.data_type.IntegerType.{IntegerType}
use Rattle.columns_core.specs.declared.data_type.IntegerType.TheVariants as key
use Rattle.columns_core.specs.declared.data_type.IntervalUnit.{IntervalUnit}
use Rattle.columns_core.specs.declared.data_type.IntervalUnit.TheVariants.{YearMonth, DayTime}
use Rattle.columns_core.specs.declared.data_type.TimeUnit.{TimeUnit}
use Rattle.columns_core.specs.declared.data_type.TimeUnit.TheVariants.{Second, Millisecond, Microsecond, Nanosecond}

abbrev pub unit_text : TimeUnit → List ℕ
unit_text Second = codes "s"
unit_text Millisecond = codes "ms"
unit_text Microsecond = codes "us"
unit_text Nanosecond = codes "ns"

abbrev pub interval_unit_text : IntervalUnit → List ℕ
interval_unit_text YearMonth = codes "YearMonth"
interval_unit_text DayTime = codes "DayTime"

abbrev pub key_text : IntegerType → List ℕ
key_text key.Int8 = codes "Int8"
key_text key.Int16 = codes "Int16"
key_text key.Int32 = codes "Int32"
key_text key.Int64 = codes "Int64"
key_text key.UInt8 = codes "UInt8"
key_text key.UInt16 = codes "UInt16"
key_text key.UInt32 = codes "UInt32"
key_text key.UInt64 = codes "UInt64"

-- the name of a type, with no argument; one that holds fields has none
abbrev pub bare_name : Layer → List ℕ
bare_name DataType-F.Null = codes "Null"
bare_name DataType-F.Boolean = codes "Boolean"
bare_name DataType-F.Int8 = codes "Int8"
bare_name DataType-F.Int16 = codes "Int16"
bare_name DataType-F.Int32 = codes "Int32"
bare_name DataType-F.Int64 = codes "Int64"
bare_name DataType-F.UInt8 = codes "UInt8"
bare_name DataType-F.UInt16 = codes "UInt16"
bare_name DataType-F.UInt32 = codes "UInt32"
bare_name DataType-F.UInt64 = codes "UInt64"
bare_name DataType-F.Date32 = codes "Date32"
bare_name DataType-F.Date64 = codes "Date64"
bare_name (DataType-F.Time32 unit) = codes "Time32"
bare_name (DataType-F.Time64 unit) = codes "Time64"
bare_name (DataType-F.Duration unit) = codes "Duration"
bare_name (DataType-F.Timestamp unit time_zone) = codes "Timestamp"
bare_name (DataType-F.Interval unit) = codes "Interval"
bare_name (DataType-F.Decimal precision scale) = codes "Decimal"
bare_name DataType-F.Utf8 = codes "Utf8"
bare_name DataType-F.LargeUtf8 = codes "LargeUtf8"
bare_name DataType-F.Binary = codes "Binary"
bare_name DataType-F.LargeBinary = codes "LargeBinary"
bare_name (DataType-F.FixedSizeBinary size) = codes "FixedSizeBinary"
bare_name (DataType-F.Dictionary keys values ordered) = codes "Dictionary"
bare_name (DataType-F.List field) = []
bare_name (DataType-F.LargeList field) = []
bare_name (DataType-F.Struct fields) = []
bare_name (DataType-F.Map field ordered) = []

-- an argument in parentheses
abbrev pub in_parentheses : List ℕ → List ℕ
in_parentheses argument = codes "(" ++ (argument ++ codes ")")

-- two arguments with a comma between them
abbrev pub both_texts : List ℕ → List ℕ → List ℕ
both_texts first second = first ++ (codes "," ++ second)

-- What stands behind the name of a type that is no dictionary: units and numbers. A time zone is left out.
abbrev pub argument_text : Layer → List ℕ
argument_text (DataType-F.Time32 unit) = in_parentheses (unit_text unit)
argument_text (DataType-F.Time64 unit) = in_parentheses (unit_text unit)
argument_text (DataType-F.Duration unit) = in_parentheses (unit_text unit)
argument_text (DataType-F.Timestamp unit time_zone) = in_parentheses (unit_text unit)
argument_text (DataType-F.Interval unit) = in_parentheses (interval_unit_text unit)
argument_text (DataType-F.Decimal precision scale) = in_parentheses (both_texts (decimal precision) (decimal scale))
argument_text (DataType-F.FixedSizeBinary size) = in_parentheses (decimal size)
argument_text DataType-F.Null = []
argument_text DataType-F.Boolean = []
argument_text DataType-F.Int8 = []
argument_text DataType-F.Int16 = []
argument_text DataType-F.Int32 = []
argument_text DataType-F.Int64 = []
argument_text DataType-F.UInt8 = []
argument_text DataType-F.UInt16 = []
argument_text DataType-F.UInt32 = []
argument_text DataType-F.UInt64 = []
argument_text DataType-F.Date32 = []
argument_text DataType-F.Date64 = []
argument_text DataType-F.Utf8 = []
argument_text DataType-F.LargeUtf8 = []
argument_text DataType-F.Binary = []
argument_text DataType-F.LargeBinary = []
-- a type inside a type is none that a text spells
argument_text (DataType-F.Dictionary keys values ordered) = []
argument_text (DataType-F.List field) = []
argument_text (DataType-F.LargeList field) = []
argument_text (DataType-F.Struct fields) = []
argument_text (DataType-F.Map field ordered) = []

-- a type that is no dictionary
abbrev pub value_type_text : Layer → List ℕ
value_type_text layer = bare_name layer ++ argument_text layer

-- of a dictionary the types of its keys and of its entries
abbrev pub type_text_at : Layer → List ℕ
type_text_at (DataType-F.Dictionary keys values ordered) =
    codes "Dictionary" ++ in_parentheses (both_texts (key_text keys) (value_type_text (out-DataType values)))
type_text_at layer = value_type_text layer

abbrev pub type_text : DataType → List ℕ
type_text data_type = type_text_at (out-DataType data_type)

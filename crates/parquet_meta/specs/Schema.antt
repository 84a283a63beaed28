-- The elements of the schema, by the ids of their fields.
use Rattle.std.specs.Prelude.{ℕ, zero, suc, ℤ, pos, negsuc, Bool, true, false, List, Option, Some, None, option_and_then, if◌then◌else◌}
use Rattle.parquet_meta.specs.Meaning.{Rule, Field, i32, name, truth_value, struct_of, is_id, setting, passing, made}
use Rattle.parquet_meta.specs.Code.{type_code, small_count}
use Rattle.parquet_meta.specs.declared.metadata.ParquetTimeUnit.{ParquetTimeUnit}
use Rattle.parquet_meta.specs.declared.metadata.ParquetTimeUnit.TheVariants.{Milliseconds, Microseconds, Nanoseconds}
use Rattle.parquet_meta.specs.declared.metadata.PrimitiveLogicalType.{PrimitiveLogicalType}
use Rattle.parquet_meta.specs.declared.metadata.PrimitiveLogicalType.TheVariants.{Timestamp}
use Rattle.parquet_meta.specs.declared.metadata.Repetition.{Repetition}
use Rattle.parquet_meta.specs.declared.metadata.Repetition.TheVariants.{Required, Optional, Repeated}
use Rattle.parquet_meta.specs.declared.schema.SchemaElement.{SchemaElement}
use Rattle.parquet_meta.specs.declared.schema.ElementFields.{ElementFields}
use Rattle.parquet_meta.specs.declared.schema.LogicalTypeFields.{LogicalTypeFields}
use Rattle.parquet_meta.specs.declared.schema.TimestampFields.{TimestampFields}
use Rattle.parquet_meta.specs.declared.schema.TimeUnitFields.{TimeUnitFields}
use Rattle.parquet_meta.specs.declared.schema.NoFields.{NoFields}

-- a struct of which no field is known
unfoldable pub no_field : Field NoFields
no_field s id = passing s

unfoldable pub empty_struct : Rule NoFields
empty_struct = struct_of no_field (record {})

-- TimeUnit, a union: 1 millis, 2 micros, 3 nanos
unfoldable pub time_unit_field : Field TimeUnitFields
time_unit_field s id =
    if is_id id 1 then setting (λ _. record s { milliseconds = true }) empty_struct
    else (if is_id id 2 then setting (λ _. record s { microseconds = true }) empty_struct
    else (if is_id id 3 then setting (λ _. record s { nanoseconds = true }) empty_struct
    else passing s))

-- the one unit that is named
abbrev pub unit_of : Bool → Bool → Bool → Option ParquetTimeUnit
unit_of true false false = Some Milliseconds
unit_of false true false = Some Microseconds
unit_of false false true = Some Nanoseconds
unit_of _ _ _ = None

abbrev pub one_unit : TimeUnitFields → Option ParquetTimeUnit
one_unit s = unit_of s.milliseconds s.microseconds s.nanoseconds

unfoldable pub time_unit : Rule ParquetTimeUnit
time_unit = made (struct_of time_unit_field (record { milliseconds = false; microseconds = false; nanoseconds = false })) one_unit

-- TimestampType: 1 isAdjustedToUTC, 2 unit, both required
unfoldable pub timestamp_field : Field TimestampFields
timestamp_field s id =
    if is_id id 1 then setting (λ b. record s { is_adjusted_to_utc = Some b }) truth_value
    else (if is_id id 2 then setting (λ u. record s { unit = Some u }) time_unit
    else passing s)

abbrev pub both_of : Option ParquetTimeUnit → Option Bool → Option PrimitiveLogicalType
both_of (Some unit) (Some utc) = Some (Timestamp unit utc)
both_of (Some unit) None = None
both_of None utc = None

abbrev pub timestamp_of : TimestampFields → Option PrimitiveLogicalType
timestamp_of s = both_of s.unit s.is_adjusted_to_utc

unfoldable pub timestamp : Rule PrimitiveLogicalType
timestamp = made (struct_of timestamp_field (record { is_adjusted_to_utc = None; unit = None })) timestamp_of

-- LogicalType: 8 TIMESTAMP; the others are passed over
unfoldable pub logical_type_field : Field LogicalTypeFields
logical_type_field s id = if is_id id 8 then setting (λ t. record s { timestamp = Some t }) timestamp else passing s

unfoldable pub logical_type : Rule LogicalTypeFields
logical_type = struct_of logical_type_field (record { timestamp = None })

-- 0 required, 1 optional, 2 repeated
abbrev pub repetition_of : ℤ → Option Repetition
repetition_of (pos zero) = Some Required
repetition_of (pos (suc zero)) = Some Optional
repetition_of (pos (suc (suc zero))) = Some Repeated
repetition_of (pos (suc (suc (suc n)))) = None
repetition_of (negsuc n) = None

unfoldable pub repetition : Rule Repetition
repetition = made i32 repetition_of

-- SchemaElement: 1 type, 2 type_length, 3 repetition_type, 4 name (required), 5 num_children, 10 logicalType
unfoldable pub element_field : Field ElementFields
element_field s id =
    if is_id id 1 then setting (λ t. record s { physical_type = Some t }) type_code
    else (if is_id id 2 then setting (λ n. record s { type_length = Some n }) small_count
    else (if is_id id 3 then setting (λ r. record s { repetition = Some r }) repetition
    else (if is_id id 4 then setting (λ b. record s { name = Some b }) name
    else (if is_id id 5 then setting (λ n. record s { children = Some n }) small_count
    else (if is_id id 10 then setting (λ l. record s { logical_type = Some l }) logical_type
    else passing s)))))

abbrev pub named : ElementFields → Option (List ℕ) → Option SchemaElement
named s None = None
named s (Some n) = Some (record {
  physical_type = s.physical_type;
  type_length = s.type_length;
  repetition = s.repetition;
  name = n;
  children = s.children;
  logical_type = option_and_then (λ l. l.timestamp) s.logical_type;
})

abbrev pub element_of : ElementFields → Option SchemaElement
element_of s = named s s.name

unfoldable pub element : Rule SchemaElement
element = made (struct_of element_field (record { physical_type = None; type_length = None; repetition = None; name = None; children = None; logical_type = None })) element_of

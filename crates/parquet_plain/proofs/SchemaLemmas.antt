-- The schema that is written is read as its leaves.
use Rattle.parquet_meta.specs.Records.{StoredElement, code_of_type}
use Rattle.std.proofs.Common.{◌≡◌, ℕ, zero, suc, pos, Bool, true, false, List, [], ◌∷◌, Option, Some, None, refl, ap, arith, length, map}
use Rattle.std.specs.Prelude.{All}
use Rattle.std.specs.Str.{is_utf8, chars}
use lib.Utf8.{encode}
use Rattle.std.proofs.lemmas.List.{length-map}
use Rattle.std.proofs.lemmas.List.Elements.{All-head, All-tail}
use Rattle.parquet_thrift.specs.Values.{Value, truth, number, list, struct, values, Fields, no_fields, fields}
use Rattle.compact_write.specs.Fields.{i32_field, bytes_field, struct_field, where_there, values_of}
use Rattle.compact_write.specs.Written.{truth_kind}
use Rattle.parquet_meta.specs.Code.{small_count, type_code}
use Rattle.parquet_meta.specs.Footer.{schema}
use Rattle.parquet_meta.specs.Meaning.{i32, name, truth_value, in_turn, struct_of, each, list_of, setting, made}
use Rattle.parquet_meta.specs.Schema.{no_field, empty_struct, time_unit_field, time_unit, timestamp_field, timestamp, logical_type_field, logical_type, repetition, element_field, element}
use Rattle.parquet_meta.specs.Tree.{neighbours, node_within, leaves, physical_type_of}
use Rattle.parquet_meta.specs.declared.metadata.ParquetTimeUnit.{ParquetTimeUnit}
use Rattle.parquet_meta.specs.declared.metadata.ParquetTimeUnit.TheVariants.{Milliseconds, Microseconds, Nanoseconds}
use Rattle.parquet_meta.specs.declared.metadata.PhysicalType.{PhysicalType}
use Rattle.parquet_meta.specs.declared.metadata.PhysicalType.TheVariants as types
use Rattle.parquet_meta.specs.declared.metadata.PrimitiveLogicalType.{PrimitiveLogicalType}
use Rattle.parquet_meta.specs.declared.metadata.PrimitiveLogicalType.TheVariants.{Timestamp}
use Rattle.parquet_meta.specs.declared.metadata.Repetition.{Repetition}
use Rattle.parquet_meta.specs.declared.metadata.Repetition.TheVariants.{Required, Optional, Repeated}
use Rattle.parquet_plain.specs.Description.{PlainColumn, descriptor_of}
use Rattle.parquet_plain.specs.Structs.{code_number, width_of, width_field, logical_field, repetition_number, unit_number, element_value, root_name, root_value, schema_values}
use Rattle.parquet_plain.proofs.StructLemmas.{each-written}
use Rattle.parquet_plain.specs.Fits.{IsPlainColumn, IsType}

-- ---- an element

pub type_code-means : (t : PhysicalType) → type_code 5 (number (pos (code_number t))) ≡ Some (code_of_type t)
unfolding type_code i32 made
type_code-means types.Boolean = refl
type_code-means types.Int32 = refl
type_code-means types.Int64 = refl
type_code-means types.Int96 = refl
type_code-means types.Float = refl
type_code-means types.Double = refl
type_code-means types.ByteArray = refl
type_code-means (types.FixedLenByteArray width) = refl

repetition-means : (r : Repetition) → repetition 5 (number (pos (repetition_number r))) ≡ Some r
unfolding repetition i32 made
repetition-means Required = refl
repetition-means Optional = refl
repetition-means Repeated = refl

pub physical_type-back : (t : PhysicalType) → IsType t → physical_type_of (code_of_type t) (width_of t) ≡ Some t
physical_type-back types.Boolean is = refl
physical_type-back types.Int32 is = refl
physical_type-back types.Int64 is = refl
physical_type-back types.Int96 is = refl
physical_type-back types.Float is = refl
physical_type-back types.Double is = refl
physical_type-back types.ByteArray is = refl
physical_type-back (types.FixedLenByteArray zero) is = absurd (omega arith)
physical_type-back (types.FixedLenByteArray (suc width)) is = refl

abbrev pub element_of_column : PlainColumn → StoredElement
element_of_column column = record {
  physical_type = Some (code_of_type column.type.physical_type);
  type_length = width_of column.type.physical_type;
  repetition = Some column.type.repetition;
  name = column.name;
  children = None;
  logical_type = column.type.logical_type;
}

logical-means : (unit : ParquetTimeUnit) (utc : Bool) →
    logical_type 12 (struct (struct_field 8 (fields (pos 1) (truth_kind utc) (truth utc) (struct_field 2 (struct_field (unit_number unit) no_fields no_fields) no_fields)) no_fields)) ≡ Some (record { timestamp = Some (Timestamp unit utc) })
unfolding logical_type logical_type_field timestamp timestamp_field time_unit time_unit_field truth_value empty_struct no_field setting made struct_of in_turn
logical-means Milliseconds true = refl
logical-means Milliseconds false = refl
logical-means Microseconds true = refl
logical-means Microseconds false = refl
logical-means Nanoseconds true = refl
logical-means Nanoseconds false = refl

-- the fields of an element, with a length or without
abbrev fields_with : PhysicalType → Option ℕ → Repetition → List ℕ → Option PrimitiveLogicalType → Fields
fields_with t w r text l =
    i32_field 1 (pos (code_number t)) (where_there width_field w (i32_field 3 (pos (repetition_number r)) (bytes_field 4 text (where_there logical_field l no_fields))))

abbrev element_with : PhysicalType → Option ℕ → Repetition → List ℕ → Option PrimitiveLogicalType → StoredElement
element_with t w r text l = record { physical_type = Some (code_of_type t); type_length = w; repetition = Some r; name = text; children = None; logical_type = l }

element-means : (t : PhysicalType) (w : Option ℕ) (r : Repetition) (text : List ℕ) (l : Option PrimitiveLogicalType) → is_utf8 text ≡ true →
    element 12 (struct (fields_with t w r text l)) ≡ Some (element_with t w r text l)
unfolding element element_field name small_count i32 setting made struct_of in_turn
element-means t None r text None utf8 = rw (type_code-means t, repetition-means r, utf8) refl
element-means t (Some w) r text None utf8 = rw (type_code-means t, repetition-means r, utf8) refl
element-means t None r text (Some (Timestamp unit utc)) utf8 = rw (type_code-means t, repetition-means r, utf8, logical-means unit utc) refl
element-means t (Some w) r text (Some (Timestamp unit utc)) utf8 = rw (type_code-means t, repetition-means r, utf8, logical-means unit utc) refl

abbrev root_of : ℕ → StoredElement
root_of columns = record { physical_type = None; type_length = None; repetition = None; name = root_name; children = Some columns; logical_type = None }

root-means : (columns : ℕ) → element 12 (root_value columns) ≡ Some (root_of columns)
unfolding element element_field name small_count i32 setting made struct_of in_turn is_utf8 chars encode
root-means columns = refl

-- ---- the leaves

node-of : (column : PlainColumn) (es : List StoredElement) → IsPlainColumn column → node_within 31 [] (element_of_column column ∷ es) ≡ Some (descriptor_of column ∷ [], es)
unfolding node_within
node-of column es is = rw (physical_type-back column.type.physical_type is.typed, is.flat) refl

columns-are : (columns : List PlainColumn) → All IsPlainColumn columns → neighbours (node_within 31) (length columns) [] (map element_of_column columns) ≡ Some (map descriptor_of columns, [])
unfolding neighbours
columns-are [] all = refl
columns-are (column ∷ columns) all =
    rw (node-of column (map element_of_column columns) (All-head IsPlainColumn column columns all), columns-are columns (All-tail IsPlainColumn column columns all)) refl

leaves-are : (columns : List PlainColumn) → All IsPlainColumn columns → leaves (root_of (length columns) ∷ map element_of_column columns) ≡ Some (map descriptor_of columns)
unfolding leaves
leaves-are columns all = rw (columns-are columns all) refl

pub values_of-map : {A B : Type 0} (value : B → Value) (f : A → B) (xs : List A) → values_of value (map f xs) ≡ values_of (λ x. value (f x)) xs
unfolding values_of
values_of-map value f [] = refl
values_of-map value f (x ∷ xs) = ap (values (value (f x))) (values_of-map value f xs)

pub schema-means : (columns : List PlainColumn) → All IsPlainColumn columns → schema 9 (list 12 (schema_values (map descriptor_of columns))) ≡ Some (map descriptor_of columns)
unfolding schema made list_of each
schema-means columns all =
    rw (
      length-map columns descriptor_of,
      root-means (length columns),
      values_of-map element_value descriptor_of columns,
      each-written IsPlainColumn element 12 (λ column. element_value (descriptor_of column)) element_of_column columns
          (λ column is. element-means column.type.physical_type (width_of column.type.physical_type) column.type.repetition column.name column.type.logical_type is.text) all,
    )
    (leaves-are columns all)

-- The conversions of ends by the outermost constructor of a type.
use Rattle.std.proofs.Common.{◌≡◌, ℕ, Bool, refl, ◌∙◌}
use Rattle.std.specs.Prelude.{Option, Some}
use denote.Hole.Carrier
use Rattle.columns_core.specs.declared.data_type.DataType.TheBlock
use Rattle.columns_core.specs.Types.{Layer}
use Rattle.columns_core.specs.declared.data_type.DataType.{DataType, out-DataType, fold_out-DataType, map-DataType}
use Rattle.columns_core.specs.declared.data_type.DataType as type
use Rattle.columns_core.specs.declared.data_type.IntegerType.{IntegerType}
use Rattle.columns_core.specs.declared.data_type.DataType.TheOpen.{DataType-F, Field-F}
use Rattle.columns_core.specs.declared.data_type.IntervalUnit.TheVariants.{YearMonth, DayTime}
use Rattle.columns_core.specs.declared.data_type.Field.{Field, fold-Field}
use Rattle.parquet_meta.specs.declared.metadata.PhysicalType.{PhysicalType}
use Rattle.parquet_meta.specs.declared.metadata.PhysicalType.TheVariants.{Boolean, Int32, Int64, Int96, Float, Double, ByteArray, FixedLenByteArray}
use Rattle.parquet_meta.specs.declared.metadata.PrimitiveLogicalType.{PrimitiveLogicalType}
use Rattle.flat_values.specs.Conversion.{Conversion, Nulls}
use Rattle.flat_values.specs.Pairs.{from_boolean, from_int32, from_int64, from_int96, from_fixed, from_byte_array, from_physical, leaf_end_at, leaf_conversion, page_end_at, page_conversion, page_from_fixed, page_from_int96, page_from_physical}

abbrev Found : Type 0
Found = Option Conversion

abbrev field_found : Field-F Found Found → Found
field_found field = field.data_type

-- ---- the tables look at no type inside

module _ (f : DataType → Found) (g : Field → Found) where
  abbrev over : Layer → DataType-F Found Found
  over layer = map-DataType DataType Field Found Found f g layer

  same_boolean : (layer : Layer) → from_boolean (over layer) ≡ from_boolean layer
  same_boolean DataType-F.Boolean = refl
  same_boolean _ = refl

  same_int32 : (layer : Layer) → from_int32 (over layer) ≡ from_int32 layer
  same_int32 DataType-F.Int32 = refl
  same_int32 _ = refl

  same_int64 : (logical : Option PrimitiveLogicalType) (layer : Layer) → from_int64 logical (over layer) ≡ from_int64 logical layer
  same_int64 logical DataType-F.Int64 = refl
  same_int64 logical _ = refl

  same_int96 : (layer : Layer) → from_int96 (over layer) ≡ from_int96 layer
  same_int96 DataType-F.Int64 = refl
  same_int96 _ = refl

  same_page_int96 : (layer : Layer) → page_from_int96 (over layer) ≡ page_from_int96 layer
  same_page_int96 DataType-F.Int64 = refl
  same_page_int96 _ = refl

  same_byte_array : (layer : Layer) → from_byte_array (over layer) ≡ from_byte_array layer
  same_byte_array DataType-F.Utf8 = refl
  same_byte_array _ = refl

  same_fixed : (size : ℕ) (layer : Layer) → from_fixed size (over layer) ≡ from_fixed size layer
  same_fixed size (DataType-F.Interval YearMonth) = refl
  same_fixed size (DataType-F.Interval DayTime) = refl
  same_fixed size _ = refl

  same_page_fixed : (size : ℕ) (layer : Layer) → page_from_fixed size (over layer) ≡ page_from_fixed size layer
  same_page_fixed size (DataType-F.Interval unit) = refl
  same_page_fixed size _ = refl

  same_physical : (physical : PhysicalType) (logical : Option PrimitiveLogicalType) (layer : Layer) → from_physical physical logical (over layer) ≡ from_physical physical logical layer
  same_physical Boolean logical layer = same_boolean layer
  same_physical Int32 logical layer = same_int32 layer
  same_physical Int64 logical layer = same_int64 logical layer
  same_physical Int96 logical layer = same_int96 layer
  same_physical Float logical layer = refl
  same_physical Double logical layer = refl
  same_physical ByteArray logical layer = same_byte_array layer
  same_physical (FixedLenByteArray size) logical layer = same_fixed size layer

  same_page : (physical : PhysicalType) (logical : Option PrimitiveLogicalType) (layer : Layer) → page_from_physical physical logical (over layer) ≡ page_from_physical physical logical layer
  same_page Boolean logical layer = same_boolean layer
  same_page Int32 logical layer = same_int32 layer
  same_page Int64 logical layer = same_int64 logical layer
  same_page Int96 logical layer = same_page_int96 layer
  same_page Float logical layer = refl
  same_page Double logical layer = refl
  same_page ByteArray logical layer = same_byte_array layer
  same_page (FixedLenByteArray size) logical layer = same_page_fixed size layer

-- ---- the conversions of ends

abbrev pub leaf_here : PhysicalType → Option PrimitiveLogicalType → Layer → Found
leaf_here physical logical DataType-F.Null = Some Nulls
leaf_here physical logical (DataType-F.Dictionary key value ordered) = leaf_conversion physical logical value
leaf_here physical logical layer = from_physical physical logical layer

pub leaf_out : (physical : PhysicalType) (logical : Option PrimitiveLogicalType) (data_type : DataType) → leaf_conversion physical logical data_type ≡ leaf_here physical logical (out-DataType data_type)
unfolding leaf_conversion
leaf_out physical logical data_type = fold_out-DataType Found Found (leaf_end_at physical logical) field_found data_type ∙ alike (out-DataType data_type) where
  inside : Field → Found
  inside field = fold-Field Found Found (leaf_end_at physical logical) field_found field

  alike : (layer : Layer) → leaf_end_at physical logical (over (leaf_conversion physical logical) inside layer) ≡ leaf_here physical logical layer
  alike DataType-F.Null = refl
  alike (DataType-F.Dictionary key value ordered) = refl
  alike layer = same_physical (leaf_conversion physical logical) inside physical logical layer

pub leaf_of_entries : (physical : PhysicalType) (logical : Option PrimitiveLogicalType) (key : IntegerType) (value : DataType) (ordered : Bool) → leaf_conversion physical logical (type.Dictionary key value ordered) ≡ leaf_conversion physical logical value
unfolding type.out-DataType denote.Hole.Carrier.out Rattle.columns_core.specs.declared.data_type.DataType.TheBlock.shown-the_row-DataType-0 denote.Hole.Carrier.shown denote.Hole.Carrier.hidden
leaf_of_entries physical logical key value ordered = leaf_out physical logical (type.Dictionary key value ordered)

abbrev pub page_here : PhysicalType → Option PrimitiveLogicalType → Layer → Found
page_here physical logical (DataType-F.Dictionary key value ordered) = page_conversion physical logical value
page_here physical logical layer = page_from_physical physical logical layer

pub page_out : (physical : PhysicalType) (logical : Option PrimitiveLogicalType) (data_type : DataType) → page_conversion physical logical data_type ≡ page_here physical logical (out-DataType data_type)
unfolding page_conversion
page_out physical logical data_type = fold_out-DataType Found Found (page_end_at physical logical) field_found data_type ∙ alike (out-DataType data_type) where
  inside : Field → Found
  inside field = fold-Field Found Found (page_end_at physical logical) field_found field

  alike : (layer : Layer) → page_end_at physical logical (over (page_conversion physical logical) inside layer) ≡ page_here physical logical layer
  alike (DataType-F.Dictionary key value ordered) = refl
  alike layer = same_page (page_conversion physical logical) inside physical logical layer

pub page_of_entries : (physical : PhysicalType) (logical : Option PrimitiveLogicalType) (key : IntegerType) (value : DataType) (ordered : Bool) → page_conversion physical logical (type.Dictionary key value ordered) ≡ page_conversion physical logical value
unfolding type.out-DataType denote.Hole.Carrier.out Rattle.columns_core.specs.declared.data_type.DataType.TheBlock.shown-the_row-DataType-0 denote.Hole.Carrier.shown denote.Hole.Carrier.hidden
page_of_entries physical logical key value ordered = page_out physical logical (type.Dictionary key value ordered)

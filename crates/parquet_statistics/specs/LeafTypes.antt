-- The columns inside a type: which there are, and the type that each is read as.
use Rattle.std.specs.Prelude.{ℕ, ◌==◌, ◌&&◌, List, [], ◌∷◌, Bool, true, false, flat_map, sum_by}
use Rattle.std.specs.List.{list_all, list_any}
use Rattle.columns_core.specs.declared.data_type.DataType.{DataType, Null, fold-DataType, map-DataType, roll-DataType}
use Rattle.columns_core.specs.declared.data_type.DataType.TheOpen.{DataType-F, Field-F}
use Rattle.columns_core.specs.declared.data_type.Field.{Field}
use Rattle.parquet_meta.specs.Indexes.{begins_with}
use Rattle.parquet_meta.specs.declared.metadata.ColumnChunkMetaData.{ColumnChunkMetaData}

-- a field has a column where the path of one begins with its name
abbrev pub has_column : List ColumnChunkMetaData → Field → Bool
has_column columns field = list_any (begins_with field.name) columns

-- ---- what a type is made of, by its outermost constructor

-- Values of one column; or the entries of a dictionary, the items of a list, the pairs of a map, the fields of a struct.
pub data Inside (A : Type 0) : Type 0 where
  Values : Inside A
  Entries : A → Inside A
  Items : A → Inside A
  Pairs : A → Inside A
  Fields : List A → Inside A

abbrev pub inside_at : {A : Type 0} → DataType-F A A → Inside A
inside_at DataType-F.Null = Values
inside_at DataType-F.Boolean = Values
inside_at DataType-F.Int8 = Values
inside_at DataType-F.Int16 = Values
inside_at DataType-F.Int32 = Values
inside_at DataType-F.Int64 = Values
inside_at DataType-F.UInt8 = Values
inside_at DataType-F.UInt16 = Values
inside_at DataType-F.UInt32 = Values
inside_at DataType-F.UInt64 = Values
inside_at DataType-F.Date32 = Values
inside_at DataType-F.Date64 = Values
inside_at (DataType-F.Time32 unit) = Values
inside_at (DataType-F.Time64 unit) = Values
inside_at (DataType-F.Duration unit) = Values
inside_at (DataType-F.Timestamp unit time_zone) = Values
inside_at (DataType-F.Interval unit) = Values
inside_at (DataType-F.Decimal precision scale) = Values
inside_at DataType-F.Utf8 = Values
inside_at DataType-F.LargeUtf8 = Values
inside_at DataType-F.Binary = Values
inside_at DataType-F.LargeBinary = Values
inside_at (DataType-F.FixedSizeBinary size) = Values
inside_at (DataType-F.Dictionary key value ordered) = Entries value
inside_at (DataType-F.List field) = Items field
inside_at (DataType-F.LargeList field) = Items field
inside_at (DataType-F.Struct fields) = Fields fields
inside_at (DataType-F.Map field is_sorted) = Pairs field

-- ---- the types that the columns of a field are read as, in turn

-- a type of values, which has none inside
abbrev pub bare : {A : Type 0} → DataType-F A A → DataType
bare {A} layer = roll-DataType (map-DataType A A DataType Field (λ _. Null) (λ _. record { name = []; data_type = Null; is_nullable = false }) layer)

abbrev pub leaf_types_in : DataType → Inside (List DataType) → List DataType
leaf_types_in own Values = own ∷ []
leaf_types_in own (Entries types) = types
leaf_types_in own (Items types) = types
leaf_types_in own (Pairs types) = types
leaf_types_in own (Fields fields) = flat_map (λ types. types) fields

abbrev pub leaf_types_at : DataType-F (List DataType) (List DataType) → List DataType
leaf_types_at layer = leaf_types_in (bare layer) (inside_at layer)

unfoldable pub leaf_types : DataType → List DataType
leaf_types data_type =
    fold-DataType (List DataType) (List DataType) leaf_types_at (λ (field : Field-F (List DataType) (List DataType)). field.data_type) data_type

-- ---- dictionaries of one column

-- how many columns a type has, and whether each dictionary in it has one
pub record Columned : Type 0 where
  pub leaf_count : ℕ
  pub has_single : Bool

abbrev pub columned_in : Inside Columned → Columned
columned_in Values = record { leaf_count = 1; has_single = true }
columned_in (Entries entries) = record { leaf_count = entries.leaf_count; has_single = entries.has_single && entries.leaf_count == 1 }
columned_in (Items items) = items
columned_in (Pairs pairs) = pairs
columned_in (Fields fields) = record {
  leaf_count = sum_by (λ (field : Columned). field.leaf_count) fields;
  has_single = list_all (λ (field : Columned). field.has_single) fields;
}

unfoldable pub columned : DataType → Columned
columned data_type = fold-DataType Columned Columned (λ layer. columned_in (inside_at layer)) (λ (field : Field-F Columned Columned). field.data_type) data_type

-- Each dictionary in a type has one column.
abbrev pub has_single_dictionaries : DataType → Bool
has_single_dictionaries data_type = (columned data_type).has_single

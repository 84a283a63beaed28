-- Which types there are builders of, and which builders are empty ones of a type.
use Rattle.std.specs.Prelude.{◌==◌, ◌&&◌, not, Bool, true, false, List, [], ◌∷◌, ◌++◌, length, map, flat_map, Option}
use Rattle.std.specs.Option.{option_map_or}
use Rattle.columns_core.specs.Causes.{NotYetImplemented}
use Rattle.columns_core.specs.DictionaryType.{entry_type}
use Rattle.columns_core.specs.Equal.{is_same}
use Rattle.columns_core.specs.Nested.{list_type, map_type, field_types}
use Rattle.columns_core.specs.Types.{Layer}
use Rattle.columns_core.specs.contracts.data_type.DataType.{the_row as data_type_row}
use Rattle.columns_core.specs.declared.data_type.DataType.{DataType, fold-DataType, out-DataType}
use Rattle.columns_core.specs.declared.data_type.DataType.TheOpen.{DataType-F, Field-F}
use Rattle.columns_core.specs.declared.data_type.Field.{Field}
use Rattle.flat_builders.specs.Flat.{Flatness, Flat, Sizeless, Nested, flatness}
use Rattle.parquet_statistics.specs.Refusal.{Refusal, Argument, Caused, demand}
use Rattle.parquet_statistics.specs.declared.dyn_mutable.DynMutable.{DynMutable, fold-DynMutable}
use Rattle.parquet_statistics.specs.declared.dyn_mutable.DynMutable.TheOpen.{DynMutable-F, DynMutableDictionary-F, DynMutableListArray-F, DynMutableMapArray-F, DynMutableStructArray-F}

abbrev pub is_same_type : DataType → DataType → Bool
is_same_type a b = is_same data_type_row.coded a b

-- ---- refused types

-- there has to be a field, and none may be refused
abbrev pub refusals_of_all : List (List Refusal) → List Refusal
refusals_of_all fields = demand (not (length fields == 0)) Argument ++ flat_map (λ refusals. refusals) fields

-- Bytes of a fixed size have to have some, and a struct has to have a field.
abbrev pub type_refusals_at : DataType-F (List Refusal) (List Refusal) → List Refusal
type_refusals_at DataType-F.Null = []
type_refusals_at DataType-F.Boolean = []
type_refusals_at DataType-F.Int8 = []
type_refusals_at DataType-F.Int16 = []
type_refusals_at DataType-F.Int32 = []
type_refusals_at DataType-F.Int64 = []
type_refusals_at DataType-F.UInt8 = []
type_refusals_at DataType-F.UInt16 = []
type_refusals_at DataType-F.UInt32 = []
type_refusals_at DataType-F.UInt64 = []
type_refusals_at DataType-F.Date32 = []
type_refusals_at DataType-F.Date64 = []
type_refusals_at (DataType-F.Time32 unit) = []
type_refusals_at (DataType-F.Time64 unit) = []
type_refusals_at (DataType-F.Duration unit) = []
type_refusals_at (DataType-F.Timestamp unit time_zone) = []
type_refusals_at (DataType-F.Interval unit) = []
type_refusals_at (DataType-F.Decimal precision scale) = []
type_refusals_at DataType-F.Utf8 = []
type_refusals_at DataType-F.LargeUtf8 = []
type_refusals_at DataType-F.Binary = []
type_refusals_at DataType-F.LargeBinary = []
type_refusals_at (DataType-F.FixedSizeBinary size) = demand (not (size == 0)) (Caused NotYetImplemented)
type_refusals_at (DataType-F.Dictionary key value ordered) = value
type_refusals_at (DataType-F.List field) = field
type_refusals_at (DataType-F.LargeList field) = field
type_refusals_at (DataType-F.Struct fields) = refusals_of_all fields
type_refusals_at (DataType-F.Map field is_sorted) = field

abbrev pub refusals_of_field : Field-F (List Refusal) (List Refusal) → List Refusal
refusals_of_field field = field.data_type

-- why there is no builder of a type
unfoldable pub type_refusals : DataType → List Refusal
type_refusals data_type = fold-DataType (List Refusal) (List Refusal) type_refusals_at refusals_of_field data_type

abbrev pub refusals_of_fields : List Field → List Refusal
refusals_of_fields fields = refusals_of_all (map (λ (field : Field). type_refusals field.data_type) fields)

-- why there is none of a shape, by whether the type is of this shape
abbrev pub shape_refusals : Bool → DataType → List Refusal
shape_refusals is_shape data_type = demand is_shape Argument ++ type_refusals data_type

-- ---- shapes

abbrev pub is_large_list_at : Layer → Bool
is_large_list_at (DataType-F.LargeList field) = true
is_large_list_at _ = false

abbrev pub is_large_list : DataType → Bool
is_large_list data_type = is_large_list_at (out-DataType data_type)

-- of a list type, whatever its width, the type of the items
abbrev pub item_type : DataType → Option DataType
item_type data_type = list_type (is_large_list data_type) data_type

-- ---- empty builders

-- a builder is an empty one of a type
abbrev pub OfType : Type 0
OfType = DataType → Bool

-- of this type, over one that is empty of the type inside it
abbrev pub is_empty_over : DataType → OfType → Option DataType → DataType → Bool
is_empty_over own inner inside data_type = is_same_type own data_type && option_map_or inner inside false

-- each is an empty one of the type beside it
abbrev pub are_each : List OfType → List DataType → Bool
are_each [] [] = true
are_each (builder ∷ builders) (data_type ∷ types) = builder data_type && are_each builders types
are_each [] (data_type ∷ types) = false
are_each (builder ∷ builders) [] = false

abbrev pub is_flat_shape : Flatness → Bool
is_flat_shape Flat = true
is_flat_shape Sizeless = false
is_flat_shape Nested = false

abbrev pub is_empty_at : DynMutable-F OfType OfType OfType OfType OfType → OfType
is_empty_at (DynMutable-F.Flat builder) data_type = is_same_type builder.0 data_type && is_flat_shape (flatness data_type) && length builder.1 == 0
is_empty_at (DynMutable-F.Dictionary entries) data_type = entries data_type
is_empty_at (DynMutable-F.List items) data_type = items data_type
is_empty_at (DynMutable-F.Map pairs) data_type = pairs data_type
is_empty_at (DynMutable-F.Struct fields) data_type = fields data_type

abbrev pub is_empty_dictionary : DynMutableDictionary-F OfType OfType OfType OfType OfType → OfType
is_empty_dictionary entries data_type = is_empty_over entries.data_type entries.inner.value (entry_type data_type) data_type

abbrev pub is_empty_list : DynMutableListArray-F OfType OfType OfType OfType OfType → OfType
is_empty_list items data_type = is_empty_over items.data_type items.inner.value (item_type data_type) data_type

abbrev pub is_empty_map : DynMutableMapArray-F OfType OfType OfType OfType OfType → OfType
is_empty_map pairs data_type = is_empty_over pairs.data_type pairs.inner.value (map_type data_type) data_type

abbrev pub is_empty_struct : DynMutableStructArray-F OfType OfType OfType OfType OfType → OfType
is_empty_struct fields data_type =
    is_same_type fields.data_type data_type && option_map_or (are_each fields.inner.items) (field_types data_type) false

-- An empty builder of a type: nothing was appended to the flat builders inside it, and those inside it are empty builders of the types inside it.
unfoldable pub is_empty_of : DataType → DynMutable → Bool
is_empty_of data_type builder =
    fold-DynMutable OfType OfType OfType OfType OfType is_empty_at is_empty_dictionary is_empty_list is_empty_map is_empty_struct builder data_type

-- builders of some fields, in turn
abbrev pub are_empty_of : List Field → List DynMutable → Bool
are_empty_of fields builders = are_each (map (λ builder data_type. is_empty_of data_type builder) builders) (map (λ (field : Field). field.data_type) fields)

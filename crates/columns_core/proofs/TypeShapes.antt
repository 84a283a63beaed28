-- What lies in equal types is equal.
use Rattle.std.proofs.Common.{◌≡◌, Bool, List, sym, ◌∙◌, ap}
use Rattle.columns_core.specs.Types.{Layer}
use Rattle.columns_core.specs.declared.data_type.DataType.{DataType, Dictionary, List as ListType, LargeList, Struct, Map, out-DataType, out-roll-DataType}
use Rattle.columns_core.specs.declared.data_type.DataType.TheOpen.{DataType-F}
use denote.Hole.Carrier
use Rattle.columns_core.specs.declared.data_type.DataType.TheViews
use Rattle.columns_core.specs.declared.data_type.DataType.TheVariants.{rolls-Dictionary, rolls-List, rolls-LargeList, rolls-Struct, rolls-Map}
use Rattle.columns_core.specs.declared.data_type.Field.{Field}
use Rattle.columns_core.specs.declared.data_type.IntegerType.{IntegerType}

-- what lies in a layer, or this where it has no such
abbrev value_in : DataType → Layer → DataType
value_in other (DataType-F.Dictionary key value is_ordered) = value
value_in other _ = other

abbrev field_in : Field → Layer → Field
field_in other (DataType-F.List field) = field
field_in other (DataType-F.LargeList field) = field
field_in other (DataType-F.Map field is_sorted) = field
field_in other _ = other

abbrev fields_in : List Field → Layer → List Field
fields_in other (DataType-F.Struct fields) = fields
fields_in other _ = other

module _ (key : IntegerType) (is_ordered : Bool) where
  out_dictionary : (value : DataType) → out-DataType (Dictionary key value is_ordered) ≡ DataType-F.Dictionary key value is_ordered
  unfolding Rattle.columns_core.specs.declared.data_type.DataType.TheViews.roll-DataType out-DataType denote.Hole.Carrier.roll
  out_dictionary value = ap out-DataType (rolls-Dictionary key value is_ordered) ∙ out-roll-DataType (DataType-F.Dictionary key value is_ordered)

  pub same_value : (a b : DataType) → Dictionary key a is_ordered ≡ Dictionary key b is_ordered → a ≡ b
  same_value a b e = sym (ap (value_in a) (out_dictionary a)) ∙ ap (λ type. value_in a (out-DataType type)) e ∙ ap (value_in a) (out_dictionary b)

out_list : (field : Field) → out-DataType (ListType field) ≡ DataType-F.List field
unfolding Rattle.columns_core.specs.declared.data_type.DataType.TheViews.roll-DataType out-DataType denote.Hole.Carrier.roll
out_list field = ap out-DataType (rolls-List field) ∙ out-roll-DataType (DataType-F.List field)

pub same_item : (a b : Field) → ListType a ≡ ListType b → a ≡ b
same_item a b e = sym (ap (field_in a) (out_list a)) ∙ ap (λ type. field_in a (out-DataType type)) e ∙ ap (field_in a) (out_list b)

out_large : (field : Field) → out-DataType (LargeList field) ≡ DataType-F.LargeList field
unfolding Rattle.columns_core.specs.declared.data_type.DataType.TheViews.roll-DataType out-DataType denote.Hole.Carrier.roll
out_large field = ap out-DataType (rolls-LargeList field) ∙ out-roll-DataType (DataType-F.LargeList field)

pub same_large_item : (a b : Field) → LargeList a ≡ LargeList b → a ≡ b
same_large_item a b e = sym (ap (field_in a) (out_large a)) ∙ ap (λ type. field_in a (out-DataType type)) e ∙ ap (field_in a) (out_large b)

out_struct : (fields : List Field) → out-DataType (Struct fields) ≡ DataType-F.Struct fields
unfolding Rattle.columns_core.specs.declared.data_type.DataType.TheViews.roll-DataType out-DataType denote.Hole.Carrier.roll
out_struct fields = ap out-DataType (rolls-Struct fields) ∙ out-roll-DataType (DataType-F.Struct fields)

pub same_fields : (a b : List Field) → Struct a ≡ Struct b → a ≡ b
same_fields a b e = sym (ap (fields_in a) (out_struct a)) ∙ ap (λ type. fields_in a (out-DataType type)) e ∙ ap (fields_in a) (out_struct b)

module _ (is_sorted : Bool) where
  out_map : (field : Field) → out-DataType (Map field is_sorted) ≡ DataType-F.Map field is_sorted
  unfolding Rattle.columns_core.specs.declared.data_type.DataType.TheViews.roll-DataType out-DataType denote.Hole.Carrier.roll
  out_map field = ap out-DataType (rolls-Map field is_sorted) ∙ out-roll-DataType (DataType-F.Map field is_sorted)

  pub same_pair : (a b : Field) → Map a is_sorted ≡ Map b is_sorted → a ≡ b
  same_pair a b e = sym (ap (field_in a) (out_map a)) ∙ ap (λ type. field_in a (out-DataType type)) e ∙ ap (field_in a) (out_map b)

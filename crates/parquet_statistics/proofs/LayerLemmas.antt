-- What lies inside a type, by its outermost constructor, and what is defined by that alone.
use Rattle.std.proofs.Common.{◌≡◌, refl, sym, ◌∙◌, ap, ℕ, zero, suc, ◌<◌, Bool, List, [], ◌∷◌, ◌++◌, map, arith}
use Rattle.std.specs.Prelude.{⊤, flat_map}
use Rattle.std.specs.List.{AllByRecursion}
use Rattle.columns_core.specs.Depth.{depth, largest, entry_less_deep, fields_less_deep, item_less_deep}
use Rattle.columns_core.specs.DictionaryType.{entry_type_at}
use Rattle.columns_core.specs.Nested.{field_types_at, joined_type_at}
use Rattle.columns_core.specs.Types.{Layer}
use Rattle.columns_core.specs.declared.data_type.DataType.{DataType, Dictionary, List as ListType, LargeList, Struct, Map, fold-DataType, fold_out-DataType, map-DataType, out-DataType, out-roll-DataType, roll-out-DataType, roll-DataType}
use Rattle.columns_core.specs.declared.data_type.DataType.TheOpen.{DataType-F, Field-F}
use denote.Hole.Carrier
use Rattle.columns_core.specs.declared.data_type.DataType.TheViews
use Rattle.columns_core.specs.declared.data_type.DataType.TheVariants.{rolls-Dictionary, rolls-List, rolls-LargeList, rolls-Struct, rolls-Map}
use Rattle.columns_core.specs.declared.data_type.Field.{Field, fold-Field, fold_out-Field}
use Rattle.columns_core.specs.declared.data_type.IntegerType.{IntegerType}
use Rattle.parquet_statistics.specs.LeafTypes.{Inside, Values, Entries, Items, Pairs, Fields, inside_at, leaf_types, leaf_types_at, leaf_types_in}

abbrev pub type_of_field : Field → DataType
type_of_field field = field.data_type

abbrev pub map_inside : {A B : Type 0} → (A → B) → Inside A → Inside B
map_inside f Values = Values
map_inside f (Entries entries) = Entries (f entries)
map_inside f (Items items) = Items (f items)
map_inside f (Pairs pairs) = Pairs (f pairs)
map_inside f (Fields fields) = Fields (map f fields)

-- the types inside a type
abbrev pub inside_layer : Layer → Inside DataType
inside_layer layer = inside_at (map-DataType DataType Field DataType DataType (λ data_type. data_type) type_of_field layer)

abbrev pub inside_of : DataType → Inside DataType
inside_of data_type = inside_layer (out-DataType data_type)

-- ---- by the constructor of a type

module _ (key : IntegerType) (value : DataType) (ordered : Bool) where
  pub dictionary_out : out-DataType (Dictionary key value ordered) ≡ DataType-F.Dictionary key value ordered
  unfolding Rattle.columns_core.specs.declared.data_type.DataType.TheViews.roll-DataType out-DataType denote.Hole.Carrier.roll
  dictionary_out = ap out-DataType (rolls-Dictionary key value ordered) ∙ out-roll-DataType (DataType-F.Dictionary key value ordered)

  pub inside_dictionary : inside_of (Dictionary key value ordered) ≡ Entries value
  inside_dictionary = ap inside_layer dictionary_out

module _ (field : Field) where
  pub list_out : out-DataType (ListType field) ≡ DataType-F.List field
  unfolding Rattle.columns_core.specs.declared.data_type.DataType.TheViews.roll-DataType out-DataType denote.Hole.Carrier.roll
  list_out = ap out-DataType (rolls-List field) ∙ out-roll-DataType (DataType-F.List field)

  pub inside_list : inside_of (ListType field) ≡ Items field.data_type
  inside_list = ap inside_layer list_out

  pub large_out : out-DataType (LargeList field) ≡ DataType-F.LargeList field
  unfolding Rattle.columns_core.specs.declared.data_type.DataType.TheViews.roll-DataType out-DataType denote.Hole.Carrier.roll
  large_out = ap out-DataType (rolls-LargeList field) ∙ out-roll-DataType (DataType-F.LargeList field)

  pub inside_large : inside_of (LargeList field) ≡ Items field.data_type
  inside_large = ap inside_layer large_out

  module _ (is_sorted : Bool) where
    pub map_out : out-DataType (Map field is_sorted) ≡ DataType-F.Map field is_sorted
    unfolding Rattle.columns_core.specs.declared.data_type.DataType.TheViews.roll-DataType out-DataType denote.Hole.Carrier.roll
    map_out = ap out-DataType (rolls-Map field is_sorted) ∙ out-roll-DataType (DataType-F.Map field is_sorted)

    pub inside_map : inside_of (Map field is_sorted) ≡ Pairs field.data_type
    inside_map = ap inside_layer map_out

module _ (fields : List Field) where
  pub struct_out : out-DataType (Struct fields) ≡ DataType-F.Struct fields
  unfolding Rattle.columns_core.specs.declared.data_type.DataType.TheViews.roll-DataType out-DataType denote.Hole.Carrier.roll
  struct_out = ap out-DataType (rolls-Struct fields) ∙ out-roll-DataType (DataType-F.Struct fields)

  pub inside_struct : inside_of (Struct fields) ≡ Fields (map type_of_field fields)
  inside_struct = ap inside_layer struct_out

module _ (data_type : DataType) (no_dictionary : (key : IntegerType) (value : DataType) (ordered : Bool) → data_type ≡ Dictionary key value ordered → ⊥) (no_list : (field : Field) → data_type ≡ ListType field → ⊥)
    (no_large : (field : Field) → data_type ≡ LargeList field → ⊥) (no_struct : (fields : List Field) → data_type ≡ Struct fields → ⊥) (no_map : (field : Field) (is_sorted : Bool) → data_type ≡ Map field is_sorted → ⊥) where
  rolled : (layer : Layer) → out-DataType data_type ≡ layer → data_type ≡ roll-DataType layer
  rolled layer e = sym (roll-out-DataType data_type) ∙ ap roll-DataType e

  of_values : (layer : Layer) → out-DataType data_type ≡ layer → inside_layer layer ≡ Values
  unfolding Rattle.columns_core.specs.declared.data_type.DataType.TheViews.roll-DataType out-DataType denote.Hole.Carrier.roll
  of_values (DataType-F.Dictionary key value ordered) e = absurd (no_dictionary key value ordered (rolled (DataType-F.Dictionary key value ordered) e ∙ sym (rolls-Dictionary key value ordered)))
  of_values (DataType-F.List field) e = absurd (no_list field (rolled (DataType-F.List field) e ∙ sym (rolls-List field)))
  of_values (DataType-F.LargeList field) e = absurd (no_large field (rolled (DataType-F.LargeList field) e ∙ sym (rolls-LargeList field)))
  of_values (DataType-F.Struct fields) e = absurd (no_struct fields (rolled (DataType-F.Struct fields) e ∙ sym (rolls-Struct fields)))
  of_values (DataType-F.Map field is_sorted) e = absurd (no_map field is_sorted (rolled (DataType-F.Map field is_sorted) e ∙ sym (rolls-Map field is_sorted)))
  of_values _ e = refl

  pub inside_values : inside_of data_type ≡ Values
  inside_values = of_values (out-DataType data_type) refl

-- ---- what is defined by the types inside alone

module _ {A : Type 0} (step : Inside A → A) where
  abbrev pub folded : DataType → A
  folded data_type = fold-DataType A A (λ layer. step (inside_at layer)) (λ (field : Field-F A A). field.data_type) data_type

  abbrev of_field : Field → A
  of_field field = fold-Field A A (λ layer. step (inside_at layer)) (λ (field : Field-F A A). field.data_type) field

  of_field_is : (field : Field) → of_field field ≡ folded field.data_type
  of_field_is field = fold_out-Field A A (λ layer. step (inside_at layer)) (λ (field : Field-F A A). field.data_type) field

  each_is : (fields : List Field) → map of_field fields ≡ map folded (map type_of_field fields)
  each_is [] = refl
  each_is (field ∷ fields) = λ i. of_field_is field i ∷ each_is fields i

  at_layer : (layer : Layer) → inside_at (map-DataType DataType Field A A folded of_field layer) ≡ map_inside folded (inside_layer layer)
  at_layer (DataType-F.Dictionary key value ordered) = refl
  at_layer (DataType-F.List field) = ap Items (of_field_is field)
  at_layer (DataType-F.LargeList field) = ap Items (of_field_is field)
  at_layer (DataType-F.Map field is_sorted) = ap Pairs (of_field_is field)
  at_layer (DataType-F.Struct fields) = ap Fields (each_is fields)
  at_layer _ = refl

  pub folded_out : (data_type : DataType) → folded data_type ≡ step (map_inside folded (inside_of data_type))
  folded_out data_type =
      fold_out-DataType A A (λ layer. step (inside_at layer)) (λ (field : Field-F A A). field.data_type) data_type ∙ ap step (at_layer (out-DataType data_type))

-- ---- the types of its columns

abbrev Types : Type 0
Types = List DataType

abbrev types_of : Field-F Types Types → Types
types_of field = field.data_type

abbrev types_of_field : Field → Types
types_of_field field = fold-Field Types Types leaf_types_at types_of field

types_of_field_is : (field : Field) → types_of_field field ≡ leaf_types field.data_type
unfolding leaf_types
types_of_field_is field = fold_out-Field Types Types leaf_types_at types_of field

each_of_types : (fields : List Field) → map types_of_field fields ≡ map leaf_types (map type_of_field fields)
each_of_types [] = refl
each_of_types (field ∷ fields) = λ i. types_of_field_is field i ∷ each_of_types fields i

types_at : (layer : Layer) → leaf_types_at (map-DataType DataType Field Types Types leaf_types types_of_field layer) ≡ leaf_types_in (roll-DataType layer) (map_inside leaf_types (inside_layer layer))
types_at (DataType-F.Dictionary key value ordered) = refl
types_at (DataType-F.List field) = types_of_field_is field
types_at (DataType-F.LargeList field) = types_of_field_is field
types_at (DataType-F.Map field is_sorted) = types_of_field_is field
types_at (DataType-F.Struct fields) = ap (flat_map (λ types. types)) (each_of_types fields)
types_at _ = refl

abbrev pub types_by : DataType → Inside DataType → Types
types_by own inside = leaf_types_in own (map_inside leaf_types inside)

pub types_out : (data_type : DataType) → leaf_types data_type ≡ types_by data_type (inside_of data_type)
unfolding leaf_types
types_out data_type =
    fold_out-DataType Types Types leaf_types_at types_of data_type
    ∙ types_at (out-DataType data_type)
    ∙ ap (λ own. types_by own (inside_of data_type)) (roll-out-DataType data_type)

-- those of types in turn
abbrev pub types_inside : List Field → List DataType
types_inside fields = flat_map (λ (field : Field). leaf_types field.data_type) fields

joined_types : (fields : List Field) → flat_map (λ types. types) (map leaf_types (map type_of_field fields)) ≡ types_inside fields
joined_types [] = refl
joined_types (field ∷ fields) = ap (λ types. leaf_types field.data_type ++ types) (joined_types fields)

module _ (data_type : DataType) (inside : Inside DataType) (is : inside_of data_type ≡ inside) where
  types_is : leaf_types data_type ≡ types_by data_type inside
  types_is = types_out data_type ∙ ap (types_by data_type) is

pub types_of_dictionary : (key : IntegerType) (value : DataType) (ordered : Bool) → leaf_types (Dictionary key value ordered) ≡ leaf_types value
types_of_dictionary key value ordered = types_is (Dictionary key value ordered) (Entries value) (inside_dictionary key value ordered)

pub types_of_list : (field : Field) → leaf_types (ListType field) ≡ leaf_types field.data_type
types_of_list field = types_is (ListType field) (Items field.data_type) (inside_list field)

pub types_of_large : (field : Field) → leaf_types (LargeList field) ≡ leaf_types field.data_type
types_of_large field = types_is (LargeList field) (Items field.data_type) (inside_large field)

pub types_of_map : (field : Field) (is_sorted : Bool) → leaf_types (Map field is_sorted) ≡ leaf_types field.data_type
types_of_map field is_sorted = types_is (Map field is_sorted) (Pairs field.data_type) (inside_map field is_sorted)

pub types_of_struct : (fields : List Field) → leaf_types (Struct fields) ≡ types_inside fields
types_of_struct fields = types_is (Struct fields) (Fields (map type_of_field fields)) (inside_struct fields) ∙ joined_types fields

pub types_of_values : (data_type : DataType) → inside_of data_type ≡ Values → leaf_types data_type ≡ data_type ∷ []
types_of_values data_type is = types_is data_type Values is

-- ---- induction

-- each type inside
abbrev pub AllInside : (DataType → Type 0) → Inside DataType → Type 0
AllInside P Values = ⊤
AllInside P (Entries entries) = P entries
AllInside P (Items items) = P items
AllInside P (Pairs pairs) = P pairs
AllInside P (Fields fields) = AllByRecursion P fields

each_below : (types : List DataType) (n : ℕ) → largest (map depth types) < n → AllByRecursion (λ inner. depth inner < n) types
each_below [] n h = tt
each_below (data_type ∷ types) n h = (omega (arith, h), each_below types n (omega (arith, h)))

-- is less deep
falls : (data_type : DataType) (layer : Layer) → out-DataType data_type ≡ layer → AllInside (λ inner. depth inner < depth data_type) (inside_layer layer)
falls data_type (DataType-F.Dictionary key value ordered) is = omega (arith, entry_less_deep data_type value (ap entry_type_at is))
falls data_type (DataType-F.List field) is = omega (arith, item_less_deep data_type field.data_type (ap joined_type_at is))
falls data_type (DataType-F.LargeList field) is = omega (arith, item_less_deep data_type field.data_type (ap joined_type_at is))
falls data_type (DataType-F.Map field is_sorted) is = omega (arith, item_less_deep data_type field.data_type (ap joined_type_at is))
falls data_type (DataType-F.Struct fields) is =
    each_below (map type_of_field fields) (depth data_type) (omega (arith, fields_less_deep data_type (map type_of_field fields) (ap field_types_at is)))
falls data_type _ is = tt

module _ (P : DataType → Type 0) where
  all_of_fields : (n d : ℕ) → ((inner : DataType) → depth inner < n → P inner) → d < suc n → (types : List DataType) → AllByRecursion (λ inner. depth inner < d) types → AllByRecursion P types
  all_of_fields n d below h [] all = tt
  all_of_fields n d below h (data_type ∷ types) all = (below data_type (omega (arith, h, all.0)), all_of_fields n d below h types all.1)

  all_inside : (n d : ℕ) → ((inner : DataType) → depth inner < n → P inner) → d < suc n → (inside : Inside DataType) → AllInside (λ inner. depth inner < d) inside → AllInside P inside
  all_inside n d below h Values all = tt
  all_inside n d below h (Entries entries) all = below entries (omega (arith, h, all))
  all_inside n d below h (Items items) all = below items (omega (arith, h, all))
  all_inside n d below h (Pairs pairs) all = below pairs (omega (arith, h, all))
  all_inside n d below h (Fields fields) all = all_of_fields n d below h fields all

  module _ (step : (data_type : DataType) → AllInside P (inside_of data_type) → P data_type) where
    up_to : (n : ℕ) (data_type : DataType) → depth data_type < n → P data_type
    up_to zero data_type h = absurd (omega (arith, h))
    up_to (suc n) data_type h = step data_type (all_inside n (depth data_type) (up_to n) h (inside_of data_type) (falls data_type (out-DataType data_type) refl))

    -- What holds of each type inside a type, and so of the type, holds of every type.
    pub every_type : (data_type : DataType) → P data_type
    every_type data_type = up_to (suc (depth data_type)) data_type (omega arith)

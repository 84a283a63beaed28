-- The array of a type from what is made inside it, and what is refused of it.
use Rattle.std.proofs.Common.{◌≡◌, refl, sym, ◌∙◌, ap, subst, ℕ, zero, suc, ◌≤◌, Bool, List, [], ◌∷◌, ◌++◌, drop, take, length, map, Option, Some, None, Ok, Err, inl, append_assoc, arith}
use Rattle.std.specs.Prelude.{IfErr, IfOk, OnOk, Result, flat_map, option_map}
use Rattle.std.proofs.lemmas.List.{append-nil, drop-drop, length-append, map-append}
use Rattle.columns_core.specs.Array.{cells, data_type_of}
use Rattle.columns_core.specs.Causes.{IsWantOfMemory}
use Rattle.columns_core.specs.DictionaryType.{entry_type}
use Rattle.columns_core.specs.Nested.{field_types, map_type}
use Rattle.columns_core.specs.declared.array.Array.{Array}
use Rattle.columns_core.specs.declared.cell.Cell.{Cell}
use Rattle.columns_core.specs.declared.data_type.DataType.{DataType, Dictionary, List as ListType, LargeList, Struct, Map}
use Rattle.columns_core.specs.declared.data_type.Field.{Field}
use Rattle.columns_core.specs.declared.data_type.IntegerType.{IntegerType}
use Rattle.columns_core.specs.declared.error.Error.{Error}
use Rattle.parquet_base.specs.Reading.{◌>>=◌}
use Rattle.parquet_statistics.specs.BuiltTypes.{item_type}
use Rattle.parquet_statistics.specs.LeafTypes.{Values, Entries, Items, Pairs, Fields, leaf_types}
use Rattle.parquet_statistics.specs.Made.{Made, dictionary_made, freely_made, list_made, made_array, made_refusals, map_made, struct_made}
use Rattle.parquet_statistics.specs.Parts.{shaped_each, AreOfTypes, AreShapesRefused, IsShapeRefused}
use Rattle.parquet_statistics.specs.Refusal.{IsRefusedBy}
use Rattle.parquet_statistics.specs.Shaped.{shaped, values_shaped}
use Rattle.parquet_statistics.proofs.LayerLemmas.{inside_dictionary, inside_large, inside_list, inside_map, inside_of, inside_struct, type_of_field, types_inside, types_of_dictionary, types_of_large, types_of_list, types_of_map, types_of_struct, types_of_values}
use Rattle.parquet_statistics.proofs.RefusalLemmas.{refused_left, refused_right}
use Rattle.parquet_statistics.proofs.ShapedLemmas.{Found, around, around_all, shaped_entries, shaped_fields, shaped_items, shaped_pairs, shaped_values}
use Rattle.parquet_statistics.proofs.TypeRefusals.{entry_of_dictionary, fields_of_struct, item_of_large, item_of_list, pairs_of_map}

-- ---- an array over another

-- A type is made over one inside it, which has the same columns, and what that refuses is refused.
pub record IsOver (data_type inner : DataType) (make : Made → Made) : Type 0 where
  pub over : (columns : List (List Cell)) → shaped data_type columns ≡ around make (shaped inner columns)
  pub types : leaf_types data_type ≡ leaf_types inner
  pub keeps : (e : Error) (made : Made) → IsRefusedBy made.refusals e → IsRefusedBy (make made).refusals e

pub over_dictionary : (data_type inner : DataType) (key : IntegerType) (value : DataType) (ordered : Bool) → data_type ≡ Dictionary key value ordered → inner ≡ value → IsOver data_type inner (dictionary_made data_type)
over_dictionary data_type inner key value ordered is same = record {
  over = λ columns. shaped_entries data_type columns inner (ap inside_of is ∙ inside_dictionary key value ordered ∙ ap Entries (sym same)) (ap entry_type is ∙ entry_of_dictionary key value ordered ∙ ap Some (sym same));
  types = ap leaf_types is ∙ types_of_dictionary key value ordered ∙ ap leaf_types (sym same);
  keeps = λ e made refused. refused_left e made.refusals _ refused;
}

pub over_list : (data_type : DataType) (inner field : Field) → data_type ≡ ListType field → inner ≡ field → IsOver data_type inner.data_type (list_made data_type)
over_list data_type inner field is same = record {
  over = λ columns. shaped_items data_type columns inner.data_type (ap inside_of is ∙ inside_list field ∙ ap (λ (own : Field). Items own.data_type) (sym same)) (ap item_type is ∙ item_of_list field ∙ ap (λ (own : Field). Some own.data_type) (sym same));
  types = ap leaf_types is ∙ types_of_list field ∙ ap (λ (own : Field). leaf_types own.data_type) (sym same);
  keeps = λ e made refused. refused_left e made.refusals _ refused;
}

pub over_large : (data_type : DataType) (inner field : Field) → data_type ≡ LargeList field → inner ≡ field → IsOver data_type inner.data_type (list_made data_type)
over_large data_type inner field is same = record {
  over = λ columns. shaped_items data_type columns inner.data_type (ap inside_of is ∙ inside_large field ∙ ap (λ (own : Field). Items own.data_type) (sym same)) (ap item_type is ∙ item_of_large field ∙ ap (λ (own : Field). Some own.data_type) (sym same));
  types = ap leaf_types is ∙ types_of_large field ∙ ap (λ (own : Field). leaf_types own.data_type) (sym same);
  keeps = λ e made refused. refused_left e made.refusals _ refused;
}

pub over_map : (data_type : DataType) (inner field : Field) (is_sorted : Bool) → data_type ≡ Map field is_sorted → inner ≡ field → IsOver data_type inner.data_type (map_made data_type)
over_map data_type inner field is_sorted is same = record {
  over = λ columns. shaped_pairs data_type columns inner.data_type (ap inside_of is ∙ inside_map field is_sorted ∙ ap (λ (own : Field). Pairs own.data_type) (sym same)) (ap map_type is ∙ pairs_of_map field is_sorted ∙ ap (λ (own : Field). Some own.data_type) (sym same));
  types = ap leaf_types is ∙ types_of_map field is_sorted ∙ ap (λ (own : Field). leaf_types own.data_type) (sym same);
  keeps = λ e made refused. refused_left e made.refusals _ refused;
}

refused_around : (make : Made → Made) (e : Error) → ((made : Made) → IsRefusedBy made.refusals e → IsRefusedBy (make made).refusals e) → (found : Found) → IsShapeRefused found e → IsShapeRefused (around make found) e
refused_around make e keeps None refused = tt
refused_around make e keeps (Some found) refused = keeps found.0 refused

module _ (data_type inner : DataType) (make : Made → Made) (is : IsOver data_type inner make) (before after : List Array) where
  pub leads_inside : AreOfTypes (leaf_types data_type) before → AreOfTypes (leaf_types inner) before
  leads_inside leads = subst (λ types. AreOfTypes types before) is.types leads

  pub refused_inside : (e : Error) → IsShapeRefused (shaped inner (map cells before)) e → IsShapeRefused (shaped data_type (map cells before)) e
  refused_inside e refused =
      subst (λ found. IsShapeRefused found e) (sym (is.over (map cells before))) (refused_around make e (is.keeps e) (shaped inner (map cells before)) refused)

  pub left_inside : after ≡ drop (length (leaf_types inner)) before → after ≡ drop (length (leaf_types data_type)) before
  left_inside left = left ∙ ap (λ types. drop (length types) before) (sym is.types)

  module _ (array : Array) (found : shaped inner (map cells before) ≡ Some (made_array array, map cells after)) where
    whole : shaped data_type (map cells before) ≡ Some (make (made_array array), map cells after)
    whole = is.over (map cells before) ∙ ap (around make) found

    pub array_over : (r : Result Array Error) → IfOk r (λ own. make (made_array array) ≡ made_array own) → IfOk r (λ own. shaped data_type (map cells before) ≡ Some (made_array own, map cells after))
    array_over (Ok own) made = whole ∙ ap (λ all. Some (all, map cells after)) made
    array_over (Err e) made = tt

    pub refused_over : (r : Result Array Error) → IfErr r (IsRefusedBy (make (made_array array)).refusals) → IfErr r (IsShapeRefused (shaped data_type (map cells before)))
    refused_over (Ok own) refused = tt
    refused_over (Err e) refused = subst (λ found. IsShapeRefused found e) (sym whole) refused

-- ---- a struct

module _ (data_type : DataType) (own fields : List Field) (is : data_type ≡ Struct fields) (same : own ≡ fields) (before after : List Array) where
  struct_types : leaf_types data_type ≡ types_inside own
  struct_types = ap leaf_types is ∙ types_of_struct fields ∙ ap types_inside (sym same)

  struct_over : (columns : List (List Cell)) → shaped data_type columns ≡ around_all (struct_made data_type) (shaped_each (map type_of_field own) columns)
  struct_over columns =
      shaped_fields data_type columns (map type_of_field own) (ap inside_of is ∙ inside_struct fields ∙ ap (λ all. Fields (map type_of_field all)) (sym same))
      (ap field_types is ∙ fields_of_struct fields ∙ ap (λ (all : List Field). Some (map type_of_field all)) (sym same))

  pub leads_fields : AreOfTypes (leaf_types data_type) before → AreOfTypes (types_inside own) before
  leads_fields leads = subst (λ types. AreOfTypes types before) struct_types leads

  fields_refuse : (e : Error) (found : Option (List Made × List (List Cell))) → AreShapesRefused found e → IsShapeRefused (around_all (struct_made data_type) found) e
  fields_refuse e None refused = tt
  fields_refuse e (Some found) refused = refused_left e (flat_map made_refusals found.0) _ refused

  pub refused_fields : (e : Error) → AreShapesRefused (shaped_each (map type_of_field own) (map cells before)) e → IsShapeRefused (shaped data_type (map cells before)) e
  refused_fields e refused = subst (λ found. IsShapeRefused found e) (sym (struct_over (map cells before))) (fields_refuse e _ refused)

  pub left_fields : after ≡ drop (length (types_inside own)) before → after ≡ drop (length (leaf_types data_type)) before
  left_fields left = left ∙ ap (λ types. drop (length types) before) (sym struct_types)

  module _ (arrays : List Array) (found : shaped_each (map type_of_field own) (map cells before) ≡ Some (map made_array arrays, map cells after)) where
    struct_whole : shaped data_type (map cells before) ≡ Some (struct_made data_type (map made_array arrays), map cells after)
    struct_whole = struct_over (map cells before) ∙ ap (around_all (struct_made data_type)) found

    pub struct_array : (r : Result Array Error) → IfOk r (λ own. struct_made data_type (map made_array arrays) ≡ made_array own) → IfOk r (λ own. shaped data_type (map cells before) ≡ Some (made_array own, map cells after))
    struct_array (Ok own) made = struct_whole ∙ ap (λ all. Some (all, map cells after)) made
    struct_array (Err e) made = tt

    pub struct_refused : (r : Result Array Error) → IfErr r (IsRefusedBy (struct_made data_type (map made_array arrays)).refusals) → IfErr r (IsShapeRefused (shaped data_type (map cells before)))
    struct_refused (Ok own) refused = tt
    struct_refused (Err e) refused = subst (λ found. IsShapeRefused found e) (sym struct_whole) refused

-- ---- values

memory_alone : (found : Found) (e : Error) → IsWantOfMemory e → IsShapeRefused found e
memory_alone None e memory = tt
memory_alone (Some found) e memory = inl memory

module _ (data_type : DataType) (is : inside_of data_type ≡ Values) (before after : List Array) where
  one_led : AreOfTypes (leaf_types data_type) before → AreOfTypes (data_type ∷ []) before
  one_led leads = subst (λ types. AreOfTypes types before) (types_of_values data_type is) leads

  some_led : (columns : List Array) → AreOfTypes (data_type ∷ []) columns → 1 ≤ length columns
  some_led [] e = absurd cc
  some_led (column ∷ columns) e = omega arith

  is_one : AreOfTypes (leaf_types data_type) before → 1 ≤ length before
  is_one leads = some_led before (one_led leads)

  first_type : AreOfTypes (leaf_types data_type) before → (array : Array) → before ≡ array ∷ after → data_type_of array ≡ data_type
  first_type leads array front =
      let one : data_type_of array ∷ [] ≡ data_type ∷ [] = ap (λ columns. take 1 (map data_type_of columns)) (sym front) ∙ one_led leads in cc

  pub values_array : (r : Result Array Error) → AreOfTypes (leaf_types data_type) before → IfOk r (λ array. before ≡ array ∷ after) → IfOk r (λ array. shaped data_type (map cells before) ≡ Some (made_array array, map cells after))
  values_array (Err e) leads front = tt
  values_array (Ok array) leads front =
      shaped_values data_type (map cells before) is ∙ ap (λ columns. values_shaped data_type (map cells columns)) front
      ∙ ap (λ own. Some (freely_made own (cells array), map cells after)) (sym (first_type leads array front))

  pub values_left : (r : Result Array Error) → IfOk r (λ array. before ≡ array ∷ after) → OnOk r (after ≡ drop (length (leaf_types data_type)) before)
  values_left (Err e) front = tt
  values_left (Ok array) front = ap (drop 1) (sym front) ∙ ap (λ types. drop (length types) before) (sym (types_of_values data_type is))

  pub values_refused : (r : Result Array Error) → AreOfTypes (leaf_types data_type) before → (1 ≤ length before → IfErr r IsWantOfMemory) → IfErr r (IsShapeRefused (shaped data_type (map cells before)))
  values_refused (Ok array) leads memory = tt
  values_refused (Err e) leads memory = memory_alone (shaped data_type (map cells before)) e (memory (is_one leads))

-- ---- fields in turn

abbrev pub Turned : Type 0
Turned = Option (List Made × List (List Cell))

-- those so far, and then the others
abbrev pub and_these : List Made → Turned → Turned
and_these made others = option_map (λ found. (made ++ found.0, found.1)) others

pub these_none : (others : Turned) → others ≡ and_these [] others
these_none None = refl
these_none (Some found) = refl

abbrev before_others : Made → Turned → Turned
before_others first others = others >>= λ found. Some (first ∷ found.0, found.1)

pushed : (made : List Made) (first : Made) (others : Turned) → and_these made (before_others first others) ≡ and_these (made ++ first ∷ []) others
pushed made first None = refl
pushed made first (Some found) = ap (λ (front : List Made). Some (front, found.1)) (sym (append_assoc made (first ∷ []) found.0))

pub next_made : (arrays more : List Array) (array : Array) (data_type : DataType) (types : List DataType) (columns rest : List (List Cell)) → shaped data_type columns ≡ Some (made_array array, rest) → more ≡ arrays ++ array ∷ []
    → and_these (map made_array arrays) (shaped_each (data_type ∷ types) columns) ≡ and_these (map made_array more) (shaped_each types rest)
next_made arrays more array data_type types columns rest one is =
    ap (λ (found : Found). and_these (map made_array arrays) (found >>= λ front. before_others front.0 (shaped_each types front.1))) one
    ∙ pushed (map made_array arrays) (made_array array) (shaped_each types rest)
    ∙ ap (λ made. and_these made (shaped_each types rest)) (sym (ap (map made_array) is ∙ map-append made_array arrays (array ∷ [])))

pub all_made : (made : List Made) (columns : List (List Cell)) → and_these made (shaped_each [] columns) ≡ Some (made, columns)
all_made made columns = ap (λ (front : List Made). Some (front, columns)) (append-nil made)

joined_refusals : (made others : List Made) → flat_map made_refusals (made ++ others) ≡ flat_map made_refusals made ++ flat_map made_refusals others
joined_refusals [] others = refl
joined_refusals (first ∷ made) others = ap (λ rest. first.refusals ++ rest) (joined_refusals made others) ∙ sym (append_assoc first.refusals (flat_map made_refusals made) (flat_map made_refusals others))

module _ (e : Error) (made : List Made) where
  others_refuse : (first : Made) → IsRefusedBy first.refusals e → (others : Turned) → AreShapesRefused (and_these made (before_others first others)) e
  others_refuse first refused None = tt
  others_refuse first refused (Some others) =
      subst (λ refusals. IsRefusedBy refusals e) (sym (joined_refusals made (first ∷ others.0)))
      (refused_right e (flat_map made_refusals made) _ (refused_left e first.refusals _ refused))

  first_refuses : (types : List DataType) (found : Found) → IsShapeRefused found e → AreShapesRefused (and_these made (found >>= λ front. before_others front.0 (shaped_each types front.1))) e
  first_refuses types None refused = tt
  first_refuses types (Some found) refused = others_refuse found.0 refused (shaped_each types found.1)

  pub field_refused : (data_type : DataType) (types : List DataType) (columns : List (List Cell)) → IsShapeRefused (shaped data_type columns) e → AreShapesRefused (and_these made (shaped_each (data_type ∷ types) columns)) e
  field_refused data_type types columns refused = first_refuses types (shaped data_type columns) refused

-- ---- the columns of fields

module _ {X : Type 0} where
  pub leads_first : (first rest all : List X) → take (length (first ++ rest)) all ≡ first ++ rest → take (length first) all ≡ first
  leads_first [] rest all e = refl
  leads_first (x ∷ first) rest [] e = absurd cc
  leads_first (x ∷ first) rest (y ∷ all) e =
      let head : y ≡ x = cc in
      let tail : take (length (first ++ rest)) all ≡ first ++ rest = cc in
      λ i. head i ∷ leads_first first rest all tail i

  pub leads_rest : (first rest all : List X) → take (length (first ++ rest)) all ≡ first ++ rest → take (length rest) (drop (length first) all) ≡ rest
  leads_rest [] rest all e = e
  leads_rest (x ∷ first) rest [] e = absurd cc
  leads_rest (x ∷ first) rest (y ∷ all) e =
      let tail : take (length (first ++ rest)) all ≡ first ++ rest = cc in
      leads_rest first rest all tail

dropped_types : (n : ℕ) (columns : List Array) → drop n (map data_type_of columns) ≡ map data_type_of (drop n columns)
dropped_types zero columns = refl
dropped_types (suc n) [] = refl
dropped_types (suc n) (column ∷ columns) = dropped_types n columns

module _ (field : Field) (fields : List Field) (columns after : List Array) (left : after ≡ drop (length (leaf_types field.data_type)) columns) where
  abbrev own : List DataType
  own = leaf_types field.data_type

  pub next_leads : AreOfTypes (types_inside (field ∷ fields)) columns → AreOfTypes (types_inside fields) after
  next_leads leads =
      subst (λ types. take (length (types_inside fields)) types ≡ types_inside fields) (dropped_types (length own) columns ∙ ap (map data_type_of) (sym left))
      (leads_rest own (types_inside fields) (map data_type_of columns) leads)

  pub field_leads : AreOfTypes (types_inside (field ∷ fields)) columns → AreOfTypes own columns
  field_leads leads = leads_first own (types_inside fields) (map data_type_of columns) leads

  pub next_left : (rest : List Array) → drop (length (types_inside (field ∷ fields))) columns ≡ rest → drop (length (types_inside fields)) after ≡ rest
  next_left rest e =
      ap (drop (length (types_inside fields))) left ∙ drop-drop (length (types_inside fields)) (length own) columns ∙ ap (λ n. drop n columns) (sym (length-append own (types_inside fields))) ∙ e

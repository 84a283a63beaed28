-- How many slots arrays have, by what lies inside a type.
use Rattle.std.proofs.Common.{◌≡◌, refl, ◌∙◌, ap, ℕ, zero, suc, ◌<◌, Bool, true, false, eqb, List, [], ◌∷◌, length, get_or, map, Option, Some, None, option_map, arith}
use Rattle.std.specs.Prelude.{◌&&◌, not}
use Rattle.std.specs.Option.{option_eq}
use Rattle.std.specs.List.{list_all}
use Rattle.std.proofs.lemmas.List.Folds.{list_all-map}
use Rattle.std.proofs.lemmas.Simd.{map-map}
use Rattle.parquet_base.specs.Reading.{given}
use Rattle.columns_core.specs.declared.data_type.DataType.{DataType, Dictionary, List as ListType, LargeList, Struct, Map}
use Rattle.columns_core.specs.declared.data_type.Field.{Field}
use Rattle.columns_core.specs.declared.data_type.IntegerType.{IntegerType}
use Rattle.parquet_statistics.specs.CountType.{count_type}
use Rattle.parquet_statistics.specs.Deserialized.{agreed, is_count, slot_count, slots_in}
use Rattle.parquet_statistics.specs.LeafTypes.{Inside, Values, Entries, Items, Pairs, Fields}
use Rattle.parquet_statistics.specs.Parts.{type_of_arrays}
use Rattle.parquet_statistics.specs.declared.slots.Arrays.{Arrays}
use Rattle.parquet_statistics.specs.declared.slots.Arrays.TheVariants.{Ends, Counts}
use Rattle.parquet_statistics.proofs.CountLemmas.{counted, counted_inside}
use Rattle.parquet_statistics.proofs.LayerLemmas.{folded_out, inside_dictionary, inside_large, inside_list, inside_map, inside_of, inside_struct, map_inside, type_of_field}

module _ (groups : ℕ) where
  pub slots_out : (data_type : DataType) → slot_count groups data_type ≡ slots_in groups (map_inside (slot_count groups) (inside_of data_type))
  unfolding slot_count
  slots_out data_type = folded_out (slots_in groups) data_type

  -- ---- of either kind of arrays

  abbrev pub slots_for : Arrays → DataType → Option ℕ
  slots_for arrays data_type = slot_count groups (type_of_arrays arrays data_type)

  abbrev pub slots_here : Inside DataType → Arrays → Option ℕ
  slots_here Values arrays = Some groups
  slots_here (Entries entries) Ends = slots_for Ends entries
  slots_here (Entries entries) Counts = Some groups
  slots_here (Items items) arrays = slots_for arrays items
  slots_here (Pairs pairs) arrays = option_map (λ _. 1) (slots_for arrays pairs)
  slots_here (Fields fields) arrays = agreed (map (slots_for arrays) fields)

  of_ends : (inside : Inside DataType) → slots_in groups (map_inside (slot_count groups) inside) ≡ slots_here inside Ends
  of_ends Values = refl
  of_ends (Entries entries) = refl
  of_ends (Items items) = refl
  of_ends (Pairs pairs) = refl
  of_ends (Fields fields) = refl

  of_counts : (inside : Inside DataType) → slots_in groups (map_inside (slot_count groups) (counted inside)) ≡ slots_here inside Counts
  of_counts Values = refl
  of_counts (Entries entries) = refl
  of_counts (Items items) = refl
  of_counts (Pairs pairs) = refl
  of_counts (Fields fields) = ap agreed (map-map (slot_count groups) count_type fields)

  slots_for_out : (arrays : Arrays) (data_type : DataType) → slots_for arrays data_type ≡ slots_here (inside_of data_type) arrays
  slots_for_out Ends data_type = slots_out data_type ∙ of_ends (inside_of data_type)
  slots_for_out Counts data_type =
      slots_out (count_type data_type) ∙ ap (λ inside. slots_in groups (map_inside (slot_count groups) inside)) (counted_inside data_type) ∙ of_counts (inside_of data_type)

  module _ (arrays : Arrays) where
    slots_is : (data_type : DataType) (inside : Inside DataType) → inside_of data_type ≡ inside → slots_for arrays data_type ≡ slots_here inside arrays
    slots_is data_type inside is = slots_for_out arrays data_type ∙ ap (λ inside. slots_here inside arrays) is

    pub slots_of_list : (field : Field) → slots_for arrays (ListType field) ≡ slots_for arrays field.data_type
    slots_of_list field = slots_is (ListType field) (Items field.data_type) (inside_list field)

    pub slots_of_large : (field : Field) → slots_for arrays (LargeList field) ≡ slots_for arrays field.data_type
    slots_of_large field = slots_is (LargeList field) (Items field.data_type) (inside_large field)

    pub slots_of_map : (field : Field) (is_sorted : Bool) → slots_for arrays (Map field is_sorted) ≡ option_map (λ _. 1) (slots_for arrays field.data_type)
    slots_of_map field is_sorted = slots_is (Map field is_sorted) (Pairs field.data_type) (inside_map field is_sorted)

    pub slots_of_struct : (fields : List Field) → slots_for arrays (Struct fields) ≡ agreed (map (λ (field : Field). slots_for arrays field.data_type) fields)
    slots_of_struct fields = slots_is (Struct fields) (Fields (map type_of_field fields)) (inside_struct fields) ∙ ap agreed (map-map (slots_for arrays) type_of_field fields)

    pub slots_of_values : (data_type : DataType) → inside_of data_type ≡ Values → slots_for arrays data_type ≡ Some groups
    slots_of_values data_type is = slots_is data_type Values is

  module _ (key : IntegerType) (value : DataType) (ordered : Bool) where
    pub ends_of_dictionary : slots_for Ends (Dictionary key value ordered) ≡ slots_for Ends value
    ends_of_dictionary = slots_is Ends (Dictionary key value ordered) (Entries value) (inside_dictionary key value ordered)

    pub counts_of_dictionary : slots_for Counts (Dictionary key value ordered) ≡ Some groups
    counts_of_dictionary = slots_is Counts (Dictionary key value ordered) (Entries value) (inside_dictionary key value ordered)

-- ---- several that agree

pub counts_same : (count : ℕ) (other : Option ℕ) → option_eq eqb other (Some count) ≡ is_count count other
counts_same count None = refl
counts_same count (Some other) = grind arith

pub differs : (same : Bool) → not same ≡ true → same ≡ false
differs false e = refl
differs true e = absurd cc

and_false : (b : Bool) → (b && false) ≡ false
and_false true = refl
and_false false = refl

module _ {X : Type 0} (test : X → Bool) where
  pub one_fails : (xs : List X) (i : ℕ) (x : X) → i < length xs → test (get_or xs i x) ≡ false → list_all test xs ≡ false
  one_fails [] i d h e = absurd (omega (arith, h))
  one_fails (x ∷ xs) zero d h e = ap (λ b. b && list_all test xs) e
  one_fails (x ∷ xs) (suc i) d h e = ap (λ b. test x && b) (one_fails xs i d (omega (arith, h)) e) ∙ and_false (test x)

module _ {X : Type 0} (own : X → Option ℕ) where
  -- whether all come to the number of the first
  pub agreed_by : (count : ℕ) (all : List X) (first : X) (others : List X) → all ≡ first ∷ others → own first ≡ Some count → (same : Bool)
      → list_all (λ x. is_count count (own x)) others ≡ same → agreed (map own all) ≡ given same count
  agreed_by count all first others is front same e =
      ap (λ xs. agreed (map own xs)) is
      ∙ ap (λ found. agreed (found ∷ map own others)) front
      ∙ ap (λ b. given b count) (list_all-map (is_count count) own others ∙ e)

-- Over columns of one length, as many as a type has, what is made has the type and its number of slots, and refuses no argument.
use Rattle.std.proofs.Common.{◌≡◌, refl, sym, ◌∙◌, ap, ℕ, zero, suc, ◌≤◌, Bool, true, false, List, [], ◌∷◌, ◌++◌, drop, length, map, Option, Some, None, option_map, inl, inr, subst, arith, eq-eqb}
use Rattle.std.specs.Prelude.{◌⊎◌, ◌==◌, ◌&&◌, Contains, flat_map}
use Rattle.std.specs.List.{AllByRecursion, list_all}
use Rattle.std.proofs.lemmas.Bool.{and_parts, eqb-true, lt-ltb}
use Rattle.std.proofs.lemmas.List.{drop-drop, length-append, length-drop, length-map}
use Rattle.std.proofs.lemmas.List.Elements.{Contains-append_cases}
use Rattle.std.proofs.lemmas.Option.{none-some}
use Rattle.columns_core.specs.DictionaryType.{entry_type, entry_type_at}
use Rattle.columns_core.specs.Nested.{field_types, field_types_at, first_length, list_type_at, map_type, map_type_at}
use Rattle.columns_core.specs.Types.{Layer}
use Rattle.columns_core.specs.declared.cell.Cell.{Cell, Cells}
use Rattle.columns_core.specs.declared.data_type.DataType.{DataType, out-DataType}
use Rattle.columns_core.specs.declared.data_type.DataType.TheOpen.{DataType-F}
use Rattle.parquet_base.specs.Reading.{◌>>=◌, given}
use Rattle.parquet_statistics.specs.BuiltTypes.{is_large_list_at, item_type}
use Rattle.parquet_statistics.specs.Deserialized.{agreed, is_count, slot_count, slots_in}
use Rattle.parquet_statistics.specs.LeafTypes.{Inside, Values, Entries, Items, Pairs, Fields, leaf_types}
use Rattle.parquet_statistics.specs.Made.{Made, are_even, are_named, dictionary_made, freely_made, list_made, made_cells, made_refusals, made_type, map_made, struct_made}
use Rattle.parquet_statistics.specs.Parts.{shaped_each}
use Rattle.parquet_statistics.specs.Refusal.{Refusal, Argument, Caused, demand}
use Rattle.parquet_statistics.specs.Shaped.{shaped}
use Rattle.parquet_statistics.proofs.BuilderLemmas.{length-rows}
use Rattle.parquet_statistics.proofs.ColumnLemmas.{types_so}
use Rattle.parquet_statistics.proofs.FitLemmas.{named_so}
use Rattle.parquet_statistics.proofs.LayerLemmas.{AllInside, every_type, inside_layer, inside_of, map_inside, type_of_field, types_by, types_out}
use Rattle.parquet_statistics.proofs.RefusalLemmas.{demand_met}
use Rattle.parquet_statistics.proofs.ShapedLemmas.{around, around_all, shaped_entries, shaped_fields, shaped_items, shaped_pairs, shaped_values}
use Rattle.parquet_statistics.proofs.SlotCounts.{slots_out}
use Rattle.columns_core.specs.Causes.{Cause, Overflow}

-- ---- no argument is refused

abbrev NoArgument : List Refusal → Type 0
NoArgument refusals = Contains refusals Argument → ⊥

none_in_both : (first rest : List Refusal) → NoArgument first → NoArgument rest → NoArgument (first ++ rest)
none_in_both first rest free also told = by (Contains-append_cases first rest Argument told) where
  by : Contains first Argument ⊎ Contains rest Argument → ⊥
  by (inl h) = free h
  by (inr h) = also h

none_of_none : NoArgument []
none_of_none told = absurd (omega (arith, told.1))

is_caused : (cause : Cause) → Caused cause ≡ Argument → ⊥
is_caused cause e = absurd cc

none_caused : (passes : Bool) (cause : Cause) → NoArgument (demand passes (Caused cause))
none_caused true cause told = none_of_none told
none_caused false cause (zero, within, is) = is_caused cause is
none_caused false cause (suc n, within, is) = absurd (omega (arith, within))

none_asked : (passes : Bool) → passes ≡ true → NoArgument (demand passes Argument)
none_asked passes e told = none_of_none (subst (λ refusals. Contains refusals Argument) (demand_met passes Argument e) told)

-- a type that is named is not refused, and how many there are is no argument
still_none : (inner : List Refusal) (named fits : Bool) → NoArgument inner → named ≡ true → NoArgument (inner ++ (demand named Argument ++ demand fits (Caused Overflow)))
still_none inner named fits free e = none_in_both inner _ free (none_in_both (demand named Argument) _ (none_asked named e) (none_caused fits Overflow))

-- ---- a number of slots

some_same : (a b : ℕ) → Some a ≡ Some b → a ≡ b
some_same a b e = cc

one_slot : (found : Option ℕ) (slots : ℕ) → option_map (λ _. 1) found ≡ Some slots → (inner : ℕ) × (found ≡ Some inner) × (slots ≡ 1)
one_slot None slots e = absurd (none-some slots e)
one_slot (Some inner) slots e = (inner, refl, sym (some_same 1 slots e))

abbrev IsSame : ℕ → Option ℕ → Type 0
IsSame slots found = found ≡ Some slots

given_so : (b : Bool) (a slots : ℕ) → given b a ≡ Some slots → (b ≡ true) × (a ≡ slots)
given_so true a slots e = (refl, some_same a slots e)
given_so false a slots e = absurd (none-some slots e)

count_so : (count : ℕ) (found : Option ℕ) → is_count count found ≡ true → found ≡ Some count
count_so count None e = absurd cc
count_so count (Some other) e = ap Some (sym (eqb-true count other e))

counts_so : (count : ℕ) (found : List (Option ℕ)) → list_all (is_count count) found ≡ true → AllByRecursion (IsSame count) found
counts_so count [] e = tt
counts_so count (one ∷ found) e = let both = and_parts (is_count count one) (list_all (is_count count) found) e in (count_so count one both.0, counts_so count found both.1)

agreed_so : (found : List (Option ℕ)) (slots : ℕ) → agreed found ≡ Some slots → (1 ≤ length found) × AllByRecursion (IsSame slots) found
agreed_so [] slots e = absurd (none-some slots e)
agreed_so (None ∷ found) slots e = absurd (none-some slots e)
agreed_so (Some count ∷ found) slots e =
    let both = given_so (list_all (is_count count) found) count slots e in
    (omega arith, (ap Some both.1, subst (λ n. AllByRecursion (IsSame n) found) both.1 (counts_so count found both.0)))

-- ---- columns

abbrev pub AreOfLength : ℕ → List (List Cell) → Type 0
AreOfLength groups columns = AllByRecursion (λ column. length column ≡ groups) columns

left_even : (groups n : ℕ) (columns : List (List Cell)) → AreOfLength groups columns → AreOfLength groups (drop n columns)
left_even groups zero columns even = even
left_even groups (suc n) [] even = tt
left_even groups (suc n) (column ∷ columns) even = left_even groups n columns even.1

abbrev types_of_all : List DataType → List DataType
types_of_all types = flat_map (λ types. types) (map leaf_types types)

pub record IsWellShaped (data_type : DataType) (columns : List (List Cell)) (slots : ℕ) : Type 0 where
  pub made : Made
  pub is : shaped data_type columns ≡ Some (made, drop (length (leaf_types data_type)) columns)
  pub typed : made.data_type ≡ data_type
  pub long : length made.cells ≡ slots
  pub fitting : Contains made.refusals Argument → ⊥

record AreWellShaped (types : List DataType) (columns : List (List Cell)) (slots : ℕ) : Type 0 where
  all : List Made
  is : shaped_each types columns ≡ Some (all, drop (length (types_of_all types)) columns)
  typed : map made_type all ≡ types
  long : AllByRecursion (λ cells. length cells ≡ slots) (map made_cells all)
  fitting : Contains (flat_map made_refusals all) Argument → ⊥

module _ (groups : ℕ) where
  abbrev pub ShapesWell : DataType → Type 0
  ShapesWell data_type =
      (columns : List (List Cell)) (slots : ℕ) → length (leaf_types data_type) ≤ length columns → AreOfLength groups columns → slot_count groups data_type ≡ Some slots → IsWellShaped data_type columns slots

  module _ (data_type : DataType) (inside : Inside DataType) (is : inside_of data_type ≡ inside) where
    types_is : leaf_types data_type ≡ types_by data_type inside
    types_is = types_out data_type ∙ ap (types_by data_type) is

    slots_is : slot_count groups data_type ≡ slots_in groups (map_inside (slot_count groups) inside)
    slots_is = slots_out groups data_type ∙ ap (λ inside. slots_in groups (map_inside (slot_count groups) inside)) is

  -- ---- values

  first_long : (column : List Cell) (slots : ℕ) → length column ≡ groups → Some groups ≡ Some slots → length column ≡ slots
  first_long column slots even e = even ∙ some_same groups slots e

  of_values : (data_type : DataType) → inside_of data_type ≡ Values → ShapesWell data_type
  of_values data_type is [] slots enough even e = absurd (omega (arith, enough, ap length (types_is data_type Values is)))
  of_values data_type is (column ∷ columns) slots enough even e = record {
    made = freely_made data_type column;
    is = shaped_values data_type (column ∷ columns) is ∙ ap (λ types. Some (freely_made data_type column, drop (length types) (column ∷ columns))) (sym (types_is data_type Values is));
    typed = refl;
    long = first_long column slots even.0 (sym (slots_is data_type Values is) ∙ e);
    fitting = none_of_none;
  }

  -- ---- a dictionary, a list or a map

  module _ (data_type inner : DataType) (inside : Inside DataType) (is : inside_of data_type ≡ inside) (same : types_by data_type inside ≡ leaf_types inner) (ih : ShapesWell inner) where
    inner_types : leaf_types data_type ≡ leaf_types inner
    inner_types = types_is data_type inside is ∙ same

    module _ (columns : List (List Cell)) (slots : ℕ) (enough : length (leaf_types data_type) ≤ length columns) (even : AreOfLength groups columns) (e : slot_count groups inner ≡ Some slots) where
      inner_shaped : IsWellShaped inner columns slots
      inner_shaped = ih columns slots (omega (arith, enough, ap length inner_types)) even e

      left : drop (length (leaf_types inner)) columns ≡ drop (length (leaf_types data_type)) columns
      left = ap (λ types. drop (length types) columns) (sym inner_types)

      made_over : (make : Made → Made) → shaped data_type columns ≡ around make (shaped inner columns) → shaped data_type columns ≡ Some (make inner_shaped.made, drop (length (leaf_types data_type)) columns)
      made_over make over = over ∙ ap (around make) inner_shaped.is ∙ ap (λ rest. Some (make inner_shaped.made, rest)) left

  of_entries : (data_type value : DataType) → inside_of data_type ≡ Entries value → entry_type data_type ≡ Some value → ShapesWell value → ShapesWell data_type
  of_entries data_type value is named ih columns slots enough even e =
      let own = sym (slots_is data_type (Entries value) is) ∙ e in
      let inner = inner_shaped data_type value (Entries value) is refl ih columns slots enough even own in
      record {
        made = dictionary_made data_type inner.made;
        is = made_over data_type value (Entries value) is refl ih columns slots enough even own (dictionary_made data_type) (shaped_entries data_type columns value is named);
        typed = refl;
        long = inner.long;
        fitting = still_none inner.made.refusals _ _ inner.fitting (named_so (entry_type data_type) inner.made.data_type (named ∙ ap Some (sym inner.typed)));
      }

  of_items : (data_type item : DataType) → inside_of data_type ≡ Items item → item_type data_type ≡ Some item → ShapesWell item → ShapesWell data_type
  of_items data_type item is named ih columns slots enough even e =
      let own = sym (slots_is data_type (Items item) is) ∙ e in
      let inner = inner_shaped data_type item (Items item) is refl ih columns slots enough even own in
      record {
        made = list_made data_type inner.made;
        is = made_over data_type item (Items item) is refl ih columns slots enough even own (list_made data_type) (shaped_items data_type columns item is named);
        typed = refl;
        long = length-map inner.made.cells (λ cell. Cells (cell ∷ [])) ∙ inner.long;
        fitting = still_none inner.made.refusals _ _ inner.fitting (named_so (item_type data_type) inner.made.data_type (named ∙ ap Some (sym inner.typed)));
      }

  of_pairs : (data_type pair : DataType) → inside_of data_type ≡ Pairs pair → map_type data_type ≡ Some pair → ShapesWell pair → ShapesWell data_type
  of_pairs data_type pair is named ih columns slots enough even e =
      let one = one_slot (slot_count groups pair) slots (sym (slots_is data_type (Pairs pair) is) ∙ e) in
      let inner = inner_shaped data_type pair (Pairs pair) is refl ih columns one.0 enough even one.1 in
      record {
        made = map_made data_type inner.made;
        is = made_over data_type pair (Pairs pair) is refl ih columns one.0 enough even one.1 (map_made data_type) (shaped_pairs data_type columns pair is named);
        typed = refl;
        long = sym one.2;
        fitting = still_none inner.made.refusals _ _ inner.fitting (named_so (map_type data_type) inner.made.data_type (named ∙ ap Some (sym inner.typed)));
      }

  -- ---- a struct

  each : (types : List DataType) (columns : List (List Cell)) (slots : ℕ) → AllByRecursion ShapesWell types → length (types_of_all types) ≤ length columns → AreOfLength groups columns
      → AllByRecursion (IsSame slots) (map (slot_count groups) types) → AreWellShaped types columns slots
  each [] columns slots ih enough even e = record { all = []; is = refl; typed = refl; long = tt; fitting = none_of_none }
  each (data_type ∷ types) columns slots ih enough even e =
      let own = leaf_types data_type in
      let joined = length-append own (types_of_all types) in
      let first = ih.0 columns slots (omega (arith, enough, joined)) even e.0 in
      let left = drop (length own) columns in
      let others = each types left slots ih.1 (omega (arith, enough, joined, length-drop (length own) columns)) (left_even groups (length own) columns even) e.1 in
      record {
        all = first.made ∷ others.all;
        is = ap (λ found. found >>= λ front. shaped_each types front.1 >>= λ rest. Some (front.0 ∷ rest.0, rest.1)) first.is
            ∙ ap (λ found. found >>= λ rest. Some (first.made ∷ rest.0, rest.1)) others.is
            ∙ ap (λ rest. Some (first.made ∷ others.all, rest)) (drop-drop (length (types_of_all types)) (length own) columns ∙ ap (λ n. drop n columns) (sym joined));
        typed = λ i. first.typed i ∷ others.typed i;
        long = (first.long, others.long);
        fitting = none_in_both first.made.refusals (flat_map made_refusals others.all) first.fitting others.fitting;
      }

  same_lengths : (slots : ℕ) (columns : List (List Cell)) → AllByRecursion (λ cells. length cells ≡ slots) columns → list_all (λ column. length column == slots) columns ≡ true
  same_lengths slots [] long = refl
  same_lengths slots (column ∷ columns) long = ap (λ b. b && list_all (λ column. length column == slots) columns) (eq-eqb _ _ long.0) ∙ same_lengths slots columns long.1

  even_so : (slots : ℕ) (columns : List (List Cell)) → 1 ≤ length columns → AllByRecursion (λ cells. length cells ≡ slots) columns → (first_length columns ≡ slots) × (are_even columns ≡ true)
  even_so slots [] some long = absurd (omega (arith, some))
  even_so slots (column ∷ columns) some long = (
    long.0,
    ap (λ b. b && list_all (λ other. length other == length column) (column ∷ columns)) (lt-ltb 0 (length (column ∷ columns)) some)
        ∙ ap (λ n. list_all (λ other. length other == n) (column ∷ columns)) long.0 ∙ same_lengths slots (column ∷ columns) long,
  )

  of_fields : (data_type : DataType) (types : List DataType) → inside_of data_type ≡ Fields types → field_types data_type ≡ Some types → AllByRecursion ShapesWell types → ShapesWell data_type
  of_fields data_type types is named ih columns slots enough even e =
      let own = types_is data_type (Fields types) is in
      let agreeing = agreed_so (map (slot_count groups) types) slots (sym (slots_is data_type (Fields types) is) ∙ e) in
      let found = each types columns slots ih (omega (arith, enough, ap length own)) even agreeing.1 in
      let cells = map made_cells found.all in
      let some : 1 ≤ length cells = omega (arith, agreeing.0, length-map types (slot_count groups), ap length found.typed, length-map found.all made_type, length-map found.all made_cells) in
      let evenly = even_so slots cells some found.long in
      record {
        made = struct_made data_type found.all;
        is = shaped_fields data_type columns types is named ∙ ap (around_all (struct_made data_type)) found.is
            ∙ ap (λ types. Some (struct_made data_type found.all, drop (length types) columns)) (sym own);
        typed = refl;
        long = length-rows cells ∙ evenly.0;
        fitting = none_in_both (flat_map made_refusals found.all) _ found.fitting
            (none_in_both (demand (are_named (field_types data_type) (map made_type found.all)) Argument) _
            (none_asked _ (types_so (field_types data_type) (map made_type found.all) (named ∙ ap Some (sym found.typed))))
            (none_asked _ evenly.1));
      }

  -- ---- of any type

  by_layer : (data_type : DataType) (layer : Layer) → out-DataType data_type ≡ layer → AllInside ShapesWell (inside_layer layer) → ShapesWell data_type
  by_layer data_type (DataType-F.Dictionary key value ordered) is ih = of_entries data_type value (ap inside_layer is) (ap entry_type_at is) ih
  by_layer data_type (DataType-F.List field) is ih = of_items data_type field.data_type (ap inside_layer is) (ap (λ (layer : Layer). list_type_at (is_large_list_at layer) layer) is) ih
  by_layer data_type (DataType-F.LargeList field) is ih = of_items data_type field.data_type (ap inside_layer is) (ap (λ (layer : Layer). list_type_at (is_large_list_at layer) layer) is) ih
  by_layer data_type (DataType-F.Map field is_sorted) is ih = of_pairs data_type field.data_type (ap inside_layer is) (ap map_type_at is) ih
  by_layer data_type (DataType-F.Struct fields) is ih = of_fields data_type (map type_of_field fields) (ap inside_layer is) (ap field_types_at is) ih
  by_layer data_type _ is ih = of_values data_type (ap inside_layer is)

  pub shapes_well : (data_type : DataType) → ShapesWell data_type
  shapes_well data_type = every_type ShapesWell (λ own ih. by_layer own (out-DataType own) refl ih) data_type

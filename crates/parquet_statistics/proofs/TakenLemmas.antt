-- An array of slots: what is made of the arrays of columns is it, and an error tells of its length.
use Rattle.std.proofs.Common.{◌≡◌, sym, ◌∙◌, ap, subst, ℕ, zero, suc, List, [], ◌∷◌, drop, take, length, map, Option, Some, None, Ok, Err, inl, inr, arith}
use Rattle.std.specs.Prelude.{◌⊎◌, Contains, IfErr, IfOk, Result, flat_map, option_and_then}
use Rattle.std.proofs.lemmas.List.{drop_all, length-map, take_all}
use Rattle.std.specs.List.{AllByRecursion}
use Rattle.std.proofs.lemmas.List.Elements.{Contains-append_left, Contains-append_right}
use Rattle.columns_core.specs.Array.{cells, data_type_of}
use Rattle.columns_core.specs.Causes.{Cause, ComesOf, IsOneOf, IsWantOfMemory, cause_of}
use Rattle.columns_core.specs.declared.array.Array.{Array}
use Rattle.columns_core.specs.declared.cell.Cell.{Cell}
use Rattle.columns_core.specs.declared.data_type.DataType.{DataType}
use Rattle.columns_core.specs.declared.error.Error.{Error}
use Rattle.columns_core.specs.declared.error.Error.TheVariants as error
use Rattle.parquet_meta.specs.declared.metadata.Ends.{Ends}
use Rattle.parquet_statistics.specs.Deserialized.{IsMade, all_taken, array_of_slots, causes_of_refusal, length_causes, slot_count}
use Rattle.parquet_statistics.specs.LeafTypes.{leaf_types}
use Rattle.parquet_statistics.specs.Made.{HasKeysInTurn, Made, made_array, made_refusals, made_shown}
use Rattle.parquet_statistics.specs.Parts.{AreOfTypes, HasSlots, IsShapeRefused}
use Rattle.parquet_statistics.specs.Refusal.{Refusal, Argument, Caused, IsOneRefusal, IsRefusedBy, told_refusal}
use Rattle.parquet_statistics.specs.Shaped.{shaped}
use Rattle.parquet_statistics.proofs.WellShaped.{AreOfLength, IsWellShaped, shapes_well}

caused_alone : (refusal : Refusal) (cause : Cause) → refusal ≡ Caused cause → Contains (causes_of_refusal refusal) cause
caused_alone Argument cause is = absurd cc
caused_alone (Caused own) cause is = let same : own ≡ cause = cc in (zero, omega arith, same)

caused : (refusals : List Refusal) (cause : Cause) → Contains refusals (Caused cause) → Contains (flat_map causes_of_refusal refusals) cause
caused [] cause told = absurd (omega (arith, told.1))
caused (refusal ∷ refusals) cause (zero, within, is) = Contains-append_left (causes_of_refusal refusal) (flat_map causes_of_refusal refusals) cause (caused_alone refusal cause is)
caused (refusal ∷ refusals) cause (suc n, within, is) = Contains-append_right (causes_of_refusal refusal) (flat_map causes_of_refusal refusals) cause (caused refusals cause (n, omega (arith, within), is))

module _ (refusals : List Refusal) (fitting : Contains refusals Argument → ⊥) where
  of_one : (e : Error) → IsOneRefusal refusals (told_refusal e) → IsWantOfMemory e ⊎ IsOneOf (flat_map causes_of_refusal refusals) (cause_of e)
  of_one (error.InvalidArgumentError part) told = absurd (fitting told)
  of_one (error.NotYetImplemented part) told = inr (caused refusals _ told)
  of_one (error.ExternalFormat part) told = inr (caused refusals _ told)
  of_one (error.OutOfSpec part) told = inr (caused refusals _ told)
  of_one error.Overflow told = inr (caused refusals _ told)
  of_one error.Io told = absurd told
  of_one error.OutOfMemory told = absurd told

  comes_of : (e : Error) → IsRefusedBy refusals e → IsWantOfMemory e ⊎ IsOneOf (flat_map causes_of_refusal refusals) (cause_of e)
  comes_of e (inl memory) = inl memory
  comes_of e (inr told) = of_one e told

abbrev Found : Type 0
Found = Option (Made × List (List Cell))

abbrev made_or : Made → Found → Made
made_or made None = made
made_or made (Some found) = found.0

some_pair : (a b : Made) (x y : List (List Cell)) → ◌≡◌ {A = Found} (Some (a, x)) (Some (b, y)) → a ≡ b
some_pair a b x y e = ap (made_or a) e

made_it : (made : Made) (array : Array) → made_array array ≡ made → HasKeysInTurn made.data_type array → IsMade (Some made) array
made_it made array is keyed = (ap made_shown is, sym (ap made_refusals is), keyed)

module _ (data_type : DataType) (slot : Ends Cell → Cell) (told : List (List (Ends Cell))) (groups slots : ℕ) (e : slot_count groups data_type ≡ Some slots)
    (arrays : List Array) (typed : map data_type_of arrays ≡ leaf_types data_type) (filled : map cells arrays ≡ map (map slot) told) (even : AreOfLength groups (map (map slot) told)) where
  enough : length (leaf_types data_type) ≡ length (map (map slot) told)
  enough = sym (ap length typed) ∙ length-map arrays data_type_of ∙ sym (length-map arrays cells) ∙ ap length filled

  made_well : IsWellShaped data_type (map (map slot) told) slots
  made_well = shapes_well groups data_type (map (map slot) told) slots (omega (arith, enough)) even e

  none_left : drop (length (leaf_types data_type)) (map (map slot) told) ≡ []
  none_left = drop_all (length (leaf_types data_type)) (map (map slot) told) (omega (arith, enough))

  is_array : array_of_slots data_type slot told ≡ Some made_well.made
  is_array = ap (option_and_then all_taken) (made_well.is ∙ ap (λ rest. Some (made_well.made, rest)) none_left)

  module _ (after : List Array) where
    pub is_made : (r : Result Array Error) → IfOk r (λ array. shaped data_type (map cells arrays) ≡ Some (made_array array, map cells after)) → IfOk r (HasKeysInTurn data_type) → IfOk r (IsMade (array_of_slots data_type slot told))
    is_made (Err e) found keyed = tt
    is_made (Ok array) found keyed =
        subst (λ found. IsMade found array) (sym is_array)
        (made_it made_well.made array (some_pair (made_array array) made_well.made (map cells after) _ (sym found ∙ ap (shaped data_type) filled ∙ made_well.is))
        (subst (λ own. HasKeysInTurn own array) (sym made_well.typed) keyed))

  pub is_caused : (r : Result Array Error) → IfErr r (IsShapeRefused (shaped data_type (map cells arrays))) → ComesOf r (length_causes (array_of_slots data_type slot told))
  is_caused (Ok array) refused = tt
  is_caused (Err e) refused =
      subst (λ found. IsWantOfMemory e ⊎ IsOneOf (length_causes found) (cause_of e)) (sym is_array)
      (comes_of made_well.made.refusals made_well.fitting e (subst (λ found. IsShapeRefused found e) (ap (shaped data_type) filled ∙ made_well.is) refused))

-- ---- by its number of slots

module _ (data_type : DataType) (told : List (List (Ends Cell))) (has : HasSlots data_type told) (slot : Ends Cell → Cell)
    (arrays : List Array) (typed : map data_type_of arrays ≡ leaf_types data_type) (filled : map cells arrays ≡ map (map slot) told) where
  even_slots : (told : List (List (Ends Cell))) → AllByRecursion (λ column. length column ≡ has.groups) told → AreOfLength has.groups (map (map slot) told)
  even_slots [] even = tt
  even_slots (column ∷ told) even = (length-map column slot ∙ even.0, even_slots told even.1)

  pub slots_lead : AreOfTypes (leaf_types data_type) arrays
  slots_lead = ap (take (length (leaf_types data_type))) typed ∙ take_all (length (leaf_types data_type)) (leaf_types data_type) (omega arith)

  pub slots_made : (after : List Array) (r : Result Array Error) → (AreOfTypes (leaf_types data_type) arrays → IfOk r (λ array. shaped data_type (map cells arrays) ≡ Some (made_array array, map cells after)))
      → IfOk r (HasKeysInTurn data_type) → IfOk r (IsMade (array_of_slots data_type slot told))
  slots_made after r found keyed = is_made data_type slot told has.groups has.slots has.is arrays typed filled (even_slots told has.even) after r (found slots_lead) keyed

  pub slots_caused : (r : Result Array Error) → (AreOfTypes (leaf_types data_type) arrays → IfErr r (IsShapeRefused (shaped data_type (map cells arrays)))) → ComesOf r (length_causes (array_of_slots data_type slot told))
  slots_caused r refused = is_caused data_type slot told has.groups has.slots has.is arrays typed filled (even_slots told has.even) r (refused slots_lead)

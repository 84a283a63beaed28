-- Slots of a column that are appended one after another.
use Rattle.std.proofs.Common.{◌≡◌, refl, sym, ◌∙◌, ap, ap₂, subst, ℕ, zero, suc, ◌+◌, ◌<◌, ◌≤◌, Bool, true, false, List, [], ◌∷◌, ◌++◌, length, map, take, get_or, le_trans, arith}
use Rattle.std.specs.Prelude.{pos, Option, Some, None, is_some, unwrap_or, if◌then◌else◌, sum_by}
use Rattle.std.specs.List.{AllByRecursion}
use Rattle.std.proofs.lemmas.Bool.{leb-true, le-leb}
use Rattle.std.proofs.lemmas.List.{map-append, map_more, take-map}
use Rattle.std.proofs.lemmas.List.Sums.{sum_by-cons, sum_by-take-le}
use Rattle.columns_core.specs.Causes.{Cause, Overflow, unless}
use Rattle.columns_core.specs.Column.{cell_of, where_set}
use Rattle.columns_core.specs.Types.{Layer, value_type, value_type_at}
use Rattle.columns_core.specs.declared.cell.Cell.{Cell, Null, Int}
use Rattle.columns_core.specs.declared.data_type.DataType.{DataType, out-DataType}
use Rattle.columns_core.specs.declared.data_type.DataType.TheOpen.{DataType-F}
use Rattle.parquet_meta.specs.declared.metadata.Ends.{Ends}
use Rattle.page_decoding.specs.Bytes.{cell_bytes, fits_most}
use Rattle.flat_values.specs.CellTypes.{is_cell_of}
use Rattle.flat_values.specs.MostBytes.{most_bytes}
use Rattle.flat_builders.specs.Flat.{Flat, flatness, flatness_at}
use Rattle.flat_builders.specs.Kept.{cells_fit}
use Rattle.column_ends.specs.Converted.{array_causes, bytes_of_one_end, high_of, low_of}
use Rattle.column_ends.specs.Laws.{IsEndOf}
use Rattle.parquet_statistics.specs.Deserialized.{count_slot}
use Rattle.parquet_statistics.specs.Parts.{AreEachReady, AreReady, HasEndsOf, count_on, slot_of_count, slot_of_end}
use Rattle.parquet_statistics.specs.declared.column_arrays.Count.{Count}
use Rattle.parquet_statistics.specs.declared.column_arrays.End.{End}
use Rattle.parquet_statistics.specs.declared.column_arrays.End.TheVariants.{Low, High}

both_none : (first rest : List Cause) → first ++ rest ≡ [] → (first ≡ []) × (rest ≡ [])
both_none [] rest e = (refl, e)
both_none (cause ∷ first) rest e = absurd cc

-- ---- types

own_values : (data_type : DataType) (layer : Layer) → flatness_at layer ≡ Flat → value_type_at data_type layer ≡ data_type
own_values data_type (DataType-F.Dictionary key value ordered) flat = absurd cc
own_values data_type _ flat = refl

-- A flat type is the type of its own values.
pub own_value_type : (data_type : DataType) → flatness data_type ≡ Flat → value_type data_type ≡ data_type
own_value_type data_type flat = own_values data_type (out-DataType data_type) flat

abbrev end_on : End → Ends Cell → Option Cell
end_on Low ends = ends.min_value
end_on High ends = ends.max_value

slot_is : (end : End) (ends : Ends Cell) → slot_of_end end ends ≡ unwrap_or (end_on end ends) Null
slot_is Low ends = refl
slot_is High ends = refl

slot_typed : (data_type : DataType) (end : Option Cell) → IsEndOf data_type end → is_cell_of data_type (unwrap_or end Null) ≡ true
slot_typed data_type None typed = refl
slot_typed data_type (Some cell) typed = typed

on_side : (data_type : DataType) (end : End) (ends : Ends Cell) → HasEndsOf data_type ends → IsEndOf data_type (end_on end ends)
on_side data_type Low ends typed = typed.0
on_side data_type High ends typed = typed.1

all_at : {X : Type 0} (P : X → Type 0) (xs : List X) (i : ℕ) (d : X) → AllByRecursion P xs → i < length xs → P (get_or xs i d)
all_at P [] i d all h = absurd (omega arith)
all_at P (x ∷ xs) zero d all h = all.0
all_at P (x ∷ xs) (suc i) d all h = all_at P xs i d all.1 (omega arith)

-- ---- bytes

slot_bytes : (end : Option Cell) → cell_bytes (unwrap_or end Null) ≡ bytes_of_one_end end
slot_bytes None = refl
slot_bytes (Some cell) = refl

bytes_of_slots : (end : End) (column : List (Ends Cell)) → sum_by cell_bytes (map (slot_of_end end) column) ≡ sum_by bytes_of_one_end (map (end_on end) column)
bytes_of_slots end [] = refl
bytes_of_slots end (ends ∷ column) =
    sum_by-cons cell_bytes (slot_of_end end ends) (map (slot_of_end end) column)
    ∙ ap (λ n. n + sum_by cell_bytes (map (slot_of_end end) column)) (ap cell_bytes (slot_is end ends) ∙ slot_bytes (end_on end ends))
    ∙ ap (λ n. bytes_of_one_end (end_on end ends) + n) (bytes_of_slots end column)
    ∙ sym (sum_by-cons bytes_of_one_end (end_on end ends) (map (end_on end) column))

fewer_fit : (most : Option ℕ) (fewer all : ℕ) → fewer ≤ all → fits_most most all ≡ true → fits_most most fewer ≡ true
fewer_fit None fewer all h e = refl
fewer_fit (Some most) fewer all h e = le-leb fewer most (le_trans h (leb-true all most e))

no_cause : (test : Bool) → unless test Overflow ≡ [] → test ≡ true
no_cause true e = refl
no_cause false e = absurd cc

module _ (data_type : DataType) (column : List (Ends Cell)) (ready : AreReady data_type column) where
  side_fits : (end : End) → array_causes data_type (map (end_on end) column) ≡ []
  side_fits Low = (both_none (array_causes data_type (map low_of column)) (array_causes data_type (map high_of column)) ready.fit).0
  side_fits High = (both_none (array_causes data_type (map low_of column)) (array_causes data_type (map high_of column)) ready.fit).1

  module _ (end : End) where
    all_fit : cells_fit data_type (map (slot_of_end end) column) ≡ true
    all_fit =
        ap (λ n. fits_most (most_bytes data_type) n) (bytes_of_slots end column)
        ∙ ap (λ (type : DataType). fits_most (most_bytes type) (sum_by bytes_of_one_end (map (end_on end) column))) (sym (own_value_type data_type ready.flat))
        ∙ no_cause _ (side_fits end)

    -- The bytes of the first ends fit, since those of all do.
    first_fit : (k : ℕ) → cells_fit data_type (map (slot_of_end end) (take k column)) ≡ true
    first_fit k =
        ap (cells_fit data_type) (sym (take-map (slot_of_end end) k column))
        ∙ fewer_fit (most_bytes data_type) _ _ (sum_by-take-le cell_bytes (map (slot_of_end end) column) k) all_fit

    -- ---- one group more

    module _ (i : ℕ) (ends : Ends Cell) (within : i < length column) (here : ends ≡ get_or column i ends) where
      slots_more : map (slot_of_end end) (take i column) ++ slot_of_end end ends ∷ [] ≡ map (slot_of_end end) (take (i + 1) column)
      slots_more =
          ap (λ (item : Ends Cell). map (slot_of_end end) (take i column) ++ slot_of_end end item ∷ []) here
          ∙ sym (map_more (slot_of_end end) column i ends within)

      pub slot_is_typed : is_cell_of data_type (slot_of_end end ends) ≡ true
      slot_is_typed =
          ap (is_cell_of data_type) (slot_is end ends)
          ∙ slot_typed data_type (end_on end ends) (on_side data_type end ends (subst (HasEndsOf data_type) (sym here) (all_at (HasEndsOf data_type) column i ends ready.typed within)))

      pub slot_fits : cells_fit data_type (map (slot_of_end end) (take i column) ++ slot_of_end end ends ∷ []) ≡ true
      slot_fits = ap (cells_fit data_type) slots_more ∙ first_fit (i + 1)

-- ---- counts

where_set_more : {T : Type 0} (values : List T) (mask : List Bool) (value : T) (set : Bool) → length mask ≡ length values
    → where_set (values ++ value ∷ []) (mask ++ set ∷ []) ≡ where_set values mask ++ (if set then Some value else None) ∷ []
where_set_more [] [] value set e = refl
where_set_more [] (first ∷ mask) value set e = absurd (omega arith)
where_set_more (first ∷ values) [] value set e = absurd (omega arith)
where_set_more (first ∷ values) (is_there ∷ mask) value set e =
    ap (λ rest. (if is_there then Some first else None) ∷ rest) (where_set_more values mask value set (omega arith))

there_again : (item : Option ℕ) → (if is_some item then Some (unwrap_or item 0) else None) ≡ item
there_again None = refl
there_again (Some n) = refl

pub counts_more : (count : Count) (column : List (Ends Cell)) (i : ℕ) (ends : Ends Cell) (values more : List ℕ) (mask longer : List Bool) (own : Option ℕ) → i < length column → ends ≡ get_or column i ends
    → own ≡ count_on count ends → length mask ≡ length values → where_set values mask ≡ map (count_on count) (take i column) → more ≡ values ++ unwrap_or own 0 ∷ [] → longer ≡ mask ++ is_some own ∷ []
    → where_set more longer ≡ map (count_on count) (take (i + 1) column)
counts_more count column i ends values more mask longer own h is told even so_far grown marked =
    ap₂ where_set grown marked
    ∙ where_set_more values mask (unwrap_or own 0) (is_some own) even
    ∙ ap₂ (λ front item. front ++ item ∷ []) so_far (there_again own ∙ told ∙ ap (count_on count) is)
    ∙ sym (map_more (count_on count) column i ends h)

abbrev pub number : Option ℕ → Cell
number item = cell_of (λ n. Int (pos n)) item

pub slots_of_counts : (count : Count) (column : List (Ends Cell)) → map number (map (count_on count) column) ≡ map (slot_of_count count) column
slots_of_counts count [] = refl
slots_of_counts count (ends ∷ column) = λ i. slot_again (count_on count ends) i ∷ slots_of_counts count column i where
  slot_again : (own : Option ℕ) → number own ≡ count_slot own
  slot_again None = refl
  slot_again (Some n) = refl

-- ---- columns in turn

module _ {T C : Type 0} (type : T → DataType) (items : C → List (Ends Cell)) where
  pub ready_at : (types : List T) (columns : List C) (i : ℕ) (own : T) (column : C) → AreEachReady (map type types) (map items columns) → i < length types → own ≡ get_or types i own → column ≡ get_or columns i column
      → AreReady (type own) (items column)
  ready_at [] columns i own column ready h is here = absurd (omega (arith, h))
  ready_at (first ∷ types) [] i own column ready h is here = absurd ready
  ready_at (first ∷ types) (front ∷ columns) zero own column ready h is here =
      subst (λ own. AreReady (type own) (items column)) (sym is) (subst (λ column. AreReady (type first) (items column)) (sym here) ready.0)
  ready_at (first ∷ types) (front ∷ columns) (suc i) own column ready h is here = ready_at types columns i own column ready.1 (omega (arith, h)) is here

module _ {T X Y : Type 0} (f : X → Y) (g : T → Y) (xs more : List X) (x : X) (ts : List T) (i : ℕ) (t : T) where
  -- one more of each
  pub one_more : i < length ts → t ≡ get_or ts i t → map f xs ≡ map g (take i ts) → f x ≡ g t → more ≡ xs ++ x ∷ [] → map f more ≡ map g (take (i + 1) ts)
  one_more h is so same grown =
      ap (map f) grown ∙ map-append f xs (x ∷ []) ∙ ap₂ (λ front item. front ++ item ∷ []) so (same ∙ ap g is) ∙ sym (map_more g ts i t h)

pub as_many : (types : List DataType) (columns : List (List (Ends Cell))) → AreEachReady types columns → length types ≡ length columns
as_many [] [] ready = refl
as_many [] (column ∷ columns) ready = absurd ready
as_many (own ∷ types) [] ready = absurd ready
as_many (own ∷ types) (column ∷ columns) ready = omega (arith, as_many types columns ready.1)

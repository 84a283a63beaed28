-- Ends that are appended one after another.
use Rattle.std.proofs.Common.{◌≡◌, refl, sym, ◌∙◌, ap, ℕ, ◌+◌, ◌<◌, ◌≤◌, Bool, true, false, List, [], ◌∷◌, ◌++◌, length, map, take, get_or, le_trans}
use Rattle.std.specs.Prelude.{Option, Some, None, sum_by}
use Rattle.std.proofs.lemmas.Bool.{leb-true, le-leb}
use Rattle.std.proofs.lemmas.List.{map_more, map_push, take-map}
use Rattle.std.proofs.lemmas.List.Sums.{sum_by-cons, sum_by-take-le}
use Rattle.columns_core.specs.Causes.{Overflow, unless}
use Rattle.columns_core.specs.declared.cell.Cell.{Cell}
use Rattle.columns_core.specs.declared.data_type.DataType.{DataType}
use Rattle.parquet_meta.specs.declared.metadata.PageIndex.{PageIndex}
use Rattle.page_decoding.specs.Bytes.{cell_bytes, fits_most}
use Rattle.flat_values.specs.MostBytes.{most_bytes}
use Rattle.flat_builders.specs.Flat.{Flat, flatness}
use Rattle.flat_builders.specs.Kept.{cells_fit}
use Rattle.column_ends.specs.Converted.{array_causes, bytes_of_one_end, page_array_causes}
use Rattle.parquet_indexes.specs.PageStatistics.{end_slot}
use Rattle.parquet_indexes.specs.Sides.{end_on, ends_on}
use Rattle.parquet_indexes.specs.declared.page_arrays.Side.{Side}
use Rattle.parquet_indexes.specs.declared.page_arrays.Side.TheVariants.{Low, High}
use Rattle.parquet_indexes.proofs.FlatTypes.{both_empty, own_value_type}

-- ---- bytes

slot_bytes : (end : Option Cell) → cell_bytes (end_slot end) ≡ bytes_of_one_end end
slot_bytes None = refl
slot_bytes (Some cell) = refl

bytes_of_slots : (ends : List (Option Cell)) → sum_by cell_bytes (map end_slot ends) ≡ sum_by bytes_of_one_end ends
bytes_of_slots [] = refl
bytes_of_slots (end ∷ ends) =
    sum_by-cons cell_bytes (end_slot end) (map end_slot ends) ∙ ap (λ n. n + sum_by cell_bytes (map end_slot ends)) (slot_bytes end) ∙ ap (λ n. bytes_of_one_end end + n) (bytes_of_slots ends)
    ∙ sym (sum_by-cons bytes_of_one_end end ends)

fewer_fit : (most : Option ℕ) (fewer all : ℕ) → fewer ≤ all → fits_most most all ≡ true → fits_most most fewer ≡ true
fewer_fit None fewer all h e = refl
fewer_fit (Some most) fewer all h e = le-leb fewer most (le_trans h (leb-true all most e))

no_cause : (test : Bool) → unless test Overflow ≡ [] → test ≡ true
no_cause true e = refl
no_cause false e = absurd cc

module _ (data_type : DataType) (pages : List (PageIndex Cell)) (flat : flatness data_type ≡ Flat) (fit : page_array_causes data_type pages ≡ []) where
  side_fits : (side : Side) → array_causes data_type (ends_on side pages) ≡ []
  side_fits Low = (both_empty (array_causes data_type (ends_on Low pages)) (array_causes data_type (ends_on High pages)) fit).0
  side_fits High = (both_empty (array_causes data_type (ends_on Low pages)) (array_causes data_type (ends_on High pages)) fit).1

  -- The bytes of the first ends fit, since those of all do.
  module _ (side : Side) where
    all_fit : cells_fit data_type (map end_slot (ends_on side pages)) ≡ true
    all_fit =
        ap (λ n. fits_most (most_bytes data_type) n) (bytes_of_slots (ends_on side pages))
        ∙ ap (λ (type : DataType). fits_most (most_bytes type) (sum_by bytes_of_one_end (ends_on side pages))) (sym (own_value_type data_type flat))
        ∙ no_cause _ (side_fits side)

    first_slots : (k : ℕ) → map end_slot (ends_on side (take k pages)) ≡ take k (map end_slot (ends_on side pages))
    first_slots k = sym (take-map end_slot k (ends_on side pages) ∙ ap (map end_slot) (take-map (end_on side) k pages))

    first_fit : (k : ℕ) → cells_fit data_type (map end_slot (ends_on side (take k pages))) ≡ true
    first_fit k =
        ap (cells_fit data_type) (first_slots k)
        ∙ fewer_fit (most_bytes data_type) _ _ (sum_by-take-le cell_bytes (map end_slot (ends_on side pages)) k) all_fit

-- ---- one page more

module _ (pages : List (PageIndex Cell)) (side : Side) (i : ℕ) (page : PageIndex Cell) (within : i < length pages) (here : page ≡ get_or pages i page) where
  pub slots-more : map end_slot (ends_on side (take i pages)) ++ end_slot (end_on side page) ∷ [] ≡ map end_slot (ends_on side (take (i + 1) pages))
  slots-more =
      ap (λ (item : PageIndex Cell). map end_slot (ends_on side (take i pages)) ++ end_slot (end_on side item) ∷ []) here
      ∙ sym (ap (map end_slot) (map_more (end_on side) pages i page within) ∙ map_push end_slot (ends_on side (take i pages)) (end_on side (get_or pages i page)))

  module _ (data_type : DataType) where
    pub slot_fits : flatness data_type ≡ Flat → page_array_causes data_type pages ≡ [] → cells_fit data_type (map end_slot (ends_on side (take i pages)) ++ end_slot (end_on side page) ∷ []) ≡ true
    slot_fits flat fit = ap (cells_fit data_type) slots-more ∙ first_fit data_type pages flat fit side (i + 1)

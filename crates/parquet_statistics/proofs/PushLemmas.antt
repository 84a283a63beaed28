-- Cells that were appended to a flat builder, or not.
use Rattle.std.proofs.Common.{◌≡◌, ◌++◌, [], ◌∷◌, true, sym, subst, ap, ◌∙◌, inl, inr}
use Rattle.std.specs.Prelude.{◌⊎◌, IsTrue, Err, IfErr, IsSomeAnd, Ok, OnOk, Option, None, Result, Some}
use Rattle.columns_core.specs.Causes.{is_invalid_argument}
use Rattle.columns_core.specs.Shown.{Shown}
use Rattle.columns_core.specs.declared.cell.Cell.{Cell}
use Rattle.columns_core.specs.declared.error.Error.{Error}
use Rattle.flat_values.specs.CellTypes.{is_cell_of}
use Rattle.flat_builders.specs.Kept.{IsRefusedCell, cells_fit}
use Rattle.parquet_statistics.specs.Flats.{IsPushed, IsNotAppended, flat_at, flat_of}
use denote.Hole.Carrier
use Rattle.parquet_statistics.specs.declared.dyn_mutable.DynMutable.TheViews
use Rattle.parquet_statistics.specs.declared.dyn_mutable.DynMutable.{DynMutable, Flat, Dictionary, List as ListBuilder, Map, Struct, out-DynMutable, out-roll-DynMutable}
use Rattle.parquet_statistics.specs.declared.dyn_mutable.DynMutable.TheOpen.{DynMutable-F}
use Rattle.parquet_statistics.specs.declared.dyn_mutable.DynMutable.TheVariants.{rolls-Flat, rolls-Dictionary, rolls-List, rolls-Map, rolls-Struct}
use Rattle.parquet_statistics.specs.declared.dyn_mutable.DynMutableDictionary.{DynMutableDictionary}
use Rattle.parquet_statistics.specs.declared.dyn_mutable.DynMutableListArray.{DynMutableListArray}
use Rattle.parquet_statistics.specs.declared.dyn_mutable.DynMutableMapArray.{DynMutableMapArray}
use Rattle.parquet_statistics.specs.declared.dyn_mutable.DynMutableStructArray.{DynMutableStructArray}

flat_out : (old : Shown) → flat_of (Flat old) ≡ Some old
unfolding Rattle.parquet_statistics.specs.declared.dyn_mutable.DynMutable.TheViews.roll-DynMutable out-DynMutable denote.Hole.Carrier.roll
flat_out old = ap flat_at (ap out-DynMutable (rolls-Flat old) ∙ out-roll-DynMutable (DynMutable-F.Flat old))

dictionary_out : (entries : DynMutableDictionary) → flat_of (Dictionary entries) ≡ None
unfolding Rattle.parquet_statistics.specs.declared.dyn_mutable.DynMutable.TheViews.roll-DynMutable out-DynMutable denote.Hole.Carrier.roll
dictionary_out entries = ap flat_at (ap out-DynMutable (rolls-Dictionary entries) ∙ out-roll-DynMutable (DynMutable-F.Dictionary entries))

list_out : (items : DynMutableListArray) → flat_of (ListBuilder items) ≡ None
unfolding Rattle.parquet_statistics.specs.declared.dyn_mutable.DynMutable.TheViews.roll-DynMutable out-DynMutable denote.Hole.Carrier.roll
list_out items = ap flat_at (ap out-DynMutable (rolls-List items) ∙ out-roll-DynMutable (DynMutable-F.List items))

map_out : (pairs : DynMutableMapArray) → flat_of (Map pairs) ≡ None
unfolding Rattle.parquet_statistics.specs.declared.dyn_mutable.DynMutable.TheViews.roll-DynMutable out-DynMutable denote.Hole.Carrier.roll
map_out pairs = ap flat_at (ap out-DynMutable (rolls-Map pairs) ∙ out-roll-DynMutable (DynMutable-F.Map pairs))

struct_out : (fields : DynMutableStructArray) → flat_of (Struct fields) ≡ None
unfolding Rattle.parquet_statistics.specs.declared.dyn_mutable.DynMutable.TheViews.roll-DynMutable out-DynMutable denote.Hole.Carrier.roll
struct_out fields = ap flat_at (ap out-DynMutable (rolls-Struct fields) ∙ out-roll-DynMutable (DynMutable-F.Struct fields))

-- a builder that is not flat
abbrev pub IsNested : DynMutable → Type 0
IsNested builder =
    ((entries : DynMutableDictionary) × (builder ≡ Dictionary entries))
    ⊎ (((items : DynMutableListArray) × (builder ≡ ListBuilder items))
    ⊎ (((pairs : DynMutableMapArray) × (builder ≡ Map pairs)) ⊎ ((fields : DynMutableStructArray) × (builder ≡ Struct fields))))

nested_out : (builder : DynMutable) → IsNested builder → flat_of builder ≡ None
nested_out builder (inl (entries, is)) = ap flat_of is ∙ dictionary_out entries
nested_out builder (inr (inl (items, is))) = ap flat_of is ∙ list_out items
nested_out builder (inr (inr (inl (pairs, is)))) = ap flat_of is ∙ map_out pairs
nested_out builder (inr (inr (inr (fields, is)))) = ap flat_of is ∙ struct_out fields

pub nested_refused : (builder : DynMutable) (cell : Cell) (e : Error) → IsTrue (is_invalid_argument e) → IsNested builder → IsNotAppended (flat_of builder) cell e
nested_refused builder cell e argument nested = subst (λ (old : Option Shown). IsNotAppended old cell e) (sym (nested_out builder nested)) argument

module _ (builder : DynMutable) (old : Shown) (cell : Cell) (is : builder ≡ Flat old) where
  pub appended : {T : Type 0} (r : Result T Error) (new : Shown) → OnOk r (new ≡ (old.0, old.1 ++ cell ∷ [])) → OnOk r (is_cell_of old.0 cell ≡ true) → OnOk r (cells_fit old.0 (old.1 ++ cell ∷ []) ≡ true)
      → OnOk r (IsSomeAnd (flat_of builder) (λ old. IsPushed old cell (Flat new)))
  appended (Ok done) new pushed typed fits =
      subst (λ (found : Option Shown). IsSomeAnd found (λ old. IsPushed old cell (Flat new))) (sym (ap flat_of is ∙ flat_out old))
      (record { appended = λ i. Flat (pushed i); typed = typed; fits = fits })
  appended (Err e) new pushed typed fits = tt

  pub not_appended : {T : Type 0} (r : Result T Error) → IfErr r (IsRefusedCell (is_cell_of old.0 cell) (cells_fit old.0 (old.1 ++ cell ∷ []))) → IfErr r (IsNotAppended (flat_of builder) cell)
  not_appended (Ok done) refused = tt
  not_appended (Err e) refused = subst (λ (found : Option Shown). IsNotAppended found cell e) (sym (ap flat_of is ∙ flat_out old)) refused

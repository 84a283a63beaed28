-- Builders of dictionaries alone have keys.
use Rattle.std.proofs.Common.{◌≡◌, ◌∙◌, ap, true, false}
use denote.Hole.Carrier
use Rattle.columns_core.specs.Shown.{Shown}
use Rattle.parquet_statistics.specs.Made.{is_keyed, is_keyed_at}
use Rattle.parquet_statistics.specs.declared.dyn_mutable.DynMutable.TheViews
use Rattle.parquet_statistics.specs.declared.dyn_mutable.DynMutable.{DynMutable, Flat, List as ListBuilder, Map, Struct, out-DynMutable, out-roll-DynMutable}
use Rattle.parquet_statistics.specs.declared.dyn_mutable.DynMutable.TheOpen.{DynMutable-F}
use Rattle.parquet_statistics.specs.declared.dyn_mutable.DynMutable.TheVariants.{rolls-Flat, rolls-List, rolls-Map, rolls-Struct}
use Rattle.parquet_statistics.specs.declared.dyn_mutable.DynMutableListArray.{DynMutableListArray}
use Rattle.parquet_statistics.specs.declared.dyn_mutable.DynMutableMapArray.{DynMutableMapArray}
use Rattle.parquet_statistics.specs.declared.dyn_mutable.DynMutableStructArray.{DynMutableStructArray}

flat_keyless : (builder : Shown) → is_keyed (Flat builder) ≡ false
unfolding Rattle.parquet_statistics.specs.declared.dyn_mutable.DynMutable.TheViews.roll-DynMutable out-DynMutable denote.Hole.Carrier.roll
flat_keyless builder = ap is_keyed_at (ap out-DynMutable (rolls-Flat builder) ∙ out-roll-DynMutable (DynMutable-F.Flat builder))

list_keyless : (items : DynMutableListArray) → is_keyed (ListBuilder items) ≡ false
unfolding Rattle.parquet_statistics.specs.declared.dyn_mutable.DynMutable.TheViews.roll-DynMutable out-DynMutable denote.Hole.Carrier.roll
list_keyless items = ap is_keyed_at (ap out-DynMutable (rolls-List items) ∙ out-roll-DynMutable (DynMutable-F.List items))

map_keyless : (pairs : DynMutableMapArray) → is_keyed (Map pairs) ≡ false
unfolding Rattle.parquet_statistics.specs.declared.dyn_mutable.DynMutable.TheViews.roll-DynMutable out-DynMutable denote.Hole.Carrier.roll
map_keyless pairs = ap is_keyed_at (ap out-DynMutable (rolls-Map pairs) ∙ out-roll-DynMutable (DynMutable-F.Map pairs))

struct_keyless : (fields : DynMutableStructArray) → is_keyed (Struct fields) ≡ false
unfolding Rattle.parquet_statistics.specs.declared.dyn_mutable.DynMutable.TheViews.roll-DynMutable out-DynMutable denote.Hole.Carrier.roll
struct_keyless fields = ap is_keyed_at (ap out-DynMutable (rolls-Struct fields) ∙ out-roll-DynMutable (DynMutable-F.Struct fields))

module _ {P : Type 0} (builder : DynMutable) (keyed : is_keyed builder ≡ true) where
  keyless : is_keyed builder ≡ false → P
  keyless is = absurd cc

  pub not_flat : (own : Shown) → builder ≡ Flat own → P
  not_flat own is = keyless (ap is_keyed is ∙ flat_keyless own)

  pub not_list : (own : DynMutableListArray) → builder ≡ ListBuilder own → P
  not_list own is = keyless (ap is_keyed is ∙ list_keyless own)

  pub not_map : (own : DynMutableMapArray) → builder ≡ Map own → P
  not_map own is = keyless (ap is_keyed is ∙ map_keyless own)

  pub not_struct : (own : DynMutableStructArray) → builder ≡ Struct own → P
  not_struct own is = keyless (ap is_keyed is ∙ struct_keyless own)

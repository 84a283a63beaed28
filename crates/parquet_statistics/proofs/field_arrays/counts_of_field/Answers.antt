use Rattle.std.proofs.Common.{◌∙◌, List, ap, map, subst, sym}
use Rattle.std.specs.Global.{Global}
use Rattle.std.specs.Prelude.{IfOk, Vec}
use Rattle.columns_core.specs.Causes.{ComesOf}
use Rattle.columns_core.specs.declared.cell.Cell.{Cell}
use Rattle.parquet_meta.specs.declared.metadata.Ends.{Ends}
use Rattle.parquet_statistics.specs.Deserialized.{count_array_causes}
use Rattle.parquet_statistics.specs.LeafTypes.{leaf_types}
use Rattle.parquet_statistics.specs.Parts.{AreCountArrays, HasSlots}
use Rattle.parquet_statistics.proofs.field_arrays.counts_of_field.Goals as goal

abbrev items : Vec (Ends Cell) Global → List (Ends Cell)
items column = column.items

pub counts_of_type-requires : goal.counts_of_type-requires
counts_of_type-requires c = record {
  slots = subst (λ counts. HasSlots counts (map items c.args.told.now)) (sym c.in_ok-counts.ensures.count_type) c.requires.slots;
  types = ap leaf_types c.in_ok-counts.ensures.count_type ∙ c.requires.types;
}

pub returns-clause-arrays : goal.returns-clause-arrays
returns-clause-arrays c =
    subst (λ counts. IfOk c.counts_of_type.result (AreCountArrays counts (map items c.args.told.now))) c.in_ok-counts.ensures.count_type c.counts_of_type.ensures.arrays

pub returns-clause-cause : goal.returns-clause-cause
returns-clause-cause c =
    subst (λ counts. ComesOf c.counts_of_type.result (count_array_causes counts (map items c.args.told.now))) c.in_ok-counts.ensures.count_type c.counts_of_type.ensures.cause

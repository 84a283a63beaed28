use Rattle.std.proofs.Common.{◌∙◌, ◌<◌, ◌≤◌, Bor, List, ap, arith, length, map, sym}
use Rattle.std.specs.Global.{Global}
use Rattle.std.specs.Prelude.{Vec}
use Rattle.std.proofs.lemmas.List.{length-map, take_all}
use Rattle.std.proofs.lemmas.Simd.{map-map}
use Rattle.columns_core.specs.Array.{cells, data_type_of}
use Rattle.columns_core.specs.declared.cell.Cell.{Cell}
use Rattle.columns_core.specs.declared.data_type.DataType.{DataType}
use Rattle.parquet_meta.specs.declared.metadata.Ends.{Ends}
use Rattle.parquet_statistics.specs.Parts.{slot_of_end}
use Rattle.parquet_statistics.proofs.PushedLemmas.{as_many, one_more, ready_at}
use Rattle.parquet_statistics.proofs.column_arrays.arrays_of_ends.Goals as goal

abbrev Column : Type 0
Column = Vec (Ends Cell) Global

abbrev type : Bor DataType → DataType
type t = t.now

abbrev items : Column → List (Ends Cell)
items column = column.items

pub bounds-told-i : goal.bounds-told-i
bounds-told-i c =
    let types = c.args.types.now in
    let told = c.args.told.now in
    omega (arith, c.loop-i-test.true, as_many (map type types) (map items told) c.requires.ready, length-map types type, length-map told items)

pub array_of_ends-requires : goal.array_of_ends-requires
array_of_ends-requires c = record {
  ready = rw c.deref.ensures.value
      (ready_at type items c.args.types.now c.args.told.now c.loop-i.i c.index-types-i.result c.index-told-i.result c.requires.ready c.loop-i-test.true c.index-types-i.is c.index-told-i.is);
}

pub loop-i-preserved : goal.loop-i-preserved
loop-i-preserved c =
    let types = c.args.types.now in
    let told = c.args.told.now in
    let i = c.loop-i.i in
    let arrays = c.loop-i.arrays.items in
    let array = c.in_ok-array_of_ends.field-0 in
    let shown = c.in_ok-array_of_ends.ensures.array in
    let within : i < length told = omega (arith, c.loop-i-test.true, as_many (map type types) (map items told) c.requires.ready, length-map types type, length-map told items) in
    record {
      types = one_more data_type_of type arrays _ array types i c.index-types-i.result c.loop-i-test.true c.index-types-i.is c.loop-i.invariant.types (λ j. (shown j).0) c.in_ok-push_back.ensures.items;
      cells = one_more cells (λ (column : Column). map (slot_of_end c.args.end) column.items) arrays _ array told i c.index-told-i.result within c.index-told-i.is c.loop-i.invariant.cells
          ((λ j. (shown j).1) ∙ ap (map (slot_of_end c.args.end)) c.deref.ensures.value) c.in_ok-push_back.ensures.items;
    }

pub returns-clause-cells : goal.returns-clause-cells
returns-clause-cells c =
    let types = c.args.types.now in
    let told = c.args.told.now in
    let all : length told ≤ c.loop-i.i = omega (arith, c.loop-i-test.false, as_many (map type types) (map items told) c.requires.ready, length-map types type, length-map told items) in
    c.loop-i.invariant.cells ∙ ap (map (λ (column : Column). map (slot_of_end c.args.end) column.items)) (take_all c.loop-i.i told all)
    ∙ sym (map-map (map (slot_of_end c.args.end)) items told)

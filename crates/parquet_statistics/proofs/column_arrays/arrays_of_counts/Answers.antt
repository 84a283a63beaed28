use Rattle.std.proofs.Common.{◌∙◌, List, ap, map, sym}
use Rattle.std.specs.Global.{Global}
use Rattle.std.specs.Prelude.{Vec}
use Rattle.std.proofs.lemmas.List.{take_all}
use Rattle.std.proofs.lemmas.Simd.{map-map}
use Rattle.columns_core.specs.declared.cell.Cell.{Cell}
use Rattle.parquet_meta.specs.declared.metadata.Ends.{Ends}
use Rattle.parquet_statistics.specs.Parts.{slot_of_count}
use Rattle.parquet_statistics.proofs.column_arrays.arrays_of_counts.Goals as goal

abbrev Column : Type 0
Column = Vec (Ends Cell) Global

abbrev items : Column → List (Ends Cell)
items column = column.items

pub returns-clause-cells : goal.returns-clause-cells
returns-clause-cells c =
    let told = c.args.told.now in
    c.loop-column.invariant.cells ∙ ap (map (λ (column : Column). map (slot_of_count c.args.count) column.items)) (take_all c.loop-column.column-index told c.loop-column-test.false)
    ∙ sym (map-map (map (slot_of_count c.args.count)) items told)

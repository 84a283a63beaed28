use Rattle.std.proofs.Common.{◌∙◌, List, map, sym}
use Rattle.std.specs.Global.{Global}
use Rattle.std.specs.Prelude.{Vec}
use Rattle.columns_core.specs.declared.cell.Cell.{Cell}
use Rattle.parquet_meta.specs.declared.metadata.Ends.{Ends}
use Rattle.parquet_statistics.specs.Parts.{slot_of_count}
use Rattle.parquet_statistics.proofs.TakenLemmas.{slots_caused, slots_made}
use Rattle.parquet_statistics.proofs.field_arrays.counts_in_shape.Goals as goal

abbrev items : Vec (Ends Cell) Global → List (Ends Cell)
items column = column.items

pub returns-clause-array : goal.returns-clause-array
returns-clause-array c =
    slots_made c.args.data_type.now (map items c.args.told.now) c.requires.slots (slot_of_count c.args.count) c.in_ok-arrays.arrays.items (c.in_ok-arrays.ensures.types ∙ sym c.requires.types) c.in_ok-arrays.ensures.cells c.shape.new.columns.items c.shape.result c.shape.ensures.array c.shape.ensures.keys

pub returns-clause-cause : goal.returns-clause-cause
returns-clause-cause c =
    slots_caused c.args.data_type.now (map items c.args.told.now) c.requires.slots (slot_of_count c.args.count) c.in_ok-arrays.arrays.items (c.in_ok-arrays.ensures.types ∙ sym c.requires.types) c.in_ok-arrays.ensures.cells c.shape.result c.shape.ensures.err

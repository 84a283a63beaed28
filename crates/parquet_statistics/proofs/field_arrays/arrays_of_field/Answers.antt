use Rattle.std.proofs.Common.{List, map}
use Rattle.std.specs.Global.{Global}
use Rattle.std.specs.Prelude.{Vec}
use Rattle.columns_core.specs.declared.cell.Cell.{Cell}
use Rattle.parquet_meta.specs.declared.metadata.Ends.{Ends}
use Rattle.parquet_statistics.specs.Deserialized.{causes_of_arrays, count_array_causes, end_array_causes}
use Rattle.parquet_statistics.specs.CountType.{count_type}
use Rattle.parquet_statistics.proofs.ToldLemmas.{right_part, told_of_part}
use Rattle.parquet_statistics.proofs.field_arrays.arrays_of_field.Goals as goal

abbrev items : Vec (Ends Cell) Global → List (Ends Cell)
items column = column.items

pub returns-in-Err-clause-cause : goal.returns-in-Err-clause-cause
returns-in-Err-clause-cause c =
    let data_type = c.args.data_type.now in
    let told = map items c.args.told.now in
    told_of_part (end_array_causes data_type told) (causes_of_arrays data_type told) c.in-Err.e (right_part (count_array_causes (count_type data_type) told) (end_array_causes data_type told)) c.in-Err.ensures.cause

use Rattle.parquet_thrift.specs.Values.{in_struct, in_list, elements, fields_of, value}
use Rattle.parquet_thrift.proofs.Fronts as fronts
use Rattle.parquet_thrift.proofs.laws.bytes_spell_one_value.Goals as goal

pub returns : goal.returns
returns c = record {
  values = λ context kind. fronts.spells_once (fronts.least context) (value context kind) (fronts.value-front context kind);
  lists = λ kind count. fronts.spells_once count (elements (value in_list kind) count) (fronts.list_elements-front kind count);
  structs = λ previous. fronts.spells_once 1 (fields_of (value in_struct) previous) (fronts.fields-front previous);
}

use Rattle.parquet_thrift.specs.Values.{in_struct, in_list}
use Rattle.parquet_thrift.proofs.Fronts as fronts
use Rattle.parquet_thrift.proofs.laws.values_are_read_from_their_own_bytes.Goals as goal

pub returns : goal.returns
returns c = record {
  varints = fronts.varint-front;
  numbers = fronts.signed-front;
  bytes = fronts.signed_byte-front;
  binaries = fronts.bytes_of_length-front;
  truths = fronts.list_truth-front;
  field_headers = fronts.field_header-front;
  list_headers = fronts.list_header-front;
  map_headers = fronts.map_header-front;
  in_structs = fronts.value-front in_struct;
  in_lists = fronts.value-front in_list;
  lists = fronts.list_elements-front;
  structs = fronts.fields-front;
}

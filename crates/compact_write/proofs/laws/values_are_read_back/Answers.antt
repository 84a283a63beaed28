use Rattle.compact_write.proofs.WrittenLemmas.{value-written, element-written, fields-written}
use Rattle.compact_write.proofs.laws.values_are_read_back.Goals as goal

pub returns : goal.returns
returns c = record {
  in_structs = value-written;
  in_lists = element-written;
  structs = fields-written 0;
}

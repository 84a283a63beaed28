use Rattle.parquet_thrift.proofs.Fronts.{elements-none}
use Rattle.parquet_thrift.proofs.laws.longer_lists_are_not_spelled.Goals as goal

pub returns : goal.returns
returns c = elements-none

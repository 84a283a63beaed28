use Rattle.parquet_plain.proofs.SpelledLemmas.{spelled-written}
use Rattle.parquet_plain.proofs.laws.bodies_are_read_back.Goals as goal

pub returns : goal.returns
returns c = λ type items dictionary. spelled-written type.physical_type type.repetition type.logical_type items dictionary

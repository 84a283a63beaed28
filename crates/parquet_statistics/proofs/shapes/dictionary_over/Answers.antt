use Rattle.parquet_statistics.proofs.KeysInTurn.{keyed_over}
use Rattle.parquet_statistics.proofs.shapes.dictionary_over.Goals as goal

pub returns-in-Ok-clause-keys : goal.returns-in-Ok-clause-keys
returns-in-Ok-clause-keys c = keyed_over c.dictionary_of.result c.args.data_type.now c.in-Ok.data_type c.args.entries c.dictionary_of.ensures.array c.dictionary_of.ensures.keys

use Rattle.parquet_statistics.proofs.CountedLemmas.{all_keys}
use Rattle.parquet_statistics.proofs.dictionaries.first_keys.Goals as goal

pub returns-clause-keys : goal.returns-clause-keys
returns-clause-keys g c =
    all_keys g.K.DictionaryKey.number c.try_new.result c.data_type.result c.in_ok-keys.keys.items c.args.count c.in_ok-keys.ensures.keys c.try_new.ensures.array

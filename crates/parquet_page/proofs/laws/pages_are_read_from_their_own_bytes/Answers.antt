use Rattle.parquet_page.proofs.AloneLemmas.{data_front, dictionary_front}
use Rattle.parquet_page.proofs.laws.pages_are_read_from_their_own_bytes.Goals as goal

pub returns-clause-data : goal.returns-clause-data
returns-clause-data c = data_front

pub returns-clause-dictionary : goal.returns-clause-dictionary
returns-clause-dictionary c = dictionary_front

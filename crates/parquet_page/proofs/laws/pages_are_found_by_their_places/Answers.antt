use Rattle.parquet_page.specs.Alone.{IsReadAlone}
use Rattle.parquet_page.specs.Chunk.{pages_of_chunk}
use Rattle.parquet_page.proofs.AloneLemmas.{dictionary_alone, each_alone, pages_alone}
use Rattle.parquet_page.proofs.laws.pages_are_found_by_their_places.Goals as goal

pub returns-clause-data : goal.returns-clause-data
returns-clause-data c chunk count = each_alone (IsReadAlone chunk) (pages_of_chunk count chunk) (pages_alone chunk count)

pub returns-clause-dictionary : goal.returns-clause-dictionary
returns-clause-dictionary c = dictionary_alone

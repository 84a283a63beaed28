use Rattle.parquet_page.proofs.SelectionLemmas.{pages_adjacent}
use Rattle.parquet_page.proofs.laws.pages_lie_one_behind_the_other.Goals as goal

pub returns : goal.returns
returns c = pages_adjacent

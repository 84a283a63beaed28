use Rattle.parquet_page.proofs.SelectionLemmas.{pages_select}
use Rattle.parquet_page.proofs.laws.pages_select_each_row_once.Goals as goal

pub returns : goal.returns
returns c = pages_select

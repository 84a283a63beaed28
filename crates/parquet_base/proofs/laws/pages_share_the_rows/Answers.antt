use Rattle.parquet_base.proofs.RowLemmas.{pages-share}
use Rattle.parquet_base.proofs.laws.pages_share_the_rows.Goals as goal

pub returns : goal.returns
returns c = pages-share

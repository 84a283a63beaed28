use Rattle.parquet_plain.proofs.PieceLemmas.{cut-joined, cut-sum}
use Rattle.parquet_plain.proofs.laws.pages_hold_all_items.Goals as goal

pub returns : goal.returns
returns c = record { whole = cut-joined; count = cut-sum }

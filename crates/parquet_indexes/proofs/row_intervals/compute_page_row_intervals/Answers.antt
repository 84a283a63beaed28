use Rattle.std.proofs.lemmas.Result.{IfOk-weaker}
use Rattle.parquet_indexes.proofs.RowLemmas.{all_rows}
use Rattle.parquet_indexes.proofs.row_intervals.compute_page_row_intervals.Goals as goal

pub returns-clause-adjacent : goal.returns-clause-adjacent
returns-clause-adjacent c =
    IfOk-weaker c.page_row_intervals.result _ _ (λ intervals rows first. all_rows c.args.locations.now c.args.num_rows intervals.items rows first) c.page_row_intervals.ensures.rows

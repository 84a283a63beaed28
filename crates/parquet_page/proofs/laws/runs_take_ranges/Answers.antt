use Rattle.parquet_page.proofs.PlanLemmas.{along-null, along-passed, along-present}
use Rattle.parquet_page.proofs.laws.runs_take_ranges.Goals as goal

pub returns-clause-present : goal.returns-clause-present
returns-clause-present c = along-present

pub returns-clause-null : goal.returns-clause-null
returns-clause-null c = along-null

pub returns-clause-passed : goal.returns-clause-passed
returns-clause-passed c = along-passed

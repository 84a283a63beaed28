use Rattle.parquet_page.proofs.PlanLemmas.{along-plan}
use Rattle.parquet_page.proofs.laws.plans_give_selected_places.Goals as goal

pub returns : goal.returns
returns c = along-plan

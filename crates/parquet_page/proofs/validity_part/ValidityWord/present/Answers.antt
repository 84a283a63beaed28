use Rattle.parquet_page.proofs.WordLemmas.{ones_present}
use Rattle.parquet_page.proofs.validity_part.ValidityWord.present.Goals as goal

pub returns : goal.returns
returns c = ones_present c.args.self.bits c.args.self.rows c.args.self.within

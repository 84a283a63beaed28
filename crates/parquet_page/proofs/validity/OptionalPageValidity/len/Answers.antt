use Rattle.parquet_page.proofs.ValidityLemmas.{left-len}
use Rattle.parquet_page.proofs.validity.OptionalPageValidity.len.Goals as goal

pub returns : goal.returns
returns c page some = left-len c.args.self.now.runs page c.len.result c.len.ensures some

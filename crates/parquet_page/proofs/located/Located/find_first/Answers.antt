use Rattle.parquet_page.specs.LocatedLeft.{data_left}
use Rattle.parquet_page.proofs.FirstLemmas.{finds_first, first_is_over}
use Rattle.parquet_page.proofs.located.Located.find_first.Goals as goal

pub returns-then-self : goal.returns-then-self
returns-then-self c type = let s = c.args.self.now in finds_first type s c.part_before.result.now c.find_dictionary.result c.part_before.ensures c.if-self.true c.requires (c.find_dictionary.ensures (data_left type s))

pub returns-else-self : goal.returns-else-self
returns-else-self c type = first_is_over type c.args.self.now c.if-self.false

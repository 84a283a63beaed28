use Rattle.std.proofs.Common.{refl}
use Rattle.parquet_page.proofs.CursorLemmas.{lends_none}
use Rattle.parquet_page.proofs.cursor.Cursor.next.Goals as goal

pub returns-then-self-eq0-clause-walks : goal.returns-then-self-eq0-clause-walks
returns-then-self-eq0-clause-walks c kind = let over = lends_none _ kind c.args.self.now.is_first c.args.self.now.left _ c.if-self-eq0.true in (over, over, refl)

pub returns-in-Err-clause-walks : goal.returns-in-Err-clause-walks
returns-in-Err-clause-walks c kind = (c.in-Err.ensures.opens kind, lends_none _ kind c.open.new.self.is_first 0 _ refl)

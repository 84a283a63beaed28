use Rattle.std.proofs.Common.{refl, arith}
use Rattle.parquet_page.proofs.LocatedLemmas.{all_lent}
use Rattle.parquet_page.proofs.located.Located.next.Goals as goal

pub returns-then-self-len-clause-walks : goal.returns-then-self-len-clause-walks
returns-then-self-len-clause-walks c type =
    let s = c.args.self.now in
    let over = all_lent type s.parts s.is_first s.next s.entries.items (omega (arith, c.if-self-len.true, c.len.ensures, s.entries.ok)) in
    (over, over, refl)

pub returns-in-Err-clause-walks : goal.returns-in-Err-clause-walks
returns-in-Err-clause-walks c type = (c.in-Err.ensures.opens type, all_lent type c.open.new.self.parts c.open.new.self.is_first _ c.open.new.self.entries.items (omega (arith, c.len-self.ensures, c.open.new.self.entries.ok)))

use Rattle.std.proofs.Common.{drop, arith}
use Rattle.parquet_page.proofs.LocatedLemmas.{fewer_rows, rows_left}
use Rattle.parquet_page.proofs.indexed.IndexedPageReaderPages.rows.Goals as goal

pub returns-clause-sum : goal.returns-clause-sum
returns-clause-sum c none =
    let s = c.args.self.now.located in
    omega (arith, s.sum, fewer_rows s.entries.items s.next, rows_left c.args.self.now.type_ s.parts s.is_first s.next (drop s.next s.entries.items) none)

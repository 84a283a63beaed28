use Rattle.std.proofs.Common.{arith}
use Rattle.parquet_page.proofs.RowSums.{left_is_to_come}
use Rattle.parquet_page.proofs.reader.PageReaderPages.rows.Goals as goal

pub returns-clause-sum : goal.returns-clause-sum
returns-clause-sum c none =
    let s = c.args.self.now.cursor in
    omega (arith, s.fewer, left_is_to_come _ c.args.self.now.type_ s.is_first s.left _ none)

use Rattle.parquet_read.proofs.GroupReaderLemmas.{group_goes}
use Rattle.parquet_read.proofs.group_reader.RowGroupReaderIterator.next.Goals as goal

pub returns-clause-goes : goal.returns-clause-goes
returns-clause-goes g c = group_goes g.S.Source (λ _. tt) c.args.self.now c.next_group.result c.next_group.new.self c.next_group.ensures

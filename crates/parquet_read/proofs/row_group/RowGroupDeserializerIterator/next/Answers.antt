use Rattle.parquet_read.specs.RowGroup.{group_left}
use Rattle.parquet_read.proofs.GroupLemmas.{goes}
use Rattle.parquet_read.proofs.row_group.RowGroupDeserializerIterator.next.Goals as goal

pub returns-clause-goes : goal.returns-clause-goes
returns-clause-goes c =
    let given = c.next_alone.ensures.given in
    goes group_left (λ _. tt) c.args.self.now c.next_alone.result c.next_alone.new.self 0 given.0 given.1

use Rattle.parquet_read.proofs.FileLemmas.{file_goes}
use Rattle.parquet_read.proofs.file_reader.FileReaderIterator.next.Goals as goal

pub returns-clause-goes : goal.returns-clause-goes
returns-clause-goes g c =
    let given = c.next_alone.ensures.given in
    file_goes g.S.Source (λ _. tt) c.args.self.now c.next_alone.result c.next_alone.new.self 0 given.0 given.1

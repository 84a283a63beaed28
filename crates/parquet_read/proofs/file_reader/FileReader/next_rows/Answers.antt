use Rattle.parquet_read.proofs.FileLemmas.{answers_at_hand}
use Rattle.parquet_read.proofs.file_reader.FileReader.next_rows.Goals as goal

pub returns-in-Some : goal.returns-in-Some
returns-in-Some g c =
    answers_at_hand g.S.Source c.args.self.now c.in-Some.group c.next_counted.result c.next_counted.new.self c.args.steps.now c.next_counted.new.steps
    c.in-Some.is c.requires c.next_counted.ensures

use Rattle.parquet_read.proofs.ChunkLemmas.{have_first_rows, have_rows}
use Rattle.parquet_read.proofs.laws.chunks_have_the_rows_of_the_columns.Goals as goal

pub returns-clause-rows : goal.returns-clause-rows
returns-clause-rows c = have_rows

pub returns-clause-first : goal.returns-clause-first
returns-clause-first c = have_first_rows

use Rattle.parquet_meta.specs.Footer.{column_chunk}
use Rattle.parquet_meta.proofs.Rules.{IsReadingList}
use Rattle.parquet_meta.proofs.footer.decode_chunks.Given as goal

abbrev pub invariant-chunks : goal.invariant-chunks
invariant-chunks l = IsReadingList column_chunk l.kind l.count l.fn.compact l.counter l.chunks l.compact

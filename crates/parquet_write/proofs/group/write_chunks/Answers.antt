use Rattle.std.proofs.Common.{arith}
use Rattle.std.proofs.lemmas.List.Elements.{All-nil}
use Rattle.parquet_write.specs.Told.{IsTellableChunk}
use Rattle.parquet_write.proofs.GroupLemmas.{chunks_begin, chunks_end, chunks_go_on}
use Rattle.parquet_write.proofs.ListLemmas.{all_have, one_has}
use Rattle.parquet_write.proofs.group.write_chunks.Goals as goal

pub loop-i-init : goal.loop-i-init
loop-i-init c = record { written = chunks_begin c.args.columns.now c.args.bases c.args.chunks.now c.args.out.now.items; few = All-nil (IsTellableChunk c.args.bases) }

pub loop-i-preserved : goal.loop-i-preserved
loop-i-preserved c = record {
  written = chunks_go_on c.args.columns.now c.args.bases c.args.chunks.now c.args.out.now.items c.loop-i.out.items _ c.loop-i.i c.index-columns-i.result c.index-chunks-i.result (omega (arith, c.requires.even)) (omega arith)
      c.index-columns-i.is c.index-chunks-i.is c.loop-i.invariant.written c.in_ok-write_chunk.ensures.written;
  few = one_has (IsTellableChunk c.args.bases) c.args.chunks.now c.loop-i.i c.index-chunks-i.result (omega arith) c.index-chunks-i.is c.loop-i.invariant.few c.in_ok-write_chunk.ensures.few;
}

pub returns : goal.returns
returns c = record {
  written = chunks_end c.args.columns.now c.args.bases c.args.chunks.now c.args.out.now.items c.loop-i.out.items c.loop-i.i (omega arith) c.loop-i.invariant.written;
  few = all_have (IsTellableChunk c.args.bases) c.args.chunks.now c.loop-i.i (omega arith) c.loop-i.invariant.few;
}

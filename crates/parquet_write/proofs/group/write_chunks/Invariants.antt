use Rattle.std.proofs.Common.{take}
use Rattle.std.specs.Prelude.{All}
use Rattle.parquet_write.proofs.GroupLemmas.{IsWritingChunks}
use Rattle.parquet_write.specs.Told.{IsTellableChunk}
use Rattle.parquet_write.proofs.group.write_chunks.Given as goal

abbrev pub invariant-loop-i : goal.invariant-loop-i
invariant-loop-i l = record {
  written : IsWritingChunks l.columns l.bases l.chunks l.initial.out.items l.out.items l.i;
  few : All (IsTellableChunk l.bases) (take l.i l.chunks);
}

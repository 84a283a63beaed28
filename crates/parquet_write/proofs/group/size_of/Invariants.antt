use Rattle.std.proofs.Common.{◌≡◌, sum_by, take}
use Rattle.parquet_write.specs.declared.facts.ChunkFacts.{ChunkFacts}
use Rattle.parquet_write.proofs.group.size_of.Given as goal

abbrev pub invariant-loop-chunk : goal.invariant-loop-chunk
invariant-loop-chunk l = l.size ≡ sum_by (λ (chunk : ChunkFacts). chunk.size) (take l.chunk-index l.chunks)

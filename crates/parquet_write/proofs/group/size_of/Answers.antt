use Rattle.std.proofs.Common.{◌+◌, ap, sym, ◌∙◌, refl, sum_by, List, take}
use Rattle.std.proofs.lemmas.List.{take_all}
use Rattle.std.proofs.lemmas.List.Sums.{sum_by_more}
use Rattle.parquet_write.specs.declared.facts.ChunkFacts.{ChunkFacts}
use Rattle.parquet_write.proofs.group.size_of.Goals as goal

pub loop-chunk-init : goal.loop-chunk-init
loop-chunk-init c = refl

pub loop-chunk-preserved : goal.loop-chunk-preserved
loop-chunk-preserved c =
    let more = sum_by_more (λ (chunk : ChunkFacts). chunk.size) c.args.chunks.now c.loop-chunk.chunk-index c.chunk-item.result c.loop-chunk-test.true in
    let own = ap (λ (chunk : ChunkFacts). chunk.size) c.chunk-item.is in
    c.in_ok-size.ensures.ok ∙ ap (λ n. n + c.chunk-item.result.size) c.loop-chunk.invariant ∙ ap (λ n. sum_by (λ (chunk : ChunkFacts). chunk.size) (take c.loop-chunk.chunk-index c.args.chunks.now) + n) own ∙ sym more

pub returns : goal.returns
returns c = c.loop-chunk.invariant ∙ ap (λ (chunks : List ChunkFacts). sum_by (λ (chunk : ChunkFacts). chunk.size) chunks) (take_all c.loop-chunk.chunk-index c.args.chunks.now c.loop-chunk-test.false)

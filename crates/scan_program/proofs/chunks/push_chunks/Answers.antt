use Rattle.std.proofs.Common.{arith}
use Rattle.parquet_scan.specs.Cells.{columns_of_chunk}
use Rattle.pq_common.proofs.TakenLemmas.{piece_refused, piece_taken}
use Rattle.scan_program.specs.Report.{chunk_lines}
use Rattle.scan_program.proofs.ReportLemmas.{mapped_left}
use Rattle.scan_program.proofs.chunks.push_chunks.Goals as goal

pub returns-in_err-push_chunk : goal.returns-in_err-push_chunk
returns-in_err-push_chunk g c =
    piece_refused g.K.Sink _ _ _ _ c.loop-chunk.block _ _ _ _ _ _ _ c.from_residual.ensures.0
    (mapped_left chunk_lines columns_of_chunk c.args.chunks.now c.loop-chunk.chunk-index c.chunk-item.result (omega arith) c.chunk-item.is) c.loop-chunk.invariant c.in_err-push_chunk.ensures

pub loop-chunk-preserved : goal.loop-chunk-preserved
loop-chunk-preserved g c =
    piece_taken g.K.Sink _ _ _ _ c.loop-chunk.block _ _ _ _ _
    (mapped_left chunk_lines columns_of_chunk c.args.chunks.now c.loop-chunk.chunk-index c.chunk-item.result (omega arith) c.chunk-item.is) c.loop-chunk.invariant c.in_ok-push_chunk.ensures

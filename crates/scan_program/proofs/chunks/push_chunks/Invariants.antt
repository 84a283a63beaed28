use Rattle.std.proofs.Common.{◌++◌, drop, map}
use Rattle.std.specs.List.{flat_map}
use Rattle.parquet_scan.specs.Cells.{columns_of_chunk}
use Rattle.pq_common.proofs.TakenLemmas.{Leaves}
use Rattle.scan_program.specs.Report.{chunk_lines}
use Rattle.scan_program.proofs.chunks.push_chunks.Given as goal

-- what is held and the lines of the chunks that are left are not yet written
abbrev pub invariant-loop-chunk : goal.invariant-loop-chunk
invariant-loop-chunk g l =
    Leaves g.K.Sink l.initial.out l.out (l.initial.block ++ flat_map chunk_lines (map columns_of_chunk l.chunks))
    (l.block ++ flat_map chunk_lines (map columns_of_chunk (drop l.chunk-index l.chunks)))

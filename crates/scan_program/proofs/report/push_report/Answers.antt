use Rattle.std.proofs.Common.{◌≡◌, ◌++◌, if◌then◌else◌, map, sym}
use Rattle.std.specs.List.{enumerate_from, flat_map}
use Rattle.parquet_scan.specs.Cells.{columns_of_chunk}
use Rattle.parquet_scan.specs.Scan.{kept_of}
use Rattle.pq_common.proofs.TakenLemmas.{begun, last_taken, piece_taken}
use Rattle.scan_program.specs.Program.{report_of}
use Rattle.scan_program.specs.Report.{chunk_lines, group_line, summary_lines}
use Rattle.scan_program.proofs.report.push_report.Goals as goal

pub returns-then-scanned : goal.returns-then-scanned
returns-then-scanned g c =
    let scan = c.args.scanned.now.scan in
    let groups = flat_map group_line (enumerate_from 0 (map kept_of c.as_slice.result.now)) in
    let parts : report_of c.args.scanned.now.summary scan ≡ groups ++ summary_lines scan.rows scan.pages =
    λ i. flat_map group_line (enumerate_from 0 (map kept_of (sym c.as_slice.ensures i)))
    ++ (if c.if-scanned.true i then summary_lines scan.rows scan.pages else flat_map chunk_lines (map columns_of_chunk scan.chunks)) in
    last_taken g.K.Sink _ _ _ _ _ _ _ (piece_taken g.K.Sink _ _ _ _ c.args.block.now _ groups _ _ _ parts (begun g.K.Sink _ _) c.in_ok-push_groups.ensures) c.push_summary.ensures

pub returns-else-scanned : goal.returns-else-scanned
returns-else-scanned g c =
    let scan = c.args.scanned.now.scan in
    let groups = flat_map group_line (enumerate_from 0 (map kept_of c.as_slice.result.now)) in
    let parts : report_of c.args.scanned.now.summary scan ≡ groups ++ flat_map chunk_lines (map columns_of_chunk c.as_slice-else-scanned.result.now) =
    λ i. flat_map group_line (enumerate_from 0 (map kept_of (sym c.as_slice.ensures i)))
    ++ (if c.if-scanned.false i then summary_lines scan.rows scan.pages else flat_map chunk_lines (map columns_of_chunk (sym c.as_slice-else-scanned.ensures i))) in
    last_taken g.K.Sink _ _ _ _ _ _ _ (piece_taken g.K.Sink _ _ _ _ c.args.block.now _ groups _ _ _ parts (begun g.K.Sink _ _) c.in_ok-push_groups.ensures) c.push_chunks.ensures

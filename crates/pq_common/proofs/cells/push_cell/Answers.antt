use Rattle.std.proofs.Common.{◌≡◌, [], ap, arith}
use Rattle.std.specs.Option.{option_map_or}
use Rattle.std.proofs.lemmas.Option.{slice_get_past}
use Rattle.columns_core.specs.Array.{column_of}
use Rattle.pq_common.specs.CellText.{cell_text}
use Rattle.pq_common.specs.Rows.{cell_at}
use Rattle.pq_common.proofs.TakenLemmas.{begun, ended}
use Rattle.pq_common.proofs.cells.push_cell.Goals as goal

-- no cell, no text
pub returns-then-row-len : goal.returns-then-row-len
returns-then-row-len g c =
    let column = column_of c.args.array.now in
    let none : cell_at c.args.row column ≡ [] =
    ap (λ found. option_map_or cell_text found []) (slice_get_past column.1 c.args.row (omega (arith, c.len.ensures, c.if-row-len.true))) in
    rw none (ended g.K.Sink _ _ _ c.args.block.now _ (begun g.K.Sink _ _))

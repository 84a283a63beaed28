use Rattle.std.proofs.Common.{◌++◌, length}
use Rattle.std.specs.List.{flat_map}
use Rattle.pq_common.specs.CellText.{quoted_byte}
use Rattle.pq_common.proofs.TakenLemmas.{Leaves}
use Rattle.pq_common.proofs.cells.push_pieces.Given as goal

-- what is held and the bytes that are left are not yet written
abbrev pub invariant-loop-piece : goal.invariant-loop-piece
invariant-loop-piece g l = Leaves g.K.Sink l.initial.out l.out (l.initial.block ++ flat_map quoted_byte l.bytes) (l.block ++ flat_map quoted_byte l.rest)

abbrev pub decreases-loop-piece : goal.decreases-loop-piece
decreases-loop-piece g l = length l.rest

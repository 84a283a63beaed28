use Rattle.std.proofs.Common.{◌++◌, codes, refl}
use Rattle.std.specs.Fmt.{decimal}
use Rattle.pq_common.proofs.TakenLemmas.{begun, last_taken, piece_refused, piece_taken}
use Rattle.scan_program.proofs.chunks.push_chunk_line.Goals as goal

pub returns-in_err-push_labelled : goal.returns-in_err-push_labelled
returns-in_err-push_labelled g c =
    piece_refused g.K.Sink _ _ _ _ c.args.block.now _ (codes "chunk " ++ decimal c.args.rows) _ (codes "\n") _ _ _ c.from_residual.ensures.0 refl (begun g.K.Sink _ _) c.in_err-push_labelled.ensures

pub returns : goal.returns
returns g c =
    let count = piece_taken g.K.Sink _ _ _ _ c.args.block.now _ (codes "chunk " ++ decimal c.args.rows) _ (codes "\n") _ refl (begun g.K.Sink _ _) c.in_ok-push_labelled.ensures in
    last_taken g.K.Sink _ _ _ _ _ _ _ count c.push.ensures

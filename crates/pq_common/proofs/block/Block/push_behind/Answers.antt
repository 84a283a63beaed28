use Rattle.std.proofs.Common.{List, ℕ, [], ◌++◌, sym, subst}
use Rattle.pq_common.specs.Taken.{TakesBytes}
use Rattle.pq_common.proofs.TakenLemmas.{Leaves, begun, front_taken, last_taken, straight}
use Rattle.pq_common.proofs.block.Block.push_behind.Goals as goal

pub returns-then-piece-gt-BLOCK_BYTES : goal.returns-then-piece-gt-BLOCK_BYTES
returns-then-piece-gt-BLOCK_BYTES g c =
    let sink = g.K.Sink in
    let piece = c.args.piece.now in
    let text = c.args.self.now ++ piece in
    let written = c.write_all.ensures in
    let flushed : Leaves sink c.args.out.now c.flush.new.out text (c.flush.new.self ++ piece) =
    front_taken sink _ _ _ text c.args.self.now c.flush.new.self piece _ (begun sink c.args.out.now text) c.in_ok-flush.ensures.taken in
    subst (λ (rest : List ℕ). TakesBytes sink c.args.out.now c.write_all.new.out text rest c.write_all.result) (sym c.in_ok-flush.ensures.empty)
    (last_taken sink _ _ _ text piece [] _ (subst (λ (rest : List ℕ). Leaves sink c.args.out.now c.flush.new.out text (rest ++ piece)) c.in_ok-flush.ensures.empty flushed)
    (straight sink _ _ piece _ written.ok written.err written.counted written.quiet))

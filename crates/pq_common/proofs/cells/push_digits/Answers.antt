use Rattle.std.proofs.Common.{◌∙◌, ◌++◌, ◌+◌, ap, arith, drop, sym}
use Rattle.std.specs.List.{flat_map}
use Rattle.std.proofs.lemmas.List.{at_drop_more}
use Rattle.pq_common.specs.CellText.{hexadecimal}
use Rattle.pq_common.proofs.TakenLemmas.{piece_refused, piece_taken}
use Rattle.pq_common.proofs.cells.push_digits.Goals as goal

pub returns-in_err-push : goal.returns-in_err-push
returns-in_err-push g c =
    let i = c.loop-byte.byte-index in
    let parts = at_drop_more (flat_map hexadecimal) c.args.bytes.now i 0 (omega arith) in
    let digits = ap (λ piece. piece ++ flat_map hexadecimal (drop (i + 1) c.args.bytes.now)) (sym c.digits_of.ensures) in
    piece_refused g.K.Sink _ _ _ _ c.loop-byte.block _ _ _ _ _ _ _ c.from_residual.ensures.0 (parts ∙ digits) c.loop-byte.invariant c.in_err-push.ensures

pub loop-byte-preserved : goal.loop-byte-preserved
loop-byte-preserved g c =
    let i = c.loop-byte.byte-index in
    let parts = at_drop_more (flat_map hexadecimal) c.args.bytes.now i 0 (omega arith) in
    let digits = ap (λ piece. piece ++ flat_map hexadecimal (drop (i + 1) c.args.bytes.now)) (sym c.digits_of.ensures) in
    piece_taken g.K.Sink _ _ _ _ c.loop-byte.block _ _ _ _ _ (parts ∙ digits) c.loop-byte.invariant c.in_ok-push.ensures

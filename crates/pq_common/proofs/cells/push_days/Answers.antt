use Rattle.std.proofs.Common.{◌≡◌, ℤ, ◌++◌, append_assoc, codes, refl, to_z-of_z}
use Rattle.std.specs.Fmt.{signed_decimal}
use Rattle.pq_common.specs.CellText.{days_text}
use Rattle.pq_common.proofs.TakenLemmas.{begun, last_taken, piece_refused, piece_taken}
use Rattle.pq_common.proofs.cells.push_days.Goals as goal

-- the days, a slash and the milliseconds
parts : (days milliseconds : ℤ) → days_text days milliseconds ≡ signed_decimal days ++ (codes "/" ++ signed_decimal milliseconds)
parts days milliseconds = append_assoc (signed_decimal days) (codes "/") (signed_decimal milliseconds)

pub returns-in_err-push_signed : goal.returns-in_err-push_signed
returns-in_err-push_signed g c =
    piece_refused g.K.Sink _ _ _ _ c.args.block.now _ (signed_decimal c.args.days) _ _ _ _ _ c.from_residual.ensures.0 (parts c.args.days c.args.milliseconds) (begun g.K.Sink _ _)
    (rw (to_z-of_z c.ranges.days) at c.in_err-push_signed.ensures)

pub returns-in_err-push : goal.returns-in_err-push
returns-in_err-push g c =
    let days = piece_taken g.K.Sink _ _ _ _ c.args.block.now _ (signed_decimal c.args.days) _ _ _ (parts c.args.days c.args.milliseconds) (begun g.K.Sink _ _)
    (rw (to_z-of_z c.ranges.days) at c.in_ok-push_signed.ensures) in
    piece_refused g.K.Sink _ _ _ _ c.push_signed.new.self _ (codes "/") _ _ _ _ _ c.from_residual-in_err-push.ensures.0 refl days c.in_err-push.ensures

pub returns : goal.returns
returns g c =
    let days = piece_taken g.K.Sink _ _ _ _ c.args.block.now _ (signed_decimal c.args.days) _ _ _ (parts c.args.days c.args.milliseconds) (begun g.K.Sink _ _)
    (rw (to_z-of_z c.ranges.days) at c.in_ok-push_signed.ensures) in
    let between = piece_taken g.K.Sink _ _ _ _ c.push_signed.new.self _ (codes "/") _ (signed_decimal c.args.milliseconds) _ refl days c.in_ok-push.ensures in
    last_taken g.K.Sink _ _ _ _ _ _ _ between (rw (to_z-of_z c.ranges.milliseconds) at c.push_signed-2.ensures)

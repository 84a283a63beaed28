use Rattle.std.proofs.Common.{◌≡◌, ◌+◌, ◌<◌, ◌≤◌, arith, length, subst}
use Rattle.std.specs.Prelude.{slice_index}
use Rattle.std.proofs.lemmas.Str.{lead_after_ascii}
use Rattle.scan_program.proofs.items.split_bound.Goals as goal

pub range_from-requires : goal.range_from-requires
range_from-requires c =
    let text = c.args.text.now in
    let at = c.in_ok-at.at in
    let sign = c.in_ok-at.ensures.sign in
    let two : at + 1 + 1 ≡ at + 2 = omega arith in
    let ascii : slice_index text (at + 1) < 128 = grind (arith, sign) in
    λ _. (grind (arith, sign), subst (λ n. n < length text → 128 ≤ slice_index text n → 192 ≤ slice_index text n) two (λ less lead. lead_after_ascii text (at + 1) c.utf8.text ascii less lead))

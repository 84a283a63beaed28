use Rattle.std.proofs.Common.{arith}
use Rattle.std.proofs.lemmas.Str.{lead_after_ascii}
use Rattle.scan_program.proofs.items.split_field.Goals as goal

pub range_from-requires : goal.range_from-requires
range_from-requires c =
    let colon = c.in_ok-at.ensures.colon in
    λ _. (grind (arith, colon), λ less lead. lead_after_ascii c.args.text.now c.in_ok-at.at c.utf8.text (grind (arith, colon)) less lead)

use Rattle.std.proofs.Common.{◌∙◌, ◌<◌, ap, arith, refl, sym}
use Rattle.std.specs.Prelude.{is_ok}
use Rattle.flat_binary.proofs.JoinedLemmas.{none-spelled}
use Rattle.flat_binary.proofs.delta.open_strings.Goals as goal

pub returns-in-Err-clause-refused : goal.returns-in-Err-clause-refused
returns-in-Err-clause-refused c =
    let some : 0 < c.args.count = omega arith in
    (refl, none-spelled c.args.bytes.now c.args.count some (sym c.try_new.ensures.exact ∙ ap is_ok c.in-Err.is))

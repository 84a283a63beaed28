use Rattle.std.proofs.Common.{◌∙◌, ap, sym}
use Rattle.std.specs.Prelude.{◌==◌, option_copied, unwrap_or}
use Rattle.inspect_program.proofs.SingleLemmas.{finds_one, single}
use Rattle.inspect_program.proofs.singles.is_single.Goals as goal

pub returns-in-Some : goal.returns-in-Some
returns-in-Some c = λ columns counts.
    c.eq.ensures ∙ finds_one c.copied.result ∙ ap (λ o. unwrap_or o 0 == 1) (c.copied.ensures ∙ c.get.ensures.value)
    ∙ single c.args.counts.now columns c.args.column.now c.in-Some.name.now (sym c.first_name.ensures ∙ ap option_copied c.in-Some.is) counts

use Rattle.std.proofs.Common.{◌∙◌, ap, sym}
use Rattle.std.specs.Prelude.{is_some}
use Rattle.flat_values.specs.Pairs.{page_conversion}
use Rattle.flat_values.proofs.PairLemmas.{page_of_entries}
use Rattle.flat_values.proofs.pairs.+carries_page.Goals as goal

pub returns-in-Dictionary : goal.returns-in-Dictionary
returns-in-Dictionary t c =
    let physical = c.args.type_.now.physical_type in
    let logical = c.args.type_.now.logical_type in
    let same = page_of_entries physical logical c.in-Dictionary.field-0 c.in-Dictionary.values c.in-Dictionary.field-2 in
    c.carries_page.ensures ∙ ap (λ d. is_some (page_conversion physical logical d)) c.get.ensures ∙ sym (ap is_some (ap (page_conversion physical logical) c.in-Dictionary.is ∙ same))

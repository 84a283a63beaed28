use Rattle.std.proofs.Common.{◌∙◌, ap, sym}
use Rattle.flat_values.specs.Pairs.{page_conversion}
use Rattle.flat_values.proofs.PairLemmas.{page_of_entries}
use Rattle.column_ends.proofs.rules.+page_rule.Goals as goal

pub returns-in-Dictionary-clause-rule : goal.returns-in-Dictionary-clause-rule
returns-in-Dictionary-clause-rule t c =
    let physical = c.args.stored.now.physical_type in
    let logical = c.args.stored.now.logical_type in
    let same = page_of_entries physical logical c.in-Dictionary.field-0 c.in-Dictionary.values c.in-Dictionary.field-2 in
    c.page_rule.ensures.rule ∙ ap (page_conversion physical logical) c.get.ensures ∙ sym (ap (page_conversion physical logical) c.in-Dictionary.is ∙ same)

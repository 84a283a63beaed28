use Rattle.std.proofs.Common.{◌∙◌, ap, sym}
use Rattle.flat_values.specs.Pairs.{leaf_conversion}
use Rattle.flat_values.proofs.PairLemmas.{leaf_of_entries}
use Rattle.column_ends.proofs.rules.+statistics_rule.Goals as goal

pub returns-in-Dictionary-clause-rule : goal.returns-in-Dictionary-clause-rule
returns-in-Dictionary-clause-rule t c =
    let physical = c.args.stored.now.physical_type in
    let logical = c.args.stored.now.logical_type in
    let same = leaf_of_entries physical logical c.in-Dictionary.field-0 c.in-Dictionary.values c.in-Dictionary.field-2 in
    c.statistics_rule.ensures.rule ∙ ap (leaf_conversion physical logical) c.get.ensures ∙ sym (ap (leaf_conversion physical logical) c.in-Dictionary.is ∙ same)

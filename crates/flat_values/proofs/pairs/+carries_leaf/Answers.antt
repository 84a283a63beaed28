use Rattle.std.proofs.Common.{◌∙◌, ap, sym}
use Rattle.std.specs.Prelude.{is_some}
use Rattle.flat_values.specs.Pairs.{leaf_conversion}
use Rattle.flat_values.proofs.PairLemmas.{leaf_of_entries}
use Rattle.flat_values.proofs.pairs.+carries_leaf.Goals as goal

pub returns-in-Dictionary : goal.returns-in-Dictionary
returns-in-Dictionary t c =
    let physical = c.args.type_.now.physical_type in
    let logical = c.args.type_.now.logical_type in
    let same = leaf_of_entries physical logical c.in-Dictionary.field-0 c.in-Dictionary.values c.in-Dictionary.field-2 in
    c.carries_leaf.ensures ∙ ap (λ d. is_some (leaf_conversion physical logical d)) c.get.ensures ∙ sym (ap is_some (ap (leaf_conversion physical logical) c.in-Dictionary.is ∙ same))

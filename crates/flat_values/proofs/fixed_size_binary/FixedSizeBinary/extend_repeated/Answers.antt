use Rattle.std.proofs.Common.{◌∙◌, ◌%◌, ap, length, replicate, sym}
use Rattle.columns_core.specs.Fixed.{fixed_pieces}
use Rattle.flat_values.proofs.ItemLemmas.{items_more, with_repeated}
use Rattle.flat_values.proofs.fixed_size_binary.FixedSizeBinary.extend_repeated.Goals as goal

pub returns-clause-ok : goal.returns-clause-ok
returns-clause-ok c =
    let size = c.self.inside.size in
    let bytes = c.self.inside.values.items in
    let long = c.requires ∙ ap (λ v. v.size) (sym c.self.view_is) in
    items_more c.args.self.now size bytes c.repeat.new.values.items (replicate c.args.additional c.args.value.now) c.self.view_is
    (ap (fixed_pieces size) c.in_ok-repeat.ensures.ok ∙ (with_repeated size c.args.value.now c.self.invariant.0 long c.args.additional bytes c.self.invariant.1).0)

pub invariant_of-self-2 : goal.invariant_of-self-2
invariant_of-self-2 c =
    let size = c.self.inside.size in
    let bytes = c.self.inside.values.items in
    let long = c.requires ∙ ap (λ v. v.size) (sym c.self.view_is) in
    (c.self.invariant.0, ap (λ l. length l % size) c.in_ok-repeat.ensures.ok ∙ (with_repeated size c.args.value.now c.self.invariant.0 long c.args.additional bytes c.self.invariant.1).1)

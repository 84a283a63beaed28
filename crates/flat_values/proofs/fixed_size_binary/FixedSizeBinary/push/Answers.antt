use Rattle.std.proofs.Common.{◌∙◌, ap, sym, ◌∷◌, []}
use Rattle.columns_core.specs.Fixed.{fixed_pieces}
use Rattle.flat_values.proofs.ItemLemmas.{items_more, with_item}
use Rattle.flat_values.proofs.fixed_size_binary.FixedSizeBinary.push.Goals as goal

pub returns-clause-ok : goal.returns-clause-ok
returns-clause-ok c =
    let size = c.self.inside.size in
    let bytes = c.self.inside.values.items in
    let item = c.args.value.now in
    items_more c.args.self.now size bytes c.extend_from_slice.new.self.items (item ∷ []) c.self.view_is
    (ap (fixed_pieces size) c.in_ok-extend_from_slice.ensures.items ∙ with_item size bytes c.self.invariant.0 c.self.invariant.1 item (c.requires ∙ ap (λ v. v.size) (sym c.self.view_is)))

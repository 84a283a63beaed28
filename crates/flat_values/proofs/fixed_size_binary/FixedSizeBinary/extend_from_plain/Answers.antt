use Rattle.std.proofs.Common.{◌≡◌, ◌∙◌, ◌/◌, ◌%◌, ◌*◌, ◌++◌, ap, arith, length, subst, sym}
use Rattle.columns_core.specs.Fixed.{fixed_pieces}
use Rattle.flat_values.proofs.ItemLemmas.{items_more, whole_with, with_items}
use Rattle.flat_values.proofs.fixed_size_binary.FixedSizeBinary.extend_from_plain.Goals as goal

pub returns-clause-ok : goal.returns-clause-ok
returns-clause-ok c =
    let size = c.self.inside.size in
    let bytes = c.self.inside.values.items in
    let more = c.args.bytes.now in
    let same : size ≡ c.args.self.now.size = ap (λ v. v.size) c.self.view_is in
    let all : length more % size ≡ 0 = subst (λ n. length more % n ≡ 0) (sym same) c.requires in
    items_more c.args.self.now size bytes c.extend_from_slice.new.self.items (fixed_pieces c.args.self.now.size more) c.self.view_is
    (ap (fixed_pieces size) c.in_ok-extend_from_slice.ensures.items ∙ with_items size bytes c.self.invariant.0 c.self.invariant.1 more all ∙ ap (λ n. fixed_pieces size bytes ++ fixed_pieces n more) same)

pub invariant_of-self-2 : goal.invariant_of-self-2
invariant_of-self-2 c =
    let size = c.self.inside.size in
    let bytes = c.self.inside.values.items in
    let more = c.args.bytes.now in
    let all : length more % size ≡ 0 = subst (λ n. length more % n ≡ 0) (sym (ap (λ v. v.size) c.self.view_is)) c.requires in
    let count : length more ≡ length more / size * size = omega (arith, c.self.invariant.0, all) in
    (c.self.invariant.0, ap (λ l. length l % size) c.in_ok-extend_from_slice.ensures.items ∙ whole_with size bytes c.self.invariant.0 c.self.invariant.1 more (length more / size) count)

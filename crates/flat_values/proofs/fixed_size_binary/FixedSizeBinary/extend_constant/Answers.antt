use Rattle.std.proofs.Common.{◌≡◌, ◌∙◌, ◌*◌, ◌++◌, ◌%◌, ap, length, replicate, vec_len}
use Rattle.std.proofs.lemmas.List.{length-replicate}
use Rattle.columns_core.specs.Fixed.{fixed_pieces}
use Rattle.flat_values.proofs.ItemLemmas.{filled, items_more, whole_with, with_zeros}
use Rattle.flat_values.proofs.fixed_size_binary.FixedSizeBinary.extend_constant.Goals as goal

pub invariant_of-self-2 : goal.invariant_of-self-2
invariant_of-self-2 c =
    let size = c.self.inside.size in
    let bytes = c.self.inside.values.items in
    let more = c.args.additional * size in
    let grown = filled size c.args.additional c.len.result (vec_len c.self.inside.values) c.in_ok-bytes.bytes bytes c.resize.new.self.items c.len.ensures c.self.inside.values.ok.0 c.in_ok-bytes.ensures.ok c.in_ok-resize.ensures.items in
    (c.self.invariant.0, ap (λ l. length l % size) grown ∙ whole_with size bytes c.self.invariant.0 c.self.invariant.1 (replicate more 0) c.args.additional (length-replicate more 0))

pub returns-clause-ok : goal.returns-clause-ok
returns-clause-ok c =
    let size = c.self.inside.size in
    let bytes = c.self.inside.values.items in
    let grown = filled size c.args.additional c.len.result (vec_len c.self.inside.values) c.in_ok-bytes.bytes bytes c.resize.new.self.items c.len.ensures c.self.inside.values.ok.0 c.in_ok-bytes.ensures.ok c.in_ok-resize.ensures.items in
    let same : size ≡ c.args.self.now.size = ap (λ v. v.size) c.self.view_is in
    items_more c.args.self.now size bytes c.resize.new.self.items (replicate c.args.additional (replicate c.args.self.now.size 0)) c.self.view_is
    (ap (fixed_pieces size) grown ∙ with_zeros size bytes c.self.invariant.0 c.self.invariant.1 c.args.additional ∙ ap (λ n. fixed_pieces size bytes ++ replicate c.args.additional (replicate n 0)) same)

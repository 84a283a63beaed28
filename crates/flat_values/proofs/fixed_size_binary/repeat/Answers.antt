use Rattle.std.proofs.Common.{◌≡◌, ◌∙◌, ◌++◌, ap, append_assoc, replicate, rules, sym}
use Rattle.std.specs.List.{concat}
use Rattle.flat_values.proofs.ItemLemmas.{repeated_more}
use Rattle.flat_values.proofs.fixed_size_binary.repeat.Goals as goal

pub loop-preserved : goal.loop-preserved
loop-preserved c =
    let item = c.args.item.now in
    let front = c.args.values.now.items in
    let own : c.extend_from_slice.new.self.items ≡ c.loop.values.items ++ item = search (rules, c.in_default.ensures.items) in
    (own ∙ ap (λ l. l ++ item) c.loop.invariant.0 ∙ append_assoc front (concat (replicate c.loop.counter item)) item ∙ ap (λ l. front ++ l) (sym (repeated_more item c.loop.counter)), c.loop.invariant.1)

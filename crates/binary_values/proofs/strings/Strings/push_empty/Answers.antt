use Rattle.std.proofs.Common.{◌∙◌, ◌++◌, [], ◌∷◌, ap, replicate, append_assoc, append-nil, sym}
use Rattle.std.proofs.lemmas.List.{replicate_more}
use Rattle.binary_values.proofs.strings.Strings.push_empty.Goals as goal

pub loop-init : goal.loop-init
loop-init g c = sym (append-nil c.args.self.now)

pub loop-preserved : goal.loop-preserved
loop-preserved g c =
    c.in_ok-push_end.ensures.ok ∙ ap (λ all. all ++ [] ∷ []) c.loop.invariant ∙ append_assoc c.args.self.now (replicate c.loop.counter []) ([] ∷ [])
    ∙ ap (λ more. c.args.self.now ++ more) (replicate_more c.loop.counter [])

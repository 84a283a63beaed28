use Rattle.std.proofs.Common.{◌-◌, ◌∙◌, ap, length, replicate, take}
use Rattle.std.proofs.lemmas.List.{take-append-le, take-take}
use Rattle.binary_values.proofs.short_strings.first_bytes.Goals as goal
use Rattle.binary_values.proofs.short_strings.first_bytes.Goals.{in-Some, in-None}

pub returns-clause-front : goal.returns-clause-front
returns-clause-front c = λ long few within.
    elim c.match-first_chunk.branch [
      | in-Some w ↦ ap (take long) (w.result-is ∙ w.in-Some.ensures.cases.same) ∙ take-take long 16 c.args.bytes.now few
      | in-None w ↦ ap (take long) (w.result-is ∙ w.padded.ensures) ∙ take-append-le long c.args.bytes.now (replicate (16 - length c.args.bytes.now) 0) within
    ]

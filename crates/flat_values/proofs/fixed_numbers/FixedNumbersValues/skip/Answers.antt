use Rattle.flat_values.proofs.fixed_numbers.FixedNumbersValues.skip.Goals as goal

pub returns-clause-over : goal.returns-clause-over
returns-clause-over g c = c.skip_values.ensures.among (g.C.ConvertFixed.string_size c.args.self.now.rule) c.requires.over

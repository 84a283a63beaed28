use Rattle.flat_values.proofs.fixed.FixedValuesValues.skip.Goals as goal

pub returns-clause-over : goal.returns-clause-over
returns-clause-over c = c.skip_values.ensures.among c.args.self.now.size c.requires.over

use Rattle.std.proofs.Common.{◌∙◌, ap, sym, subst, refl, ℕ}
use Rattle.std.specs.Prelude.{Option, Some}
use Rattle.flat_values.specs.NullChunks.{TakesRows}
use Rattle.flat_values.proofs.NullColumn.{gives_nulls}
use Rattle.flat_values.proofs.null.NullIterColumnArrays.next_counted.Goals as goal

pub returns-clause-given : goal.returns-clause-given
returns-clause-given g c =
    let T : Option ℕ → Type 0 = λ taken. TakesRows c.args.self.now taken c.take_rows.new.self in
    let takes = subst T (c.in_ok-take_rows.was ∙ ap Some (sym c.new.ensures)) c.take_rows.ensures in
    gives_nulls c.args.self.now c.take_rows.new.self c.new.result c.args._steps.now _ takes refl

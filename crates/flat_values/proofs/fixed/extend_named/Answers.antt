use Rattle.std.proofs.Common.{arith, get_or, refl, [], ◌∷◌}
use Rattle.std.specs.Option.{option_copied}
use Rattle.columns_core.specs.Causes.{OutOfSpec}
use Rattle.columns_core.specs.declared.error.Error.TheVariants as errors
use Rattle.columns_core.specs.declared.error.Part.TheVariants.{Dictionary}
use Rattle.flat_values.specs.FixedLeft.{entry_cells}
use Rattle.flat_values.specs.Outcomes.{entry_outcome}
use Rattle.flat_values.proofs.AddedLemmas.{refused_at}
use Rattle.flat_values.proofs.fixed.extend_named.Goals as goal

pub returns-in_default-clause-cause : goal.returns-in_default-clause-cause
returns-in_default-clause-cause c =
    let key = get_or c.args.keys.now c.loop-key.key-index 0 in
    refused_at (entry_outcome (entry_cells (option_copied c.args.entries))) c.args.keys.now c.loop-key.key-index 0 key (OutOfSpec ∷ []) (errors.OutOfSpec Dictionary) c.loop-key-test.true refl c.in_default.ensures.entry (0, omega arith, refl)

use Rattle.std.proofs.Common.{arith}
use Rattle.std.proofs.lemmas.Grind.{common_steps}
use Rattle.columns_core.proofs.offsets.push_ends.Goals as goal

pub returns-in_default-clause-err : goal.returns-in_default-clause-err
returns-in_default-clause-err g c = grind (arith, common_steps)

pub returns-in_err-resize-clause-err : goal.returns-in_err-resize-clause-err
returns-in_err-resize-clause-err g c = grind (arith, common_steps)

pub write_ends-requires : goal.write_ends-requires
write_ends-requires g c = grind (arith, common_steps)

pub returns-then-write_ends-clause-ok : goal.returns-then-write_ends-clause-ok
returns-then-write_ends-clause-ok g c = grind (arith, common_steps)

pub returns-then-write_ends-clause-fits : goal.returns-then-write_ends-clause-fits
returns-then-write_ends-clause-fits g c = grind (arith, common_steps)

pub returns-else-write_ends-clause-err : goal.returns-else-write_ends-clause-err
returns-else-write_ends-clause-err g c = grind (arith, common_steps)

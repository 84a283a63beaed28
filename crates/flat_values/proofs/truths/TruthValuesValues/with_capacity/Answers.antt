use Rattle.std.proofs.Common.{ap}
use Rattle.columns_core.specs.declared.cell.Cell.{Bool as TruthCell}
use Rattle.flat_values.specs.Decoded.{marked_cells}
use Rattle.flat_values.proofs.truths.TruthValuesValues.with_capacity.Goals as goal

pub returns-clause-empty : goal.returns-clause-empty
returns-clause-empty c = ap (λ values. marked_cells TruthCell values c.in_ok-with_capacity-2.field-0) c.in_ok-with_capacity.ensures.ok

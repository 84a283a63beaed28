use Rattle.std.proofs.Common.{◌∙◌, sym, inr}
use Rattle.parquet_scan.proofs.LocationLemmas.{not_shaped}
use Rattle.parquet_scan.proofs.locations.check_shape.Goals as goal

pub returns-then-has_shape-clause-ok : goal.returns-then-has_shape-clause-ok
returns-then-has_shape-clause-ok c = sym c.has_shape.ensures ∙ c.if-has_shape.true

pub returns-else-has_shape-clause-cause : goal.returns-else-has_shape-clause-cause
returns-else-has_shape-clause-cause c = inr (not_shaped c.args.locations.now c.args.num_rows (sym c.has_shape.ensures ∙ c.if-has_shape.false))

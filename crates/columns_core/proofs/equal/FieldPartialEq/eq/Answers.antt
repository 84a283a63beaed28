use Rattle.columns_core.specs.Same.{same_by}
use Rattle.columns_core.specs.contracts.data_type.Field.{the_row}
use Rattle.columns_core.proofs.equal.FieldPartialEq.eq.Goals as goal

pub returns : goal.returns
returns c = same_by the_row.coded c.args.self.now c.args.other.now c.is_same_field.result c.is_same_field.ensures

use Rattle.columns_core.specs.Same.{same_by}
use Rattle.columns_core.specs.Shown.{shown_code}
use Rattle.columns_core.specs.contracts.cell.Cell.{the_row as cell_row}
use Rattle.columns_core.specs.contracts.data_type.DataType.{the_row as data_type_row}
use Rattle.columns_core.specs.Shown.{shown_keyed}
use Rattle.columns_core.proofs.same_array.DictionaryArrayPartialEq.eq.Goals as goal

pub returns : goal.returns
returns c =
    same_by (shown_code data_type_row.coded cell_row.coded) (shown_keyed c.args.self.now) (shown_keyed c.args.other.now) c.is_same_array.result c.is_same_array.ensures

use Rattle.std.proofs.Common.{◌∙◌, ap}
use Rattle.std.specs.Prelude.{Some}
use Rattle.columns_core.specs.Array.{cells, data_type_of}
use Rattle.flat_values.proofs.ArrayLemmas.{same_given, same_failed}
use Rattle.flat_values.proofs.flat_iter.FlatIterColumnArrays.next_counted.Goals as goal
use Rattle.flat_values.proofs.flat_iter.FlatIterColumnArrays.next_counted.Goals.{in-Ok, in-Err}

pub returns : goal.returns
returns g c = elim c.match-branch-2.branch [
  | in-Ok w ↦ rw (← c.self.view_is) (same_given g.V.IntoArray.array_type g.V.IntoArray.array_cells data_type_of cells c.read_array.result c.match-branch-2.result _ _ _ _ w.in-Ok.array w.into_column.result (c.in_ok-array.was ∙ ap Some w.in-Ok.is) w.result-is w.into_column.ensures.typed w.into_column.ensures.cells c.read_array.ensures.given)
  | in-Err w ↦ rw (← c.self.view_is) (same_failed g.V.IntoArray.array_type g.V.IntoArray.array_cells data_type_of cells c.read_array.result c.match-branch-2.result _ _ _ _ w.in-Err.error (c.in_ok-array.was ∙ ap Some w.in-Err.is) w.result-is c.read_array.ensures.given)
]

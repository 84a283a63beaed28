use Rattle.std.proofs.Common.{◌∙◌, ap, refl}
use Rattle.std.specs.Prelude.{Some}
use Rattle.columns_core.specs.Array.{cells, data_type_of}
use Rattle.columns_core.specs.Keyed.{named_cells}
use Rattle.flat_values.proofs.ArrayLemmas.{same_given, same_failed, same_none}
use Rattle.dictionary_values.specs.DictLeft.{array_type}
use Rattle.dictionary_values.proofs.dict_iter.DictIterColumnArrays.next_counted.Goals as goal
use Rattle.dictionary_values.proofs.dict_iter.DictIterColumnArrays.next_counted.Goals.{in-Ok, in-Err}

pub returns-in_err-array : goal.returns-in_err-array
returns-in_err-array g c = rw (← c.self.view_is) (same_none array_type named_cells data_type_of cells c.read_array.result c.from_residual.result _ _ _ _ c.in_err-array.was c.from_residual.ensures c.read_array.ensures.given)

pub returns : goal.returns
returns g c = elim c.match-branch-2.branch [
  | in-Ok w ↦ rw (← c.self.view_is) (same_given array_type named_cells data_type_of cells c.read_array.result c.match-branch-2.result _ _ _ _ w.in-Ok.array _ (c.in_ok-array.was ∙ ap Some w.in-Ok.is) w.result-is refl refl c.read_array.ensures.given)
  | in-Err w ↦ rw (← c.self.view_is) (same_failed array_type named_cells data_type_of cells c.read_array.result c.match-branch-2.result _ _ _ _ w.in-Err.error (c.in_ok-array.was ∙ ap Some w.in-Err.is) w.result-is c.read_array.ensures.given)
]

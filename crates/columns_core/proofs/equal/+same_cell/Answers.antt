use Rattle.columns_core.proofs.ShapeLemmas.{both, one_alone}
use Rattle.columns_core.proofs.equal.+same_cell.Goals as goal

pub is_same_cell-returns-in-Null-matches : goal.is_same_cell-returns-in-Null-matches
is_same_cell-returns-in-Null-matches t c = both c.in-Null.is c.in-Null-matches.is

pub is_same_cell-returns-in_default : goal.is_same_cell-returns-in_default
is_same_cell-returns-in_default t c = one_alone c.in-Null.is c.in_default.not-Null

pub is_same_cell-returns-in_default-b : goal.is_same_cell-returns-in_default-b
is_same_cell-returns-in_default-b t c = one_alone c.in-Bool.is (c.in_default-b.not-Bool _)

pub is_same_cell-returns-in_default-b-2 : goal.is_same_cell-returns-in_default-b-2
is_same_cell-returns-in_default-b-2 t c = one_alone c.in-Int.is (c.in_default-b-2.not-Int _)

pub is_same_cell-returns-in_default-b-3 : goal.is_same_cell-returns-in_default-b-3
is_same_cell-returns-in_default-b-3 t c = one_alone c.in-DaysMs.is (c.in_default-b-3.not-DaysMs _ _)

pub is_same_cell-returns-in_default-b-4 : goal.is_same_cell-returns-in_default-b-4
is_same_cell-returns-in_default-b-4 t c = one_alone c.in-Text.is (c.in_default-b-4.not-Text _)

pub is_same_cell-returns-in_default-b-5 : goal.is_same_cell-returns-in_default-b-5
is_same_cell-returns-in_default-b-5 t c = one_alone c.in-Bytes.is (c.in_default-b-5.not-Bytes _)

pub is_same_cell-returns-in_default-b-6 : goal.is_same_cell-returns-in_default-b-6
is_same_cell-returns-in_default-b-6 t c = one_alone c.in-Cells.is (c.in_default-b-6.not-Cells _)

use Rattle.columns_core.specs.DictionaryType.{key_type}
use Rattle.flat_binary.proofs.PageLists.{ordered_for}
use Rattle.flat_binary_tests.proofs.columns.rows_of.Goals as goal

pub page_iter_to_arrays-requires-clause-ordered : goal.page_iter_to_arrays-requires-clause-ordered
page_iter_to_arrays-requires-clause-ordered g c = ordered_for (key_type c.args.data_type) (g.I.Pages.to_come c.args.pages) c.requires.ordered

use Rattle.columns_core.specs.Array.{cells, data_type_of}
use Rattle.flat_values.proofs.ArrayLemmas.{goes}
use Rattle.flat_binary.specs.Layers.{array_left}
use Rattle.flat_binary.proofs.array_iter.ArrayIterIterator.next.Goals as goal

pub returns-clause-goes : goal.returns-clause-goes
returns-clause-goes g c =
    let left = array_left g.I.Pages.to_come g.I.Pages.causes g.I.Pages.row_count g.I.Pages.lent_count in
    goes data_type_of cells left (λ _. tt) c.args.self.now c.next_alone.result c.next_alone.new.arrays c.next_alone.ensures.given

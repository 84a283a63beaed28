use Rattle.flat_values.specs.Arrays.{ArraysLeft, flat_left}
use Rattle.flat_values.proofs.ArrayLemmas.{goes}
use Rattle.flat_values.proofs.flat_iter.FlatIterIterator.next.Goals as goal

pub returns-clause-goes : goal.returns-clause-goes
returns-clause-goes g c =
    let left = flat_left g.V.Values.most_bytes g.V.ValueDecoder.rule g.V.ValueDecoder.physical g.I.Pages.to_come g.I.Pages.causes g.I.Pages.row_count g.I.Pages.lent_count in
    goes g.V.IntoArray.array_type g.V.IntoArray.array_cells (λ (iter : ArraysLeft _ _). left iter.data_type iter.chunks) (λ _. tt) c.args.self.now c.next_alone.result c.next_alone.new.arrays c.next_alone.ensures.given

use Rattle.columns_core.specs.Keyed.{named_cells}
use Rattle.flat_values.proofs.ArrayLemmas.{goes}
use Rattle.dictionary_values.specs.DictLeft.{array_type, dict_left, keys_decoding}
use Rattle.dictionary_values.proofs.dict_iter.DictIterIterator.next.Goals as goal

pub returns-clause-goes : goal.returns-clause-goes
returns-clause-goes g c =
    let left = dict_left (λ (reader : g.row.R.Denot). keys_decoding (g.R.ReadDict.entries reader) g.K.StoredKey.key_count) g.I.Pages.to_come g.I.Pages.causes g.I.Pages.row_count g.I.Pages.lent_count in
    goes array_type named_cells left (λ _. tt) c.args.self.now c.next_alone.result c.next_alone.new.arrays c.next_alone.ensures.given

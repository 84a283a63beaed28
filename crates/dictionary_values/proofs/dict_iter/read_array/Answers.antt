use Rattle.std.proofs.Common.{◌≡◌, ◌∙◌, List, [], Option, Some, None, All, ap, map, subst, sym}
use Rattle.std.specs.Prelude.{Result, IfOk, option_map, unwrap_or}
use Rattle.std.specs.Option.{option_copied}
use Rattle.columns_core.specs.Array.{cells}
use Rattle.columns_core.specs.Keyed.{KeyedColumn, named_cells}
use Rattle.columns_core.specs.declared.cell.Cell.{Cell}
use Rattle.columns_core.specs.declared.error.Error.{Error}
use Rattle.page_decoding.specs.Outcome.{Given}
use Rattle.dictionary_values.specs.DictLeft.{array_type}
use Rattle.dictionary_values.specs.Keys.{NamesEntry, key_cells, named_cell}
use Rattle.dictionary_values.specs.declared.key_decoder.KeyDecoder.{KeyDecoder}
use Rattle.dictionary_values.specs.declared.key_values.DecodedKeys.{DecodedKeys}
use Rattle.dictionary_values.proofs.IterLemmas.{Gives, IsCalled, array-gives, array-keyed, end-gives, error-gives, keys-name, keys-there}
use Rattle.dictionary_values.proofs.dict_iter.read_array.Goals as goal

pub returns-in_err-keys-clause-given : goal.returns-in_err-keys-clause-given
returns-in_err-keys-clause-given g c =
    let shown = λ (d : DecodedKeys g.row.K.Denot). key_cells g.K.DictionaryKey.number d.keys.items d.validity in
    let reads = λ (d : KeyDecoder g.row.K.Denot g.row.R.Denot). g.R.ReadDict.entries d.read_dict in
    let most = g.K.StoredKey.key_count in
    let said = c.next_counted.ensures in
    let Called : Option (Result (DecodedKeys g.row.K.Denot) Error) → Type 0 =
    IsCalled shown reads most g.I.Pages.to_come g.I.Pages.causes g.I.Pages.row_count g.I.Pages.lent_count c.args.data_type.now c.args.chunks.now c.next_counted.new.self c.args.steps.now c.next_counted.new.steps in
    let called : Called c.next_counted.result = record { chunk = said.chunk; pages = said.pages; end = said.end; ended = said.ended; rows = said.row_count; decoder = said.decoder; size = said.size; keyed = c.requires.keyed } in
    let G : Option (Result KeyedColumn Error) → Type 0 =
    λ r. Gives shown reads most g.I.Pages.to_come g.I.Pages.causes g.I.Pages.row_count g.I.Pages.lent_count c.args.data_type.now c.args.chunks.now c.next_counted.new.self c.args.steps.now c.next_counted.new.steps array_type named_cells r c.next_counted.new.self.decoder c.next_counted.new.self.size c.next_counted.new.self in
    let gives : G None =
    end-gives shown reads most g.I.Pages.to_come g.I.Pages.causes g.I.Pages.row_count g.I.Pages.lent_count c.args.data_type.now c.args.chunks.now c.next_counted.new.self c.args.steps.now c.next_counted.new.steps array_type named_cells (subst Called c.in_err-keys.was called) in
    subst G (sym c.from_residual.ensures) gives

pub array_of-array-requires-clause-named : goal.array_of-array-requires-clause-named
array_of-array-requires-clause-named g c =
    let shown = λ (d : DecodedKeys g.row.K.Denot). key_cells g.K.DictionaryKey.number d.keys.items d.validity in
    let reads = λ (d : KeyDecoder g.row.K.Denot g.row.R.Denot). g.R.ReadDict.entries d.read_dict in
    let most = g.K.StoredKey.key_count in
    let said = c.next_counted.ensures in
    let Called : Option (Result (DecodedKeys g.row.K.Denot) Error) → Type 0 =
    IsCalled shown reads most g.I.Pages.to_come g.I.Pages.causes g.I.Pages.row_count g.I.Pages.lent_count c.args.data_type.now c.args.chunks.now c.next_counted.new.self c.args.steps.now c.next_counted.new.steps in
    let called : Called c.next_counted.result = record { chunk = said.chunk; pages = said.pages; end = said.end; ended = said.ended; rows = said.row_count; decoder = said.decoder; size = said.size; keyed = c.requires.keyed } in
    let there : c.next_counted.new.self.dictionary ≡ Some (cells c.in-Some.entries.now) = sym c.dictionary.ensures.is ∙ ap (λ o. option_map cells (option_copied o)) c.in-Some.is in
    let P : Option (List Cell) → Type 0 = λ d. All (NamesEntry (unwrap_or d [])) (map Given (shown c.in-Ok.keys)) in
    subst P there
    (keys-name shown reads most g.I.Pages.to_come g.I.Pages.causes g.I.Pages.row_count g.I.Pages.lent_count c.args.data_type.now c.args.chunks.now c.next_counted.new.self c.args.steps.now c.next_counted.new.steps c.in-Ok.keys (subst Called (c.in_ok-keys.was ∙ ap (λ r. Some r) c.in-Ok.is) called))

pub unreachable-requires : goal.unreachable-requires
unreachable-requires g c =
    let shown = λ (d : DecodedKeys g.row.K.Denot). key_cells g.K.DictionaryKey.number d.keys.items d.validity in
    let reads = λ (d : KeyDecoder g.row.K.Denot g.row.R.Denot). g.R.ReadDict.entries d.read_dict in
    let most = g.K.StoredKey.key_count in
    let said = c.next_counted.ensures in
    let Called : Option (Result (DecodedKeys g.row.K.Denot) Error) → Type 0 =
    IsCalled shown reads most g.I.Pages.to_come g.I.Pages.causes g.I.Pages.row_count g.I.Pages.lent_count c.args.data_type.now c.args.chunks.now c.next_counted.new.self c.args.steps.now c.next_counted.new.steps in
    let called : Called c.next_counted.result = record { chunk = said.chunk; pages = said.pages; end = said.end; ended = said.ended; rows = said.row_count; decoder = said.decoder; size = said.size; keyed = c.requires.keyed } in
    let gone : c.next_counted.new.self.dictionary ≡ None = sym c.dictionary.ensures.is ∙ ap (λ o. option_map cells (option_copied o)) c.in-None.is in
    keys-there shown reads most g.I.Pages.to_come g.I.Pages.causes g.I.Pages.row_count g.I.Pages.lent_count c.args.data_type.now c.args.chunks.now c.next_counted.new.self c.args.steps.now c.next_counted.new.steps c.in-Ok.keys (subst Called (c.in_ok-keys.was ∙ ap (λ r. Some r) c.in-Ok.is) called) gone

pub returns-in-Some-clause-given : goal.returns-in-Some-clause-given
returns-in-Some-clause-given g c =
    let shown = λ (d : DecodedKeys g.row.K.Denot). key_cells g.K.DictionaryKey.number d.keys.items d.validity in
    let reads = λ (d : KeyDecoder g.row.K.Denot g.row.R.Denot). g.R.ReadDict.entries d.read_dict in
    let most = g.K.StoredKey.key_count in
    let said = c.next_counted.ensures in
    let Called : Option (Result (DecodedKeys g.row.K.Denot) Error) → Type 0 =
    IsCalled shown reads most g.I.Pages.to_come g.I.Pages.causes g.I.Pages.row_count g.I.Pages.lent_count c.args.data_type.now c.args.chunks.now c.next_counted.new.self c.args.steps.now c.next_counted.new.steps in
    let called : Called c.next_counted.result = record { chunk = said.chunk; pages = said.pages; end = said.end; ended = said.ended; rows = said.row_count; decoder = said.decoder; size = said.size; keyed = c.requires.keyed } in
    let there : c.next_counted.new.self.dictionary ≡ Some (cells c.in-Some.entries.now) = sym c.dictionary.ensures.is ∙ ap (λ o. option_map cells (option_copied o)) c.in-Some.is in
    let P : Option (List Cell) → Type 0 = λ d. IfOk c.array_of-array.result (λ array. named_cells array ≡ map (named_cell (unwrap_or d [])) (shown c.in-Ok.keys)) in
    array-gives shown reads most g.I.Pages.to_come g.I.Pages.causes g.I.Pages.row_count g.I.Pages.lent_count c.args.data_type.now c.args.chunks.now c.next_counted.new.self c.args.steps.now c.next_counted.new.steps array_type named_cells c.in-Ok.keys c.array_of-array.result c.end_after_error.new.chunks
    (subst Called (c.in_ok-keys.was ∙ ap (λ r. Some r) c.in-Ok.is) called) c.end_after_error.ensures (subst P (sym there) c.array_of-array.ensures.cells) c.array_of-array.ensures.typed c.array_of-array.ensures.memory

pub returns-in-Some-clause-keyed : goal.returns-in-Some-clause-keyed
returns-in-Some-clause-keyed g c =
    let shown = λ (d : DecodedKeys g.row.K.Denot). key_cells g.K.DictionaryKey.number d.keys.items d.validity in
    let reads = λ (d : KeyDecoder g.row.K.Denot g.row.R.Denot). g.R.ReadDict.entries d.read_dict in
    let most = g.K.StoredKey.key_count in
    let said = c.next_counted.ensures in
    let Called : Option (Result (DecodedKeys g.row.K.Denot) Error) → Type 0 =
    IsCalled shown reads most g.I.Pages.to_come g.I.Pages.causes g.I.Pages.row_count g.I.Pages.lent_count c.args.data_type.now c.args.chunks.now c.next_counted.new.self c.args.steps.now c.next_counted.new.steps in
    let called : Called c.next_counted.result = record { chunk = said.chunk; pages = said.pages; end = said.end; ended = said.ended; rows = said.row_count; decoder = said.decoder; size = said.size; keyed = c.requires.keyed } in
    array-keyed shown reads most g.I.Pages.to_come g.I.Pages.causes g.I.Pages.row_count g.I.Pages.lent_count c.args.data_type.now c.args.chunks.now c.next_counted.new.self c.args.steps.now c.next_counted.new.steps c.in-Ok.keys c.array_of-array.result c.end_after_error.new.chunks
    (subst Called (c.in_ok-keys.was ∙ ap (λ r. Some r) c.in-Ok.is) called) c.end_after_error.ensures

pub returns-in-Err-clause-given : goal.returns-in-Err-clause-given
returns-in-Err-clause-given g c =
    let shown = λ (d : DecodedKeys g.row.K.Denot). key_cells g.K.DictionaryKey.number d.keys.items d.validity in
    let reads = λ (d : KeyDecoder g.row.K.Denot g.row.R.Denot). g.R.ReadDict.entries d.read_dict in
    let most = g.K.StoredKey.key_count in
    let said = c.next_counted.ensures in
    let Called : Option (Result (DecodedKeys g.row.K.Denot) Error) → Type 0 =
    IsCalled shown reads most g.I.Pages.to_come g.I.Pages.causes g.I.Pages.row_count g.I.Pages.lent_count c.args.data_type.now c.args.chunks.now c.next_counted.new.self c.args.steps.now c.next_counted.new.steps in
    let called : Called c.next_counted.result = record { chunk = said.chunk; pages = said.pages; end = said.end; ended = said.ended; rows = said.row_count; decoder = said.decoder; size = said.size; keyed = c.requires.keyed } in
    error-gives shown reads most g.I.Pages.to_come g.I.Pages.causes g.I.Pages.row_count g.I.Pages.lent_count c.args.data_type.now c.args.chunks.now c.next_counted.new.self c.args.steps.now c.next_counted.new.steps array_type named_cells c.in-Err.error (subst Called (c.in_ok-keys.was ∙ ap (λ r. Some r) c.in-Err.is) called)

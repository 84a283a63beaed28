use Rattle.std.proofs.Common.{◌≡◌, ap, sym, ◌∙◌, subst}
use Rattle.std.specs.Prelude.{pos}
use Rattle.std.proofs.lemmas.Result.{IfOk-weaker}
use Rattle.columns_core.specs.Array.{cells}
use Rattle.columns_core.specs.Keyed.{KeyedColumn, keyed_cells, named_cells}
use Rattle.columns_core.specs.Entries.{NameEntries}
use Rattle.columns_core.specs.DictionaryKeys.{named_places}
use Rattle.columns_core.specs.Column.{masked}
use Rattle.columns_core.proofs.KeyLemmas.{cells_of_places, places_name}
use Rattle.columns_core.proofs.dictionary.DictionaryArray.of_keys.Goals as goal

pub of_places-requires-clause-named : goal.of_places-requires-clause-named
of_places-requires-clause-named g c =
    subst (λ entries. NameEntries pos (cells entries) (named_places c.keep.result)) (sym c.in_ok-own_entries.ensures.copy)
    (subst (NameEntries pos (cells c.args.entries.now)) (sym c.keep.ensures.places) (places_name g.K.DictionaryKey.number (cells c.args.entries.now) (masked c.args.keys.items c.args.validity) c.requires.named))

pub returns-clause-cells : goal.returns-clause-cells
returns-clause-cells g c =
    IfOk-weaker c.of_places.result (λ (array : KeyedColumn). array ≡ record { data_type = c.in_ok-own_type.own_type; keys = named_places c.keep.result; entries = cells c.in_ok-own_entries.own_entries }) (λ (array : KeyedColumn). named_cells array ≡ keyed_cells g.K.DictionaryKey.number (cells c.args.entries.now) (masked c.args.keys.items c.args.validity))
    (λ array is. ap named_cells is ∙ ap (λ entries. keyed_cells pos (cells entries) (named_places c.keep.result)) c.in_ok-own_entries.ensures.copy ∙ ap (keyed_cells pos (cells c.args.entries.now)) c.keep.ensures.places ∙ cells_of_places g.K.DictionaryKey.number (cells c.args.entries.now) (masked c.args.keys.items c.args.validity) c.requires.named)
    c.of_places.ensures.array

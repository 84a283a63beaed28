use Rattle.std.proofs.Common.{◌≡◌, ap, sym, subst, Some}
use Rattle.std.specs.Prelude.{pos}
use Rattle.columns_core.specs.DictionaryKeys.{named_places}
use Rattle.columns_core.specs.Array.{cells, data_type_of}
use Rattle.columns_core.specs.DictionaryType.{entry_type}
use Rattle.columns_core.specs.Entries.{NameEntries}
use Rattle.columns_core.proofs.dictionary.DictionaryArray.of_places.Goals as goal

pub invariant_of-result : goal.invariant_of-result
invariant_of-result c =
    subst (λ entries. (entry_type c.args.data_type ≡ Some (data_type_of entries)) × NameEntries pos (cells entries) (named_places c.args.keys)) (sym c.in_ok-entries.ensures) (c.requires.typed, c.requires.named)

pub returns-clause-array : goal.returns-clause-array
returns-clause-array c = ap (λ entries. record { data_type = c.args.data_type; keys = named_places c.args.keys; entries = cells entries }) c.in_ok-entries.ensures

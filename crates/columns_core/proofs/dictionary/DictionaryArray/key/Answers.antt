use Rattle.std.proofs.Common.{◌<◌, length, Some, ap, subst, ◌∙◌}
use Rattle.columns_core.specs.DictionaryKeys.{named_places}
use Rattle.columns_core.specs.Array.{cells}
use Rattle.columns_core.specs.Keyed.{KeyedColumn}
use Rattle.columns_core.proofs.KeyLemmas.{key_within}
use Rattle.columns_core.proofs.dictionary.DictionaryArray.key.Goals as goal

pub returns-clause-within : goal.returns-clause-within
returns-clause-within c key e =
    let array = c.self.inside in
    subst (λ (own : KeyedColumn). key < length own.entries) c.self.view_is (key_within (cells array.entries) (named_places array.keys) c.args.i key c.self.invariant.1 (c.place.ensures ∙ ap Some e))

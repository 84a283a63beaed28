use Rattle.std.proofs.Common.{◌*◌, ◌≤◌, arith, length, slice_get, Some, ap, sym, ◌∙◌}
use Rattle.columns_core.specs.Array.{data_type_of}
use Rattle.std.specs.Prelude.{max}
use Rattle.columns_core.specs.declared.dictionary.DictionaryArray.TheDeep.{deep-Array}
use Rattle.columns_core.specs.Depth.{depth, entry_less_deep}
use Rattle.columns_core.specs.LessDeep.{entries_are_less_deep}
use Rattle.columns_core.proofs.KeyLemmas.{null_at, entry_at}
use Rattle.columns_core.proofs.+lent.Goals as goal

pub dictionary::DictionaryArray::lent-lent-requires :
    goal.dictionary::DictionaryArray::lent-lent-requires
dictionary::DictionaryArray::lent-lent-requires t c =
    let own = c.args.self.now in
    let falls : max (deep-Array c.values.result.now) 0 ≤ 2 * depth own.data_type = entries_are_less_deep own.data_type c.values.result.now c.values.ensures.data_type in (
      omega (arith, falls),
      omega (arith, c.key.ensures.within c.in-Some.key c.in-Some.is, ap length c.values.ensures.entries),
    )

pub dictionary::DictionaryArray::lent-returns-in-None-clause-cell :
    goal.dictionary::DictionaryArray::lent-returns-in-None-clause-cell
dictionary::DictionaryArray::lent-returns-in-None-clause-cell t c =
    null_at c.args.self.now.entries c.args.self.now.keys c.args.i (c.key.ensures.key ∙ ap Some c.in-None.is)

pub dictionary::DictionaryArray::lent-returns-in-Some-clause-shallow :
    goal.dictionary::DictionaryArray::lent-returns-in-Some-clause-shallow
dictionary::DictionaryArray::lent-returns-in-Some-clause-shallow t c =
    omega (arith, entry_less_deep c.args.self.now.data_type (data_type_of c.values.result.now) c.values.ensures.data_type, c.lent.ensures.shallow)

pub dictionary::DictionaryArray::lent-returns-in-Some-clause-cell :
    goal.dictionary::DictionaryArray::lent-returns-in-Some-clause-cell
dictionary::DictionaryArray::lent-returns-in-Some-clause-cell t c =
    entry_at c.args.self.now.entries c.args.self.now.keys c.args.i c.in-Some.key _ (c.key.ensures.key ∙ ap Some c.in-Some.is)
    (ap (λ entries. slice_get entries c.in-Some.key) (sym c.values.ensures.entries) ∙ c.lent.ensures.cell)

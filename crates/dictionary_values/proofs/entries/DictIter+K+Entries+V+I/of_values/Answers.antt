use Rattle.std.proofs.Common.{inr, refl, subst, sym}
use Rattle.columns_core.specs.DictionaryType.{IsDictionaryOf}
use Rattle.columns_core.specs.declared.data_type.IntegerType.{IntegerType}
use Rattle.dictionary_values.proofs.entries.DictIter+K+Entries+V+I.of_values.Goals as goal

pub returns-in_default-clause-err : goal.returns-in_default-clause-err
returns-in_default-clause-err g c =
    inr (refl, λ size holds. let P : IntegerType → Type 0 = λ key. IsDictionaryOf key holds.value c.args.data_type in c.in_default.ensures.none holds.value (subst P (sym c.key_type.ensures) holds.keyed))

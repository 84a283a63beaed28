use Rattle.std.proofs.lemmas.Result.{IfErr-weaker}
use Rattle.columns_core.specs.Causes.{IsWantOfMemory}
use Rattle.flat_values.proofs.flat_iter.array_of.Goals as goal

pub returns-clause-memory : goal.returns-clause-memory
returns-clause-memory g c = IfErr-weaker c.into_array.result (λ _. ⊥) IsWantOfMemory (λ _ none. absurd none) c.into_array.ensures.granted

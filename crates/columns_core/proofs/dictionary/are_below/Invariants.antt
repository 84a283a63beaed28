use Rattle.std.proofs.Common.{◌<◌, All, take}
use Rattle.std.specs.Option.{ForSome}
use Rattle.columns_core.specs.DictionaryKeys.{named_places}
use Rattle.columns_core.proofs.dictionary.are_below.Given as goal

abbrev pub invariant-loop-i : goal.invariant-loop-i
invariant-loop-i l = All (λ key. ForSome key (λ k. k < l.count)) (take l.i (named_places l.keys))

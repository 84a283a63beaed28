use Rattle.std.proofs.Common.{◌≡◌, ◌++◌, [], replicate}
use Rattle.binary_values.proofs.strings.Strings.push_empty.Given as goal

abbrev pub invariant-loop : goal.invariant-loop
invariant-loop g l = l.self ≡ l.fn.self ++ replicate l.counter []

use Rattle.std.proofs.Common.{◌≡◌, ◌++◌, length, replicate}
use Rattle.std.specs.List.{concat}
use Rattle.flat_values.proofs.fixed_size_binary.repeat.Given as goal

-- behind the bytes that were there the item stands so many times
abbrev pub invariant-loop : goal.invariant-loop
invariant-loop l = (l.values.items ≡ l.fn.values.items ++ concat (replicate l.counter l.item)) × (l.held ≡ length l.fn.values.items)

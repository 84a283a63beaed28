use Rattle.std.proofs.Common.{◌≡◌, ◌++◌, length}
use Rattle.std.specs.Option.{option_map}
use Rattle.pq_common.specs.Spelled.{hex_bytes}
use Rattle.pq_common.proofs.values.hex_bytes.Given as goal

-- the bytes so far, and those that are left
abbrev pub invariant-loop-rest : goal.invariant-loop-rest
invariant-loop-rest l = option_map (λ more. l.bytes.items ++ more) (hex_bytes l.rest) ≡ hex_bytes l.digits

abbrev pub decreases-loop-rest : goal.decreases-loop-rest
decreases-loop-rest l = length l.rest

use Rattle.std.proofs.Common.{◌≡◌, ◌<◌, ◌^◌, drop}
use Rattle.pq_common.proofs.NumberLemmas.{read_from}
use Rattle.pq_common.proofs.numbers.unsigned.Given as goal

-- what the digits spell is what those that are left spell behind the number so far
abbrev pub invariant-loop-digit : goal.invariant-loop-digit
invariant-loop-digit l = record { left : read_from 0 l.digits ≡ read_from l.number (drop l.digit-index l.digits); fits : l.number < 2 ^ 128 }

use Rattle.std.proofs.Common.{◌≡◌, drop, Some}
use Rattle.parquet_encoding.specs.PlainLeft.{strings_left, strings}
use Rattle.parquet_encoding.proofs.plain_bytes.PlainBytes.skip.Given as goal

abbrev pub invariant-loop : goal.invariant-loop
invariant-loop l = strings_left l.self l.bytes ≡ Some (drop l.counter (strings l.fn.self l.bytes))

use Rattle.std.proofs.Common.{◌≡◌, ℕ, ◌+◌, ◌-◌, ◌^◌, ◌<◌, ◌≤◌, ◌++◌, ap, drop, length, arith, to_z-of_z}
use Rattle.std.specs.Fmt.{decimal}
use Rattle.std.proofs.lemmas.Fmt.{length-decimal-le}
use Rattle.std.proofs.lemmas.List.{drop-set}
use Rattle.itoa.proofs.Decimal.{minus_first}
use Rattle.pq_common.proofs.digits.write_i64.Goals as goal

short : (n : ℕ) → n < 10 ^ 19 → length (decimal n) ≤ 19
short n h = length-decimal-le 19 n (omega arith) h (omega arith)

pub write_digits-start-requires : goal.write_digits-start-requires
write_digits-start-requires c = let few = short c.unsigned_abs.result (omega arith) in (omega arith, omega arith)

pub returns-then-number-ge0-clause-start : goal.returns-then-number-ge0-clause-start
returns-then-number-ge0-clause-start c = let few = short c.unsigned_abs.result (omega arith) in (omega arith, omega arith)

pub overflow_sub-block : goal.overflow_sub-block
overflow_sub-block c = omega (arith, short c.unsigned_abs.result (omega arith))

pub overflow_sub-result : goal.overflow_sub-result
overflow_sub-result c = omega (arith, short c.unsigned_abs.result (omega arith))

pub returns-clause-start : goal.returns-clause-start
returns-clause-start c = let few = short c.unsigned_abs.result (omega arith) in (omega arith, omega arith)

pub returns-clause-written : goal.returns-clause-written
returns-clause-written c =
    let written = c.write_digits-start in
    let few = short c.unsigned_abs.result (omega arith) in
    let behind : written.result - 1 + 1 ≡ written.result = omega arith in
    let back = to_z-of_z c.ranges.number in
    rw (drop-set written.new.buf (written.result - 1) 45 (omega arith), behind, written.ensures.written, c.unsigned_abs.ensures.value, back)
    (ap (λ text. text ++ drop c.args.end c.args.block.now) (minus_first c.args.number (rw back at c.if-number-ge0.false)))

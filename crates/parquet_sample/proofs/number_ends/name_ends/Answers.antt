use Rattle.std.proofs.Common.{◌≡◌, ℕ, ◌+◌, ◌-◌, ◌*◌, ◌^◌, ap, arith}
use Rattle.parquet_sample.proofs.OrderLemmas.{first_and_last_name}
use Rattle.parquet_sample.proofs.number_ends.name_ends.Goals as goal

pub returns-then-more_digits : goal.returns-then-more_digits
returns-then-more_digits c =
    let more = c.more_digits.result in
    let last : ℕ = c.args.first + c.from.result - 1 in
    let count : c.from.result ≡ c.args.rows = c.from.ensures in
    let same : c.more_digits-then-rows-gt0.result ≡ more = omega (arith, c.if-more_digits.true) in
    first_and_last_name more c.args.first c.args.rows last (omega (arith, c.if-rows-gt0.true)) (omega (arith, count)) (omega (arith, c.more_digits.ensures.few)) c.more_digits.ensures.least
    (omega (arith, c.more_digits-then-rows-gt0.ensures.most, ap (λ (k : ℕ). 10 * 10 ^ k) same))

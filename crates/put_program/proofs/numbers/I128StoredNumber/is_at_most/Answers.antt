use Rattle.std.proofs.Common.{ℤ, ap, sym, ◌∙◌}
use Rattle.std.specs.Prelude.{int_le}
use Rattle.std.specs.Int.{w128, cast_signed, cast_unsigned}
use Rattle.put_program.specs.Orders.{decimal_of}
use Rattle.put_program.specs.Stored.{decimal_bytes}
use Rattle.put_program.proofs.NumberLemmas.{decimal-back}
use Rattle.put_program.proofs.numbers.I128StoredNumber.is_at_most.Goals as goal

pub returns : goal.returns
returns c =
    ap (λ (n : ℤ). int_le n (cast_signed w128 (cast_unsigned w128 c.args.other))) (sym (decimal-back c.args.self c.ranges.self))
    ∙ ap (λ (n : ℤ). int_le (decimal_of (decimal_bytes c.args.self)) n) (sym (decimal-back c.args.other c.ranges.other))

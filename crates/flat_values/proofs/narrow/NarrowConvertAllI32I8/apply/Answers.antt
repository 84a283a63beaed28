use Rattle.std.proofs.Common.{ap, sym, ◌∙◌}
use Rattle.std.specs.Prelude.{unsigned_abs}
use Rattle.std.specs.Int.{int_wrap, cast_signed, w8, w32}
use Rattle.std.proofs.lemmas.Int.{to_z-of_z}
use Rattle.columns_core.specs.declared.cell.Cell.{Int}
use Rattle.flat_values.specs.Conversion.{Value, modulo_bits}
use Rattle.flat_values.proofs.narrow.NarrowConvertAllI32I8.apply.Goals as goal

pub returns : goal.returns
unfolding int_wrap
returns c =
    ap (λ n. Value (Int (cast_signed w8 (unsigned_abs (modulo_bits 8 n))))) (sym (to_z-of_z w32 c.args.x c.ranges.x))
    ∙ ap (λ n. Value (Int (cast_signed w8 (unsigned_abs n)))) (sym c.low_byte.ensures)
    ∙ ap (λ n. Value (Int n)) (sym c.cast_signed.ensures ∙ sym (to_z-of_z w8 c.cast_signed.result (record { sfits = c.cast_signed.type_inv })))

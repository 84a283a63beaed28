use Rattle.std.proofs.Common.{ap, ◌∙◌}
use Rattle.std.specs.Prelude.{unsigned_abs}
use Rattle.std.specs.Int.{int_wrap, cast_signed, w32, w64}
use Rattle.std.proofs.lemmas.Int.{to_z-of_z}
use Rattle.parquet_page.specs.Stored.{Number}
use Rattle.flat_values.specs.Conversion.{modulo_bits}
use Rattle.flat_values.proofs.stored.I32ParquetNativeType.from_delta.Goals as goal

pub returns : goal.returns
unfolding int_wrap
returns c =
    ap Number (
    to_z-of_z w32 c.cast_signed.result (record { sfits = c.cast_signed.type_inv }) ∙ c.cast_signed.ensures ∙ ap (λ n. cast_signed w32 (unsigned_abs n)) (c.low_word.ensures ∙ ap (modulo_bits 32) (to_z-of_z w64 c.args.number c.ranges.number)))

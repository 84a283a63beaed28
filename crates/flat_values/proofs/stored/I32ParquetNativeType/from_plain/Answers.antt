use Rattle.std.proofs.Common.{◌∙◌, ap, arith}
use Rattle.std.specs.Int.{cast_signed, w32}
use Rattle.std.proofs.lemmas.Int.{to_z-of_z}
use Rattle.parquet_base.proofs.BytesLemmas.{four_bytes}
use Rattle.parquet_page.specs.Stored.{Number}
use Rattle.flat_values.proofs.stored.I32ParquetNativeType.from_plain.Goals as goal

pub returns : goal.returns
returns c =
    ap Number (to_z-of_z w32 c.from_le_bytes.result (record { sfits = c.from_le_bytes.type_inv }) ∙ c.from_le_bytes.ensures ∙ ap (cast_signed w32) (four_bytes c.args.bytes (omega arith)))

use Rattle.std.proofs.Common.{◌/◌, ◌%◌, ◌^◌, length, Some, ap, sym, ◌∙◌, ◌<◌, arith}
use Rattle.std.specs.Prelude.{slice_get, ◌==◌}
use Rattle.parquet_base.specs.Bytes.{little_endian}
use Rattle.columns_core.proofs.BitLemmas.{length-low_bits, get-low_bits}
use Rattle.columns_core.proofs.bitmap.Bitmap.get_bit.Goals as goal

pub bit_at-requires : goal.bit_at-requires
bit_at-requires c =
    let within = ap length c.self.view_is in
    let bytes = c.self.inside.bytes.items in
    omega (arith, within, length-low_bits (little_endian bytes) c.self.inside.length, c.self.invariant.needed)

pub returns : goal.returns
returns c =
    let bytes = c.self.inside.bytes.items in
    let i = c.args.i in
    let within = ap length c.self.view_is in
    let inside : i < c.self.inside.length = omega (arith, within, c.requires, length-low_bits (little_endian bytes) c.self.inside.length) in
    ap (λ bits. slice_get bits i) (sym c.self.view_is) ∙ get-low_bits (little_endian bytes) c.self.inside.length i inside
    ∙ ap Some (ap (λ list. little_endian list / 2 ^ i % 2 == 1) (sym c.as_slice.ensures.value) ∙ sym c.bit_at.ensures)

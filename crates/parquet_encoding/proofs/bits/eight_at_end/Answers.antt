use Rattle.std.proofs.Common.{◌*◌}
use Rattle.parquet_encoding.proofs.BitsLemmas.{eight_packed}
use Rattle.parquet_encoding.proofs.bits.eight_at_end.Goals as goal

pub returns : goal.returns
returns c =
    let whole = eight_packed c.args.bytes.now c.args.width (8 * c.args.place) c.args.bit in
    cc (c.value_at.ensures, c.value_at-2.ensures, c.value_at-3.ensures, c.value_at-4.ensures, c.value_at-5.ensures, c.value_at-6.ensures, c.value_at-7.ensures, c.value_at-8.ensures)

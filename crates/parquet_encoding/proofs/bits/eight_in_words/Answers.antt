use Rattle.std.proofs.Common.{◌*◌}
use Rattle.parquet_encoding.proofs.BitsLemmas.{eight_packed}
use Rattle.parquet_encoding.proofs.bits.eight_in_words.Goals as goal

pub returns : goal.returns
returns c =
    let whole = eight_packed c.args.bytes.now c.args.width (8 * c.args.place) c.args.bit in
    cc (c.value_inside.ensures, c.value_inside-2.ensures, c.value_inside-3.ensures, c.value_inside-4.ensures, c.value_inside-5.ensures, c.value_inside-6.ensures, c.value_inside-7.ensures, c.value_inside-8.ensures)

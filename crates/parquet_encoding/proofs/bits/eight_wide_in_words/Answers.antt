use Rattle.std.proofs.Common.{◌*◌}
use Rattle.parquet_encoding.proofs.BitsLemmas.{eight_packed}
use Rattle.parquet_encoding.proofs.bits.eight_wide_in_words.Goals as goal

pub returns : goal.returns
returns c =
    let whole = eight_packed c.args.bytes.now c.args.width (8 * c.args.place) c.args.bit in
    cc (c.wide_inside.ensures, c.wide_inside-2.ensures, c.wide_inside-3.ensures, c.wide_inside-4.ensures, c.wide_inside-5.ensures, c.wide_inside-6.ensures, c.wide_inside-7.ensures, c.wide_inside-8.ensures)

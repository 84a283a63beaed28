use Rattle.std.proofs.Common.{◌∙◌, ap, arith, map}
use Rattle.parquet_page.specs.Values.{int96_of, plain_values}
use Rattle.flat_values.proofs.PlainLemmas.{pieces_spell}
use Rattle.flat_values.proofs.stored.ArrayU323ParquetNativeType.plain_pieces.Goals as goal

pub returns : goal.returns
unfolding plain_values
returns c count values e = ap (map int96_of) c.as_chunks.ensures.front ∙ pieces_spell 12 (omega arith) int96_of c.args.bytes.now count values e

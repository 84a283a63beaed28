use Rattle.std.proofs.Common.{◌∙◌, ap, arith, map}
use Rattle.parquet_page.specs.Values.{int32_of, plain_values}
use Rattle.flat_values.proofs.PlainLemmas.{pieces_spell}
use Rattle.flat_values.proofs.stored.I32ParquetNativeType.plain_pieces.Goals as goal

pub returns : goal.returns
unfolding plain_values
returns c count values e = ap (map int32_of) c.as_chunks.ensures.front ∙ pieces_spell 4 (omega arith) int32_of c.args.bytes.now count values e

use Rattle.std.proofs.Common.{◌∙◌, sym, map}
use Rattle.parquet_encoding.specs.Plain.{plain_fixed}
use Rattle.parquet_page.specs.Values.{int96_of, plain_values}
use Rattle.flat_values.proofs.PlainLemmas.{is_some-map}
use Rattle.flat_values.proofs.stored.ArrayU323ParquetNativeType.is_plain.Goals as goal

pub returns : goal.returns
unfolding plain_values
returns c = c.are_values.ensures ∙ sym (is_some-map (map int96_of) (plain_fixed 12 c.args.bytes.now c.args.count))

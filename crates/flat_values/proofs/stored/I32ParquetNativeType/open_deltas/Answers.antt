use Rattle.std.proofs.Common.{◌∙◌, sym, map}
use Rattle.std.specs.Int.{int_wrap, w32}
use Rattle.parquet_encoding.specs.DeltaBinary.{delta_binary}
use Rattle.parquet_page.specs.Stored.{Number}
use Rattle.parquet_page.specs.Values.{delta_values}
use Rattle.flat_values.proofs.PlainLemmas.{is_some-map, deltas_open}
use Rattle.flat_values.proofs.stored.I32ParquetNativeType.open_deltas.Goals as goal

pub returns-clause-exact : goal.returns-clause-exact
unfolding delta_values
returns-clause-exact c = c.try_new.ensures.exact ∙ sym (is_some-map (λ read. map (λ number. Number (int_wrap w32 number)) read.0) (delta_binary c.args.count c.args.bytes.now))

pub returns-clause-values : goal.returns-clause-values
unfolding delta_values
returns-clause-values c = deltas_open (λ number. Number (int_wrap w32 number)) c.try_new.result c.args.bytes.now c.args.count c.try_new.ensures.exact c.try_new.ensures.values

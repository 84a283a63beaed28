use Rattle.std.proofs.Common.{◌∙◌, sym, ap, arith}
use Rattle.std.specs.Prelude.{is_some}
use Rattle.parquet_encoding.specs.PlainLeft.{bits_left}
use Rattle.parquet_encoding.proofs.StepLemmas.{something_is}
use Rattle.parquet_encoding.proofs.TruthLemmas.{enough_bytes, too_few_bytes, begins_bits, length-bits}
use Rattle.parquet_encoding.proofs.plain_bits.PlainBits.try_new.Goals as goal

pub returns-then-div_ceil-bytes-clause-exact : goal.returns-then-div_ceil-bytes-clause-exact
returns-then-div_ceil-bytes-clause-exact c = sym (ap is_some (too_few_bytes c.args.bytes.now c.args.count c.div_ceil.result c.div_ceil.ensures (omega arith)))

pub returns-clause-values : goal.returns-clause-values
unfolding bits_left
returns-clause-values c =
    begins_bits c.args.bytes.now c.args.count c.div_ceil.result c.div_ceil.ensures (omega arith)
    ∙ sym (enough_bytes c.args.bytes.now c.args.count c.div_ceil.result c.div_ceil.ensures (omega arith))

pub returns-clause-exact : goal.returns-clause-exact
returns-clause-exact c = sym (ap is_some (enough_bytes c.args.bytes.now c.args.count c.div_ceil.result c.div_ceil.ensures (omega arith)))

pub returns-clause-counted : goal.returns-clause-counted
unfolding bits_left
returns-clause-counted c =
    length-bits 0 c.args.count c.args.bytes.now (something_is _ _ (begins_bits c.args.bytes.now c.args.count c.div_ceil.result c.div_ceil.ensures (omega arith)))

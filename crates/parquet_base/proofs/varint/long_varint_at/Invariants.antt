use Rattle.parquet_base.proofs.VarintLemmas.{IsPart}
use Rattle.parquet_base.proofs.varint.long_varint_at.Given as goal

abbrev pub invariant-loop : goal.invariant-loop
invariant-loop l = IsPart l.bytes l.number l.scale l.counter l.rest

use Rattle.parquet_thrift.proofs.ElementLemmas.{IsPassing}
use Rattle.parquet_thrift.proofs.skip.skip_elements.Given as goal

abbrev pub invariant-elements : goal.invariant-elements
invariant-elements l = IsPassing l.kind l.count l.bytes l.passed l.rest

use Rattle.parquet_statistics.proofs.PushedLemmas.{slot_fits, slot_is_typed}
use Rattle.parquet_statistics.proofs.column_arrays.array_of_ends.Goals as goal

pub push_end-requires-clause-fits : goal.push_end-requires-clause-fits
push_end-requires-clause-fits c =
    rw c.loop-ends.invariant (slot_fits c.args.data_type.now c.args.column.now c.requires.ready c.args.end c.loop-ends.ends-index c.ends-item.result c.loop-ends-test.true c.ends-item.is)

pub push_end-requires-clause-typed : goal.push_end-requires-clause-typed
push_end-requires-clause-typed c =
    rw c.loop-ends.invariant (slot_is_typed c.args.data_type.now c.args.column.now c.requires.ready c.args.end c.loop-ends.ends-index c.ends-item.result c.loop-ends-test.true c.ends-item.is)

use Rattle.parquet_indexes.proofs.SlotLemmas.{slot_fits}
use Rattle.parquet_indexes.proofs.page_arrays.array_of_ends.Goals as goal

pub push_end-requires-clause-fits : goal.push_end-requires-clause-fits
push_end-requires-clause-fits c =
    rw c.loop-page.invariant
    (slot_fits c.args.pages.now c.args.side c.loop-page.page-index c.page-item.result c.loop-page-test.true c.page-item.is c.args.data_type.now c.requires.flat c.requires.fit)

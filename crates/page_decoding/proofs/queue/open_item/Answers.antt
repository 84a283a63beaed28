use Rattle.page_decoding.proofs.QueueLemmas.{joined-popped}
use Rattle.page_decoding.proofs.queue.open_item.Goals as goal

pub returns-in-Some-clause-rows : goal.returns-in-Some-clause-rows
returns-in-Some-clause-rows g c = joined-popped g.D.DecodedState.DecodedState.shown c.args.items.now.items c.take_open.new.items.items c.in-Some.item c.in-Some.ensures.items

use Rattle.std.proofs.Common.{rules, ◌≡◌, ◌<◌, ◌-◌, length, arith}
use Rattle.std.specs.VecDeque.{deque_len}
use Rattle.page_decoding.specs.Queue.{IsFull}
use Rattle.page_decoding.proofs.QueueLemmas.{EndsOpen-at, AreFull-at, full-from, not_full-from}
use Rattle.page_decoding.proofs.queue.has_room.Goals as goal

pub returns-in-Some-clause-full : goal.returns-in-Some-clause-full
returns-in-Some-clause-full g c e =
    let items = c.args.items.now in
    let some : 0 < length items.items = search rules in
    let last : deque_len items - 1 ≡ length items.items - 1 = omega arith in
    let full : IsFull c.args.chunk_size (length (g.S.DecodedState.shown c.in-Some.item.now)) = full-from c.args.chunk_size c.is_full.result c.len.result (length (g.S.DecodedState.shown c.in-Some.item.now)) e c.is_full.ensures.0 c.len.ensures in
    AreFull-at g.S.DecodedState.shown c.args.chunk_size items.items (deque_len items - 1) c.in-Some.item.now some last c.in-Some.ensures.lookup c.requires.cut full

pub returns-in-Some-clause-last : goal.returns-in-Some-clause-last
returns-in-Some-clause-last g c e =
    let items = c.args.items.now in
    let some : 0 < length items.items = search rules in
    let last : deque_len items - 1 ≡ length items.items - 1 = omega arith in
    let ends : IsFull c.args.chunk_size (length (g.S.DecodedState.shown c.in-Some.item.now)) → ⊥ = not_full-from c.args.chunk_size c.is_full.result c.len.result (length (g.S.DecodedState.shown c.in-Some.item.now)) e c.is_full.ensures.1 c.len.ensures in
    EndsOpen-at g.S.DecodedState.shown c.args.chunk_size items.items (deque_len items - 1) c.in-Some.item.now some last c.in-Some.ensures.lookup ends

use Rattle.std.proofs.Common.{rules, ◌<◌, length}
use Rattle.std.specs.Prelude.{IsSome}
use Rattle.page_decoding.proofs.QueueLemmas.{EndsOpen-some, Popped, Popped-from}
use Rattle.page_decoding.proofs.queue.take_open.Goals as goal

pub returns-then-has_room-clause-full : goal.returns-then-has_room-clause-full
returns-then-has_room-clause-full g c =
    let shown = g.S.DecodedState.shown in
    let ends = c.has_room.ensures.last c.if-has_room.true in
    let some : 0 < length c.args.items.now.items = EndsOpen-some shown c.args.chunk_size c.args.items.now.items ends in
    let is : IsSome c.pop_back.result = search rules in
    let p : Popped shown c.args.chunk_size c.pop_back.new.self.items c.pop_back.result = Popped-from shown c.args.chunk_size c.args.items.now.items c.pop_back.new.self.items c.pop_back.result c.pop_back.ensures.items is c.requires.cut ends in
    p.full

pub returns-then-has_room-clause-fits : goal.returns-then-has_room-clause-fits
returns-then-has_room-clause-fits g c =
    let shown = g.S.DecodedState.shown in
    let ends = c.has_room.ensures.last c.if-has_room.true in
    let some : 0 < length c.args.items.now.items = EndsOpen-some shown c.args.chunk_size c.args.items.now.items ends in
    let is : IsSome c.pop_back.result = search rules in
    let p : Popped shown c.args.chunk_size c.pop_back.new.self.items c.pop_back.result = Popped-from shown c.args.chunk_size c.args.items.now.items c.pop_back.new.self.items c.pop_back.result c.pop_back.ensures.items is c.requires.cut ends in
    p.fits

pub returns-then-has_room-clause-not_full : goal.returns-then-has_room-clause-not_full
returns-then-has_room-clause-not_full g c =
    let shown = g.S.DecodedState.shown in
    let ends = c.has_room.ensures.last c.if-has_room.true in
    let some : 0 < length c.args.items.now.items = EndsOpen-some shown c.args.chunk_size c.args.items.now.items ends in
    let is : IsSome c.pop_back.result = search rules in
    let p : Popped shown c.args.chunk_size c.pop_back.new.self.items c.pop_back.result = Popped-from shown c.args.chunk_size c.args.items.now.items c.pop_back.new.self.items c.pop_back.result c.pop_back.ensures.items is c.requires.cut ends in
    p.not_full

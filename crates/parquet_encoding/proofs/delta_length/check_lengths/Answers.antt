use Rattle.std.proofs.Common.{◌∙◌, sym, ap, [], take, length, unwrap_or, arith}
use Rattle.std.specs.Prelude.{is_some}
use Rattle.parquet_encoding.specs.DeltaLeft.{numbers}
use Rattle.parquet_encoding.specs.JoinedLeft.{room_left}
use Rattle.parquet_encoding.proofs.StepLemmas.{not_ok, something_is}
use Rattle.parquet_encoding.proofs.WalkLemmas.{of_some}
use Rattle.parquet_encoding.proofs.JoinedLemmas.{chunk_is, room_goes_on, room_ends, room_enough}
use Rattle.parquet_encoding.proofs.delta_length.check_lengths.Goals as goal

pub returns-in_err-room : goal.returns-in_err-room
returns-in_err-room c =
    let values = numbers c.loop-walk.walk c.args.bytes.now in
    let count = c.fill-count.result in
    let own = chunk_is values c.loop-walk.chunk c.fill-count.new.out count (length c.loop-walk.chunk) c.fill-count.ensures.values c.fill-count.ensures.count in
    not_ok _ c.from_residual.ensures.0
    ∙ sym (room_ends c.loop-walk.room count values (take count c.fill-count.new.out) own c.in_err-room.ensures) ∙ c.loop-walk.invariant.same

pub loop-walk-preserved : goal.loop-walk-preserved
loop-walk-preserved c =
    let values = numbers c.loop-walk.walk c.args.bytes.now in
    let count = c.fill-count.result in
    let own = chunk_is values c.loop-walk.chunk c.fill-count.new.out count (length c.loop-walk.chunk) c.fill-count.ensures.values c.fill-count.ensures.count in
    record {
      spelled = something_is _ _ c.fill-count.ensures.rest;
      same = ap (λ o. is_some (room_left c.in_ok-room.room (unwrap_or o []))) c.fill-count.ensures.rest
          ∙ room_goes_on c.loop-walk.room c.in_ok-room.room count values (take count c.fill-count.new.out) own c.in_ok-room.ensures ∙ c.loop-walk.invariant.same;
    }

pub returns : goal.returns
returns c =
    let long = of_some _ _ c.loop-walk.invariant.spelled (c.remaining.ensures c.args.bytes.now) in
    sym (room_enough c.loop-walk.room (numbers c.loop-walk.walk c.args.bytes.now) (omega arith)) ∙ c.loop-walk.invariant.same

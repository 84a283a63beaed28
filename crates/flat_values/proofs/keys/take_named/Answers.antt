use Rattle.std.proofs.Common.{◌≤◌, arith, map, take, Some}
use Rattle.std.proofs.lemmas.List.{length-take}
use Rattle.std.proofs.lemmas.Result.{err_from_is_err_and}
use Rattle.flat_values.specs.KeysLeft.{keys}
use Rattle.flat_values.specs.Outcomes.{entry_outcome}
use Rattle.flat_values.proofs.KeyLemmas.{chunk_front}
use Rattle.flat_values.proofs.TakeLemmas.{turn-begins, turn-goes, turn-caused}
use Rattle.flat_values.proofs.keys.take_named.Goals as goal

pub loop-left-init : goal.loop-left-init
loop-left-init g c = record {
  among = record { width = c.requires.width; spelled = c.requires.spelled };
  turn = turn-begins g.T.NativeType.cell (entry_outcome (Some (map g.T.NativeType.cell c.args.entries.now))) c.args.values.now.items c.args.count (keys c.args.place c.args.bytes.now);
}

pub loop-left-preserved : goal.loop-left-preserved
loop-left-preserved g c =
    let now = keys c.loop-left.place c.args.bytes.now in
    let found = c.fill-found.result in
    let own = take found c.fill-found.new.out in
    let few : found ≤ c.loop-left.left = omega (arith, c.fill-found.ensures.count, length-take c.min.result c.loop-left.chunk, c.min.ensures) in
    let is = chunk_front now _ c.fill-found.new.out found c.fill-found.ensures.values (omega (arith, c.fill-found.ensures.count)) in
    record {
      among = c.fill-found.ensures.among;
      turn = turn-goes g.T.NativeType.cell (entry_outcome (Some (map g.T.NativeType.cell c.args.entries.now))) c.args.values.now.items c.loop-left.values.items c.extend_named.new.values.items c.args.count c.loop-left.left found
          (keys c.args.place c.args.bytes.now) now (keys c.fill-found.new.self c.args.bytes.now) own c.loop-left.invariant.turn few is c.in_ok-extend_named.ensures.added c.fill-found.ensures.rest;
    }

pub returns-in_err-extend_named-clause-cause : goal.returns-in_err-extend_named-clause-cause
returns-in_err-extend_named-clause-cause g c =
    let p = err_from_is_err_and c.from_residual.result c.from_residual.ensures.1 in
    let now = keys c.loop-left.place c.args.bytes.now in
    let found = c.fill-found.result in
    let own = take found c.fill-found.new.out in
    let few : found ≤ c.loop-left.left = omega (arith, c.fill-found.ensures.count, length-take c.min.result c.loop-left.chunk, c.min.ensures) in
    let is = chunk_front now _ c.fill-found.new.out found c.fill-found.ensures.values (omega (arith, c.fill-found.ensures.count)) in
    rw (p.1, p.2) (
    turn-caused g.T.NativeType.cell (entry_outcome (Some (map g.T.NativeType.cell c.args.entries.now))) c.args.values.now.items c.loop-left.values.items c.args.count c.loop-left.left found
    (keys c.args.place c.args.bytes.now) now own c.in_err-extend_named.field-0.0 c.loop-left.invariant.turn few is c.in_err-extend_named.ensures.cause)

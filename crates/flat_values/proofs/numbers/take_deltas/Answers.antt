use Rattle.std.proofs.Common.{◌≤◌, [], ap, arith, take, unwrap_or}
use Rattle.std.proofs.lemmas.List.{length-take}
use Rattle.std.proofs.lemmas.Result.{err_from_is_err_and}
use Rattle.parquet_encoding.specs.DeltaLeft.{numbers}
use Rattle.parquet_encoding.proofs.StepLemmas.{something_is}
use Rattle.flat_values.specs.Outcomes.{stored_outcome}
use Rattle.flat_values.proofs.KeyLemmas.{chunk_front}
use Rattle.flat_values.proofs.TakeLemmas.{turn-begins, turn-goes, turn-caused}
use Rattle.flat_values.proofs.numbers.take_deltas.Goals as goal

pub loop-left-init : goal.loop-left-init
loop-left-init g c = record {
  among = c.requires;
  turn = turn-begins g.T.NativeType.cell (λ number. stored_outcome (g.C.Convert.rule c.args.rule) (g.P.ParquetNativeType.delta number)) c.args.values.now.items c.args.count (numbers c.args.place c.args.bytes.now);
}

pub loop-left-preserved : goal.loop-left-preserved
loop-left-preserved g c =
    let now = numbers c.loop-left.place c.args.bytes.now in
    let found = c.fill-found.result in
    let own = take found c.fill-found.new.out in
    let few : found ≤ c.loop-left.left = omega (arith, c.fill-found.ensures.count, length-take c.min.result c.loop-left.chunk, c.min.ensures) in
    let is = chunk_front now _ c.fill-found.new.out found c.fill-found.ensures.values (omega (arith, c.fill-found.ensures.count)) in
    record {
      among = something_is _ _ c.fill-found.ensures.rest;
      turn = turn-goes g.T.NativeType.cell (λ number. stored_outcome (g.C.Convert.rule c.args.rule) (g.P.ParquetNativeType.delta number)) c.args.values.now.items c.loop-left.values.items c.extend_deltas.new.values.items c.args.count c.loop-left.left found
          (numbers c.args.place c.args.bytes.now) now (numbers c.fill-found.new.self c.args.bytes.now) own c.loop-left.invariant.turn few is c.in_ok-extend_deltas.ensures.added (ap (λ o. unwrap_or o []) c.fill-found.ensures.rest);
    }

pub returns-in_err-extend_deltas-clause-cause : goal.returns-in_err-extend_deltas-clause-cause
returns-in_err-extend_deltas-clause-cause g c =
    let p = err_from_is_err_and c.from_residual.result c.from_residual.ensures.1 in
    let now = numbers c.loop-left.place c.args.bytes.now in
    let found = c.fill-found.result in
    let own = take found c.fill-found.new.out in
    let few : found ≤ c.loop-left.left = omega (arith, c.fill-found.ensures.count, length-take c.min.result c.loop-left.chunk, c.min.ensures) in
    let is = chunk_front now _ c.fill-found.new.out found c.fill-found.ensures.values (omega (arith, c.fill-found.ensures.count)) in
    rw (p.1, p.2) (
    turn-caused g.T.NativeType.cell (λ number. stored_outcome (g.C.Convert.rule c.args.rule) (g.P.ParquetNativeType.delta number)) c.args.values.now.items c.loop-left.values.items c.args.count c.loop-left.left found
    (numbers c.args.place c.args.bytes.now) now own c.in_err-extend_deltas.field-0.0 c.loop-left.invariant.turn few is c.in_err-extend_deltas.ensures.cause)

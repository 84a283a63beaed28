use Rattle.std.proofs.Common.{◌≤◌, Some, arith, take}
use Rattle.std.proofs.lemmas.List.{length-take}
use Rattle.columns_core.specs.declared.cell.Cell.{Int}
use Rattle.parquet_page.proofs.RefusalLemmas.{passed_on}
use Rattle.flat_values.specs.KeysLeft.{keys}
use Rattle.flat_values.specs.Outcomes.{entry_outcome}
use Rattle.flat_values.proofs.KeyLemmas.{chunk_front}
use Rattle.flat_values.proofs.TakeLemmas.{turn-begins, turn-goes, turn-caused}
use Rattle.dictionary_values.specs.KeysGiven.{numbers_below}
use Rattle.dictionary_values.proofs.key_values.take_keys.Goals as goal

pub loop-left-init : goal.loop-left-init
loop-left-init g c = record {
  among = c.requires.among;
  turn = turn-begins (λ key. Int (g.K.DictionaryKey.number key)) (entry_outcome (Some (numbers_below c.args.limit))) c.args.found.now.items c.args.count (keys c.args.place c.args.bytes.now);
}

pub loop-left-preserved : goal.loop-left-preserved
loop-left-preserved g c =
    let now = keys c.loop-left.place c.args.bytes.now in
    let filled = c.fill-filled.result in
    let own = take filled c.fill-filled.new.out in
    let few : filled ≤ c.loop-left.left = omega (arith, c.fill-filled.ensures.count, length-take c.min.result c.loop-left.chunk, c.min.ensures) in
    let is = chunk_front now _ c.fill-filled.new.out filled c.fill-filled.ensures.values (omega (arith, c.fill-filled.ensures.count)) in
    record {
      among = c.fill-filled.ensures.among;
      turn = turn-goes (λ key. Int (g.K.DictionaryKey.number key)) (entry_outcome (Some (numbers_below c.args.limit))) c.args.found.now.items c.loop-left.found.items c.extend_keys.new.found.items c.args.count c.loop-left.left filled
          (keys c.args.place c.args.bytes.now) now (keys c.fill-filled.new.self c.args.bytes.now) own c.loop-left.invariant.turn few is c.in_ok-extend_keys.ensures.added c.fill-filled.ensures.rest;
    }

pub returns-in_err-extend_keys-clause-cause : goal.returns-in_err-extend_keys-clause-cause
returns-in_err-extend_keys-clause-cause g c =
    let now = keys c.loop-left.place c.args.bytes.now in
    let filled = c.fill-filled.result in
    let own = take filled c.fill-filled.new.out in
    let few : filled ≤ c.loop-left.left = omega (arith, c.fill-filled.ensures.count, length-take c.min.result c.loop-left.chunk, c.min.ensures) in
    let is = chunk_front now _ c.fill-filled.new.out filled c.fill-filled.ensures.values (omega (arith, c.fill-filled.ensures.count)) in
    passed_on c.from_residual.result _ _ c.from_residual.ensures.1 (
    turn-caused (λ key. Int (g.K.DictionaryKey.number key)) (entry_outcome (Some (numbers_below c.args.limit))) c.args.found.now.items c.loop-left.found.items c.args.count c.loop-left.left filled
    (keys c.args.place c.args.bytes.now) now own c.in_err-extend_keys.field-0.0 c.loop-left.invariant.turn few is c.in_err-extend_keys.ensures.cause)

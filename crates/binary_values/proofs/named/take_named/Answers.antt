use Rattle.std.proofs.Common.{◌≤◌, arith, false, inl, inr, take}
use Rattle.std.specs.Option.{option_copied}
use Rattle.std.proofs.lemmas.List.{length-take}
use Rattle.columns_core.specs.declared.cell.Cell.{Bytes}
use Rattle.parquet_page.proofs.RefusalLemmas.{passed_on}
use Rattle.flat_values.specs.KeysLeft.{keys}
use Rattle.flat_values.specs.Outcomes.{entry_outcome}
use Rattle.flat_values.proofs.KeyLemmas.{chunk_front}
use Rattle.flat_values.proofs.TakeLemmas.{turn-begins, turn-goes, turn-caused}
use Rattle.binary_values.specs.ByteStrings.{byte_entries}
use Rattle.binary_values.proofs.NamedLemmas.{turn-past}
use Rattle.binary_values.proofs.named.take_named.Goals as goal

pub loop-left-init : goal.loop-left-init
loop-left-init g c = record {
  among = c.requires.among;
  turn = turn-begins Bytes (entry_outcome (byte_entries false (option_copied c.args.entries))) c.args.strings.now c.args.count (keys c.args.place c.args.bytes.now);
  fits = c.requires.fits;
  texts = λ held own. held;
}

pub loop-left-preserved : goal.loop-left-preserved
loop-left-preserved g c =
    let now = keys c.loop-left.place c.args.bytes.now in
    let found = c.fill-found.result in
    let own = take found c.fill-found.new.out in
    let few : found ≤ c.loop-left.left = omega (arith, c.fill-found.ensures.count, length-take c.min.result c.loop-left.chunk, c.min.ensures) in
    let is = chunk_front now _ c.fill-found.new.out found c.fill-found.ensures.values (omega (arith, c.fill-found.ensures.count)) in
    record {
      among = c.fill-found.ensures.among;
      turn = turn-goes Bytes (entry_outcome (byte_entries false (option_copied c.args.entries))) c.args.strings.now c.loop-left.strings c.extend_named.new.strings c.args.count c.loop-left.left found
          (keys c.args.place c.args.bytes.now) now (keys c.fill-found.new.self c.args.bytes.now) own c.loop-left.invariant.turn few is c.in_ok-extend_named.ensures.added c.fill-found.ensures.rest;
      fits = c.in_ok-extend_named.ensures.fits;
      texts = λ held own. c.in_ok-extend_named.ensures.texts (c.loop-left.invariant.texts held own) own;
    }

pub returns-in_err-extend_named-clause-cause : goal.returns-in_err-extend_named-clause-cause
returns-in_err-extend_named-clause-cause g c =
    let f = entry_outcome (byte_entries false (option_copied c.args.entries)) in
    let whole = keys c.args.place c.args.bytes.now in
    let now = keys c.loop-left.place c.args.bytes.now in
    let found = c.fill-found.result in
    let own = take found c.fill-found.new.out in
    let few : found ≤ c.loop-left.left = omega (arith, c.fill-found.ensures.count, length-take c.min.result c.loop-left.chunk, c.min.ensures) in
    let is = chunk_front now _ c.fill-found.new.out found c.fill-found.ensures.values (omega (arith, c.fill-found.ensures.count)) in
    passed_on c.from_residual.result _ _ c.from_residual.ensures.1 (
    elim c.in_err-extend_named.ensures.cause [
      | inl told ↦ inl (turn-caused Bytes f c.args.strings.now c.loop-left.strings c.args.count c.loop-left.left found whole now own c.in_err-extend_named.field-0.0 c.loop-left.invariant.turn few is told)
      | inr past ↦ inr (past.0, turn-past f c.args.strings.now c.loop-left.strings c.args.count c.loop-left.left found g.O.Offset.greatest whole now own c.loop-left.invariant.turn few is past.1)
    ])

use Rattle.std.proofs.Common.{◌≡◌, ◌+◌, ◌∙◌, sym, ap, drop, get_or, arith, pos, Some, None, FitsSigned, rules}
use Rattle.std.specs.Int.{w64}
use Rattle.std.proofs.lemmas.List.{drop_more, drop_all}
use Rattle.parquet_encoding.specs.JoinedLeft.{length_within, room_left}
use Rattle.parquet_encoding.proofs.StepLemmas.{gives_none}
use Rattle.parquet_encoding.proofs.SumLemmas.{same_number}
use Rattle.parquet_encoding.proofs.JoinedLemmas.{room_some, room_none, room_is}
use Rattle.parquet_encoding.proofs.delta_length.room_behind.Goals as goal

pub returns-in_err-room : goal.returns-in_err-room
returns-in_err-room c =
    let lengths = c.args.lengths.now in
    let i = c.loop-number.number-index in
    let room = c.loop-number.room in
    let number = get_or lengths i (pos 0) in
    let fits : FitsSigned w64 number = search rules in
    let none : length_within room number ≡ None = ap (length_within room) (sym (same_number number fits)) ∙ c.in_err-room.ensures in
    gives_none _ _ _ c.from_residual.ensures.0
    (sym c.loop-number.invariant ∙ ap (room_left room) (drop_more lengths i (pos 0) c.loop-number-test.true) ∙ room_none room number (drop (i + 1) lengths) none)

pub loop-number-preserved : goal.loop-number-preserved
loop-number-preserved c =
    let lengths = c.args.lengths.now in
    let i = c.loop-number.number-index in
    let room = c.loop-number.room in
    let long = c.in_ok-room.field-0 in
    let number = get_or lengths i (pos 0) in
    let fits : FitsSigned w64 number = search rules in
    let some : length_within room number ≡ Some long = ap (length_within room) (sym (same_number number fits)) ∙ c.in_ok-room.ensures in
    sym (ap (room_left room) (drop_more lengths i (pos 0) c.loop-number-test.true) ∙ room_some room number (drop (i + 1) lengths) long some) ∙ c.loop-number.invariant

pub returns : goal.returns
returns c =
    let last = ap (room_left c.loop-number.room) (drop_all c.loop-number.number-index c.args.lengths.now (omega arith)) in
    sym c.loop-number.invariant ∙ last ∙ room_is c.loop-number.room

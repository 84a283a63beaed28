use Rattle.std.proofs.Common.{◌*◌, ◌≤◌, arith}
use Rattle.parquet_encoding.proofs.RunLemmas.{all_lie, eight_each, some_lie}
use Rattle.parquet_encoding.proofs.run.whole_values.Goals as goal
use Rattle.parquet_encoding.proofs.run.whole_values.Goals.{in_default-via-in-Some+else-size-room, in_default-via-in_default}

pub returns-in-Some : goal.returns-in-Some
returns-in-Some c =
    let lie = all_lie c.args.groups c.args.room c.args.width c.requires.some_bits (omega (arith, c.in-Some.ensures, c.if-size-room.true)) in
    omega (arith, lie, c.saturating_mul.ensures)

pub returns-in_default : goal.returns-in_default
returns-in_default c =
    let past : c.args.room ≤ c.args.groups * c.args.width = elim c.in_default.branch [
      | in_default-via-in-Some+else-size-room w ↦ omega (arith, w.in-Some.ensures, w.if-size-room.false)
      | in_default-via-in_default w ↦ omega (arith, w.in_default.ensures, c.ranges.room)
    ] in
    let lie = some_lie c.args.groups c.args.room c.args.width c.requires.some_bits past in
    omega (arith, lie, eight_each c.args.room c.args.width c.requires.some_bits, c.saturating_add.ensures, c.saturating_mul-in_default.ensures)

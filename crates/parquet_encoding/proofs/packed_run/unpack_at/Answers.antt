use Rattle.std.proofs.Common.{◌≡◌, ◌+◌, ◌*◌, ◌/◌, ◌≤◌, ap, length, arith}
use Rattle.std.proofs.lemmas.Nat.{mul-le}
use Rattle.parquet_encoding.proofs.UnpackLemmas.{none_unpacked, one_unpacked, eight_unpacked, all_unpacked}
use Rattle.parquet_encoding.proofs.packed_run.unpack_at.Goals as goal

pub loop-group-init : goal.loop-group-init
loop-group-init c =
    record { at = omega arith; done = none_unpacked c.args.bytes.now c.args.out.now c.args.width (8 * c.args.place + c.args.bit) (8 * 0) (omega arith) }

pub unpack_eight-requires-clause-within : goal.unpack_eight-requires-clause-within
unpack_eight-requires-clause-within c =
    let width = c.args.width in
    let some = mul-le (8 * (c.loop-group.group + 1)) width (length c.args.out.now) width (omega arith) (omega arith) in
    omega arith

pub loop-group-preserved : goal.loop-group-preserved
loop-group-preserved c =
    let width = c.args.width in
    record {
      at = omega arith;
      done = eight_unpacked c.args.bytes.now c.loop-group.out c.unpack_eight.new.out width (8 * c.args.place + c.args.bit) (8 * c.loop-group.at + c.args.bit) c.loop-group.group _
          (omega arith) c.loop-group.invariant.done (omega arith) c.unpack_eight.ensures;
    }

pub value_at-requires-clause-within : goal.value_at-requires-clause-within
value_at-requires-clause-within c =
    let width = c.args.width in
    let some = mul-le (c.loop-i.i + 1) width (length c.args.out.now) width (omega arith) (omega arith) in
    let groups : c.loop-group.group ≡ length c.args.out.now / 8 = omega arith in
    let passed = ap (λ n. n * width) groups in
    omega arith

pub overflow_add-shift : goal.overflow_add-shift
overflow_add-shift c =
    let width = c.args.width in
    let few : c.loop-i.i + 1 ≤ 8 * (length c.args.out.now / 8) + 8 = omega arith in
    let some = mul-le (c.loop-i.i + 1) width (8 * (length c.args.out.now / 8) + 8) width few (omega arith) in
    omega arith

pub loop-i-preserved : goal.loop-i-preserved
loop-i-preserved c =
    let width = c.args.width in
    let groups : c.loop-group.group ≡ length c.args.out.now / 8 = omega arith in
    let passed = ap (λ n. n * width) groups in
    let at = 8 * c.loop-group.at + c.loop-i.shift in
    let there : at ≡ 8 * c.args.place + c.args.bit + c.loop-i.i * width = omega arith in
    record {
      shift = omega arith;
      done = one_unpacked c.args.bytes.now c.loop-i.out width (8 * c.args.place + c.args.bit) at c.loop-i.i c.value_at.result (omega arith) c.loop-i.invariant.done there c.value_at.ensures;
    }

pub returns : goal.returns
returns c =
    all_unpacked c.args.bytes.now c.loop-i.out c.args.width (8 * c.args.place + c.args.bit) c.loop-i.i (length c.args.out.now) c.loop-i.invariant.done (omega arith) (omega arith)

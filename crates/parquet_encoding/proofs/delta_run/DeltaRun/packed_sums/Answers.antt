use Rattle.std.proofs.Common.{◌≡◌, refl, ◌+◌, ◌*◌, ◌/◌, ◌≤◌, ◌∙◌, ap, arith, FitsSigned, rules}
use Rattle.std.specs.Int.{w64}
use Rattle.parquet_encoding.specs.Bits.{packed}
use Rattle.std.proofs.lemmas.Nat.{mul-le}
use Rattle.parquet_encoding.proofs.SumLemmas.{same_number, by_least}
use Rattle.parquet_encoding.proofs.DeltaRunLemmas.{none_passed, none_written, one_passed, one_written, eight_passed, eight_written}
use Rattle.parquet_encoding.proofs.delta_run.DeltaRun.packed_sums.Goals as goal

pub loop-group-init : goal.loop-group-init
loop-group-init c =
    let run = c.args.self.now in
    let start = 8 * run.place + run.bit in
    record {
      place = omega arith;
      value = none_passed _ run.least c.args.bytes.now run.width start (8 * 0) (omega arith);
      done = none_written _ run.least c.args.bytes.now c.args.out.now run.width start (8 * 0) (omega arith);
    }

pub sums_of_eight-value-requires-clause-lies : goal.sums_of_eight-value-requires-clause-lies
sums_of_eight-value-requires-clause-lies c =
    let run = c.args.self.now in
    let some = mul-le (8 * (c.loop-group.group + 1)) run.width run.count run.width (omega arith) (omega arith) in
    omega arith

pub loop-group-preserved : goal.loop-group-preserved
loop-group-preserved c =
    let run = c.args.self.now in
    let fits : FitsSigned w64 run.least = search rules in
    let group = c.loop-group.group in
    let place = 8 * c.loop-group.place + run.bit in
    let start = 8 * run.place + run.bit in
    let eight = packed c.args.bytes.now run.width place 8 in
    let passed = c.sums_of_eight-value.ensures.behind in
    let written = c.sums_of_eight-value.ensures.sums in
    record {
      place = omega arith;
      value = same_number c.sums_of_eight-value.result (record { sfits = c.sums_of_eight-value.type_inv })
          ∙ eight_passed _ run.least _ c.sums_of_eight-value.result c.args.bytes.now eight run.width start (8 * group) (8 * (group + 1)) place
          c.loop-group.invariant.value (omega arith) (omega arith) refl passed;
      done = eight_written _ run.least _ c.args.bytes.now eight c.loop-group.out c.sums_of_eight-value.new.out run.width start (8 * group) (8 * (group + 1)) place _
          c.loop-group.invariant.value (omega arith) (omega arith) (omega arith) refl written c.loop-group.invariant.done;
    }

pub wide_at-requires-clause-within : goal.wide_at-requires-clause-within
wide_at-requires-clause-within c =
    let run = c.args.self.now in
    let groups : c.loop-group.group ≡ run.count / 8 = omega arith in
    let passed = ap (λ n. n * run.width) groups in
    let some = mul-le (c.loop-i.i + 1) run.width run.count run.width (omega arith) (omega arith) in
    omega arith

pub overflow_add-bit : goal.overflow_add-bit
overflow_add-bit c =
    let run = c.args.self.now in
    let few : c.loop-i.i + 1 ≤ 8 * (run.count / 8) + 8 = omega arith in
    let some = mul-le (c.loop-i.i + 1) run.width (8 * (run.count / 8) + 8) run.width few (omega arith) in
    omega arith

pub loop-i-preserved : goal.loop-i-preserved
loop-i-preserved c =
    let run = c.args.self.now in
    let fits : FitsSigned w64 run.least = search rules in
    let groups : c.loop-group.group ≡ run.count / 8 = omega arith in
    let passed = ap (λ n. n * run.width) groups in
    let i = c.loop-i.i in
    let start = 8 * run.place + run.bit in
    let at = 8 * c.loop-group.place + c.loop-i.bit in
    let there : at ≡ start + i * run.width = omega arith in
    let step = by_least _ _ _ _ _ c.added-value.ensures (same_number run.least fits) in
    record {
      bit = omega arith;
      value = same_number c.added-value.result (record { sfits = c.added-value.type_inv })
          ∙ one_passed _ run.least _ c.added-value.result c.args.bytes.now run.width start i (i + 1) c.wide_at.result at c.loop-i.invariant.value there (omega arith) c.wide_at.ensures step;
      done = one_written _ run.least _ c.args.bytes.now c.loop-i.out run.width start i at c.loop-i.invariant.value there (omega arith) c.loop-i.invariant.done;
    }

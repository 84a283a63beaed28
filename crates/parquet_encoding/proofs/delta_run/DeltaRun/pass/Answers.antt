use Rattle.std.proofs.Common.{◌≡◌, ◌+◌, ◌*◌, ◌/◌, ◌∙◌, ap, arith, FitsSigned, rules}
use Rattle.std.specs.Int.{w64}
use Rattle.std.proofs.lemmas.Nat.{mul-le}
use Rattle.parquet_encoding.proofs.SumLemmas.{same_number, by_least, behind_by_least}
use Rattle.parquet_encoding.proofs.DeltaRunLemmas.{none_passed, one_passed, eight_passed}
use Rattle.parquet_encoding.proofs.delta_run.DeltaRun.pass.Goals as goal

pub loop-init : goal.loop-init
loop-init c =
    let run = c.args.self.now in
    record { place = omega arith; value = none_passed _ run.least c.args.bytes.now run.width (8 * run.place + run.bit) (8 * 0) (omega arith) }

pub eight_wide_at-eight-requires-clause-within : goal.eight_wide_at-eight-requires-clause-within
eight_wide_at-eight-requires-clause-within c =
    let run = c.args.self.now in
    let some = mul-le (8 * (c.loop.counter + 1)) run.width run.count run.width (omega arith) (omega arith) in
    omega arith

pub overflow_add-place : goal.overflow_add-place
overflow_add-place c =
    let run = c.args.self.now in
    let some = mul-le (8 * (c.loop.counter + 1)) run.width run.count run.width (omega arith) (omega arith) in
    omega arith

pub loop-preserved : goal.loop-preserved
loop-preserved c =
    let run = c.args.self.now in
    let fits : FitsSigned w64 run.least = search rules in
    let step = behind_by_least _ _ _ _ _ c.added_all-value.ensures (same_number run.least fits) in
    record {
      place = omega arith;
      value = same_number c.added_all-value.result (record { sfits = c.added_all-value.type_inv })
          ∙ eight_passed _ run.least _ c.added_all-value.result c.args.bytes.now c.eight_wide_at-eight.result run.width (8 * run.place + run.bit) (8 * c.loop.counter) (8 * (c.loop.counter + 1)) (8 * c.loop.place + run.bit)
          c.loop.invariant.value (omega arith) (omega arith) c.eight_wide_at-eight.ensures step;
    }

pub wide_at-requires-clause-within : goal.wide_at-requires-clause-within
wide_at-requires-clause-within c =
    let run = c.args.self.now in
    let groups : c.loop.counter ≡ run.count / 8 = omega arith in
    let passed = ap (λ n. n * run.width) groups in
    let some = mul-le (8 * (run.count / 8) + c.loop-2.counter + 1) run.width run.count run.width (omega arith) (omega arith) in
    omega arith

pub loop-2-preserved : goal.loop-2-preserved
loop-2-preserved c =
    let run = c.args.self.now in
    let fits : FitsSigned w64 run.least = search rules in
    let groups : c.loop.counter ≡ run.count / 8 = omega arith in
    let passed = ap (λ n. n * run.width) groups in
    let at = 8 * c.loop.place + c.loop-2.bit in
    let there : at ≡ 8 * run.place + run.bit + (8 * (run.count / 8) + c.loop-2.counter) * run.width = omega arith in
    let step = by_least _ _ _ _ _ c.added-value.ensures (same_number run.least fits) in
    record {
      bit = omega arith;
      value = same_number c.added-value.result (record { sfits = c.added-value.type_inv })
          ∙ one_passed _ run.least _ c.added-value.result c.args.bytes.now run.width (8 * run.place + run.bit) (8 * (run.count / 8) + c.loop-2.counter) (8 * (run.count / 8) + (c.loop-2.counter + 1)) c.wide_at.result at
          c.loop-2.invariant.value there (omega arith) c.wide_at.ensures step;
    }

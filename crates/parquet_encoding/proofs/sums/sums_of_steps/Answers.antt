use Rattle.std.proofs.Common.{◌≡◌, ◌∙◌, arith, length, replicate}
use Rattle.std.proofs.lemmas.List.{length-replicate}
use Rattle.parquet_encoding.proofs.SumLemmas.{behind_more, before_more, none_behind, none_before, same_number, step_more}
use Rattle.parquet_encoding.proofs.sums.sums_of_steps.Goals as goal

pub loop-i-init : goal.loop-i-init
loop-i-init c = record { value = none_behind _; done = none_before _ }

pub loop-i-preserved : goal.loop-i-preserved
loop-i-preserved c =
    let zeros = replicate (length c.args.out.now) 0 in
    let long : length zeros ≡ length c.args.out.now = length-replicate (length c.args.out.now) 0 in
    record {
      value = same_number c.added-value.result (record { sfits = c.added-value.type_inv })
          ∙ behind_more _ _ _ c.added-value.result zeros c.loop-i.i (omega arith) c.loop-i.invariant.value
          (step_more _ c.added-value.result _ (length c.args.out.now) c.loop-i.i c.loop-i-test.true c.added-value.ensures);
      done = before_more _ _ _ zeros c.loop-i.out c.loop-i.i (omega arith) (omega arith) c.loop-i.invariant.value c.loop-i.invariant.done;
    }

use Rattle.std.proofs.Common.{◌∙◌, arith}
use Rattle.parquet_encoding.proofs.SumLemmas.{behind_more, before_more, none_behind, none_before, same_number}
use Rattle.parquet_encoding.proofs.sums.sums_all.Goals as goal

pub loop-i-init : goal.loop-i-init
loop-i-init c = record { value = none_behind _; done = none_before _ }

pub loop-i-preserved : goal.loop-i-preserved
loop-i-preserved c = record {
  value = same_number c.added-value.result (record { sfits = c.added-value.type_inv })
      ∙ behind_more _ _ _ c.added-value.result c.args.numbers.now c.loop-i.i c.loop-i-test.true c.loop-i.invariant.value c.added-value.ensures;
  done = before_more _ _ _ c.args.numbers.now c.loop-i.out c.loop-i.i c.loop-i-test.true (omega arith) c.loop-i.invariant.value c.loop-i.invariant.done;
}

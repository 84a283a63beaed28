use Rattle.std.proofs.Common.{◌∙◌}
use Rattle.parquet_encoding.proofs.SumLemmas.{behind_more, none_behind, same_number}
use Rattle.parquet_encoding.proofs.sums.added_all.Goals as goal

pub loop-number-init : goal.loop-number-init
loop-number-init c = none_behind _

pub loop-number-preserved : goal.loop-number-preserved
loop-number-preserved c =
    same_number c.added-value.result (record { sfits = c.added-value.type_inv })
    ∙ behind_more _ _ _ c.added-value.result c.args.numbers.now c.loop-number.number-index c.loop-number-test.true c.loop-number.invariant c.added-value.ensures

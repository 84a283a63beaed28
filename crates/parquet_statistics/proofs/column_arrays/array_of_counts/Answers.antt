use Rattle.std.proofs.Common.{◌∙◌, ◌++◌, [], ◌∷◌, ℕ, ap, arith, map}
use Rattle.std.proofs.lemmas.Grind.{common_steps}
use Rattle.std.proofs.lemmas.List.{take_all}
use Rattle.columns_core.specs.Column.{Column, where_set}
use Rattle.columns_core.specs.declared.data_type.DataType.{UInt64}
use Rattle.parquet_statistics.specs.Parts.{count_on}
use Rattle.parquet_statistics.proofs.PushedLemmas.{counts_more, number, slots_of_counts}
use Rattle.parquet_statistics.proofs.column_arrays.array_of_counts.Goals as goal

pub loop-ends-preserved : goal.loop-ends-preserved
loop-ends-preserved c = record {
  even = grind (arith, common_steps);
  counts = counts_more c.args.count c.args.column.now c.loop-ends.ends-index c.ends-item.result c.loop-ends.values.items c.push.new.self.items c.loop-ends.validity c.push-in-loop-ends.new.self
      c.count_of-count.result c.loop-ends-test.true c.ends-item.is c.count_of-count.ensures c.loop-ends.invariant.even c.loop-ends.invariant.counts
      (c.in_ok-push.ensures.items ∙ ap (λ n. c.loop-ends.values.items ++ n ∷ []) c.unwrap_or.ensures)
      (c.in_ok-push-2.ensures.ok ∙ ap (λ b. c.loop-ends.validity ++ b ∷ []) c.is_some.ensures);
}

pub returns-clause-array : goal.returns-clause-array
returns-clause-array c =
    let count = c.args.count in
    let column = c.args.column.now in
    ap (λ (array : Column ℕ). (array.data_type, map number array.items)) c.in_ok-array.ensures.array
    ∙ ap (λ mask. (UInt64, map number (where_set c.loop-ends.values.items mask))) c.freeze.ensures
    ∙ ap (λ items. (UInt64, map number items)) (c.loop-ends.invariant.counts ∙ ap (map (count_on count)) (take_all c.loop-ends.ends-index column c.loop-ends-test.false))
    ∙ ap (λ items. (UInt64, items)) (slots_of_counts count column)

use Rattle.std.proofs.Common.{◌∙◌, ap, ap₂}
use Rattle.std.proofs.lemmas.Result.{IfOk-weaker}
use Rattle.columns_core.specs.Column.{masked}
use Rattle.flat_values.proofs.DecodedLemmas.{array_items}
use Rattle.flat_values.proofs.truths.DecodedTruths.into_array.Goals as goal

pub returns-clause-array : goal.returns-clause-array
returns-clause-array c =
    let same = ap₂ masked c.freeze.ensures c.freeze_mask.ensures ∙ array_items c.args.self.values c.args.self.validity c.requires in
    IfOk-weaker c.try_new.result _ _ (λ array e. e ∙ ap (λ items. record { data_type = c.args.data_type; items = items }) same) c.try_new.ensures.array

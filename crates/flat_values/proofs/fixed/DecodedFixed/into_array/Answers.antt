use Rattle.std.proofs.Common.{◌∙◌, ◌≡◌, ap, ap₂, refl}
use Rattle.std.proofs.lemmas.Result.{IfOk-weaker}
use Rattle.columns_core.specs.Column.{masked}
use Rattle.columns_core.specs.ElementType.{fixed_size}
use Rattle.columns_core.specs.Fixed.{fixed_pieces}
use Rattle.flat_values.proofs.DecodedLemmas.{array_items}
use Rattle.flat_values.proofs.fixed.DecodedFixed.into_array.Goals as goal

pub returns-clause-array : goal.returns-clause-array
returns-clause-array c =
    let size : fixed_size c.args.data_type ≡ c.args.self.values.size = c.if-not-is_of_size.ensures.0 refl ∙ c.size.ensures.size in
    let items = ap (λ n. fixed_pieces n c.into_values.result.items) size ∙ c.into_values.ensures.items in
    let same = ap₂ masked items c.freeze_mask.ensures ∙ array_items c.args.self.values.items c.args.self.validity c.requires in
    IfOk-weaker c.try_new.result _ _ (λ array e. e ∙ ap (λ items. record { data_type = c.args.data_type; items = items }) same) c.try_new.ensures.array

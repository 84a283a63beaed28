use Rattle.std.proofs.Common.{◌≡◌, ◌∙◌, List, Option, ap}
use Rattle.std.proofs.lemmas.Result.{IfOk-weaker}
use Rattle.columns_core.specs.Column.{Column, masked}
use Rattle.flat_values.specs.Decoded.{marked}
use Rattle.flat_values.proofs.DecodedLemmas.{array_items}
use Rattle.flat_values.proofs.decoded_numbers.DecodedNumbers.into_mutable.Goals as goal

pub returns-clause-array : goal.returns-clause-array
returns-clause-array g c =
    let column : List (Option g.row.T.Denot) → Column g.row.T.Denot = λ items. record { data_type = c.args.data_type; items = items } in
    let same = ap (masked c.args.self.values.items) c.freeze_mask.ensures ∙ array_items c.args.self.values.items c.args.self.validity c.requires in
    IfOk-weaker c.try_new.result _ (λ array. array ≡ column (marked c.args.self.values.items c.args.self.validity)) (λ array e. e ∙ ap column same) c.try_new.ensures.array

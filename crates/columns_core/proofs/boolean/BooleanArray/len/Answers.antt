use Rattle.std.proofs.Common.{length, ap, sym, ◌∙◌}
use Rattle.columns_core.specs.Column.{Column}
use Rattle.columns_core.proofs.Masked.{length-masked}
use Rattle.columns_core.proofs.boolean.BooleanArray.len.Goals as goal

pub returns : goal.returns
returns c =
    let array = c.self.inside in
    c.len.ensures ∙ sym (length-masked array.values array.validity c.self.invariant) ∙ ap (λ (column : Column _). length column.items) c.self.view_is

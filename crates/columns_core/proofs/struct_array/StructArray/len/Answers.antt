use Rattle.std.proofs.Common.{length, ap, sym, ◌∙◌}
use Rattle.columns_core.specs.Column.{Column}
use Rattle.columns_core.proofs.NestedLemmas.{length-structs}
use Rattle.columns_core.proofs.struct_array.StructArray.len.Goals as goal

pub returns : goal.returns
returns c =
    let s = c.self.inside in
    c.self.invariant.1 ∙ sym (length-structs s.columns s.validity (c.self.invariant.0).fits) ∙ ap (λ (column : Column _). length column.items) c.self.view_is

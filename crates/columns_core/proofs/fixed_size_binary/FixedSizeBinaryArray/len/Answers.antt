use Rattle.std.proofs.Common.{length, ap, sym, ◌∙◌, ◌/◌}
use Rattle.columns_core.specs.Column.{Column}
use Rattle.columns_core.specs.Fixed.{fixed_pieces}
use Rattle.columns_core.proofs.Masked.{length-masked}
use Rattle.columns_core.proofs.FixedLemmas.{length-pieces}
use Rattle.columns_core.proofs.fixed_size_binary.FixedSizeBinaryArray.len.Goals as goal

pub returns : goal.returns
returns c =
    let array = c.self.inside in
    ap (λ n. n / array.size) (c.len.ensures ∙ array.values.ok.0) ∙ sym (length-pieces array.size array.values.items)
    ∙ sym (length-masked (fixed_pieces array.size array.values.items) array.validity c.self.invariant.fits) ∙ ap (λ (column : Column _). length column.items) c.self.view_is

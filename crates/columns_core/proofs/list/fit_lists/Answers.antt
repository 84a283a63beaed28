use Rattle.std.proofs.Common.{◌∙◌, sym, arith}
use Rattle.columns_core.specs.Array.{cells}
use Rattle.columns_core.proofs.OffsetLemmas.{length-parts}
use Rattle.columns_core.proofs.list.fit_lists.Goals as goal

pub returns : goal.returns
returns g c =
    let places = c.len_proxy.ensures.len ∙ sym (length-parts c.args.offsets.now (cells c.args.items.now)) in (
      λ fits. (omega (arith, c.if-last-len.false, c.last.ensures.last, c.len.ensures), λ mask is. c.fits_mask.ensures.0 fits mask is ∙ places),
      λ fit. c.fits_mask.ensures.1 (λ mask is. fit.1 mask is ∙ sym places),
    )

pub returns-then-last-len : goal.returns-then-last-len
returns-then-last-len g c = (λ t. absurd (grind (arith, t)), λ fit. absurd (omega (arith, fit.0, c.if-last-len.true, c.last.ensures.last, c.len.ensures)))

use Rattle.std.proofs.Common.{◌∙◌, sym, arith}
use Rattle.columns_core.proofs.OffsetLemmas.{length-parts}
use Rattle.columns_core.proofs.joined.fit_together.Goals as goal

pub returns : goal.returns
returns g c =
    let places = c.len_proxy.ensures.len ∙ sym (length-parts c.args.offsets.now c.args.values.now) in (
      λ fits. (omega (arith, c.if-last-values.false, c.last.ensures.last), λ mask is. c.fits_mask.ensures.0 fits mask is ∙ places),
      λ fit. c.fits_mask.ensures.1 (λ mask is. fit.1 mask is ∙ sym places),
    )

pub returns-then-last-values : goal.returns-then-last-values
returns-then-last-values g c = (λ t. absurd (grind (arith, t)), λ fit. absurd (omega (arith, fit.0, c.if-last-values.true, c.last.ensures.last)))

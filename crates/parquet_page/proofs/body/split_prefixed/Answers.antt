use Rattle.std.proofs.Common.{◌∙◌, sym, ap}
use Rattle.parquet_page.specs.Levels.{prefixed_parts}
use Rattle.parquet_page.proofs.BodyLemmas.{no_definition, no_optional, no_repetition, none_on, optional_here, repeated_here, required_here}
use Rattle.parquet_page.proofs.body.split_prefixed.Goals as goal

pub returns-in_err-definition-in-Optional : goal.returns-in_err-definition-in-Optional
returns-in_err-definition-in-Optional c =
    let whole = ap (λ repetition. prefixed_parts repetition c.args.body.now) c.in-Optional.is ∙ no_optional c.args.body.now (sym c.in_err-definition-in-Optional.ensures) in
    none_on _ c.from_residual.result _ c.from_residual.ensures whole

pub returns-in_err-repetition-in-Repeated : goal.returns-in_err-repetition-in-Repeated
returns-in_err-repetition-in-Repeated c =
    let whole = ap (λ repetition. prefixed_parts repetition c.args.body.now) c.in-Repeated.is ∙ no_repetition c.args.body.now (sym c.in_err-repetition-in-Repeated.ensures) in
    none_on _ c.from_residual-in_err-repetition-in-Repeated.result _ c.from_residual-in_err-repetition-in-Repeated.ensures whole

pub returns-in_err-definition-in-Repeated : goal.returns-in_err-definition-in-Repeated
returns-in_err-definition-in-Repeated c =
    let whole =
    ap (λ repetition. prefixed_parts repetition c.args.body.now) c.in-Repeated.is
    ∙ no_definition c.args.body.now _ _ (sym c.in_ok-repetition-in-Repeated.ensures) (sym c.in_err-definition-in-Repeated.ensures) in
    none_on _ c.from_residual-in_err-definition-in-Repeated.result _ c.from_residual-in_err-definition-in-Repeated.ensures whole

pub returns-in-Required : goal.returns-in-Required
returns-in-Required c = required_here c.args.body.now _ c.split_at.ensures.front ∙ ap (λ repetition. prefixed_parts repetition c.args.body.now) (sym c.in-Required.is)

pub returns-in_ok-definition-in-Optional : goal.returns-in_ok-definition-in-Optional
returns-in_ok-definition-in-Optional c =
    optional_here c.args.body.now _ _ _ c.split_at.ensures.front (sym c.in_ok-definition-in-Optional.ensures) ∙ ap (λ repetition. prefixed_parts repetition c.args.body.now) (sym c.in-Optional.is)

pub returns-in_ok-definition-in-Repeated : goal.returns-in_ok-definition-in-Repeated
returns-in_ok-definition-in-Repeated c =
    repeated_here c.args.body.now _ _ _ _ (sym c.in_ok-repetition-in-Repeated.ensures) (sym c.in_ok-definition-in-Repeated.ensures) ∙ ap (λ repetition. prefixed_parts repetition c.args.body.now) (sym c.in-Repeated.is)

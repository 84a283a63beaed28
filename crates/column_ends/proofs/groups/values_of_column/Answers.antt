use Rattle.std.proofs.Common.{◌≡◌, [], ◌∙◌, ap, subst}
use Rattle.std.specs.Prelude.{Some, OnOk}
use Rattle.columns_core.specs.Causes.{ComesOf}
use Rattle.column_ends.specs.Converted.{causes_of_ends}
use Rattle.column_ends.specs.Rules.{value_conversion}
use Rattle.column_ends.specs.Told.{stored_ends}
use Rattle.column_ends.proofs.GroupLemmas.{causes-told, result-told}
use Rattle.column_ends.proofs.groups.values_of_column.Goals as goal

pub returns-in-Some-clause-ends : goal.returns-in-Some-clause-ends
returns-in-Some-clause-ends c =
    let stored = c.in_ok-statistics.ensures.1 ∙ ap Some c.in-Some.is in
    result-told c.args.rule c.args.column.now (Some c.in-Some.statistics) stored c.statistics_values.result c.statistics_values.ensures.ends

pub returns-in-Some-clause-ok : goal.returns-in-Some-clause-ok
returns-in-Some-clause-ok c =
    let stored = c.in_ok-statistics.ensures.1 ∙ ap Some c.in-Some.is in
    rw (causes-told c.args.rule c.args.column.now (Some c.in-Some.statistics) stored)
    (subst (λ type. OnOk c.statistics_values.result (causes_of_ends type (value_conversion c.args.rule) (stored_ends c.in-Some.statistics) ≡ [])) c.requires.0 c.statistics_values.ensures.ok)

pub returns-in-Some-clause-cause : goal.returns-in-Some-clause-cause
returns-in-Some-clause-cause c =
    let stored = c.in_ok-statistics.ensures.1 ∙ ap Some c.in-Some.is in
    rw (causes-told c.args.rule c.args.column.now (Some c.in-Some.statistics) stored)
    (subst (λ type. ComesOf c.statistics_values.result (causes_of_ends type (value_conversion c.args.rule) (stored_ends c.in-Some.statistics))) c.requires.0 c.statistics_values.ensures.cause)

use Rattle.std.proofs.Common.{◌≡◌, ◌∙◌, ℕ, List, Some, None, false, ap, inl, refl, rules, subst, sym}
use Rattle.std.proofs.lemmas.Grind.{common_steps}
use Rattle.std.proofs.Common.{arith}
use Rattle.std.proofs.lemmas.Result.{err_from_is_err_and}
use Rattle.columns_core.specs.Causes.{Cause, IsOneOf, cause_of}
use Rattle.parquet_page.specs.Content.{data_content}
use Rattle.parquet_page.specs.Levels.{body_of}
use Rattle.std.specs.Prelude.{IsSome}
use Rattle.parquet_page.specs.Values.{Plain, plain_values}
use Rattle.page_decoding.specs.FilteredLeft.{filtered_steps}
use Rattle.flat_values.specs.Conversion.{Conversion}
use Rattle.flat_values.specs.FlatLeft.{IsStateOf, causes_unless_none, given_along, read_encoding, values_left}
use Rattle.flat_values.specs.OneEncoding.{plain_outcomes}
use Rattle.flat_values.specs.Outcomes.{value_causes}
use Rattle.flat_values.proofs.FlatLemmas.{GivesAll, built, bytes-are, is_read, levels-told, opened, opened-causes}
use Rattle.flat_values.proofs.number_states.FlatState+PlainPlace.try_new.Goals as goal

pub returns-in_err-walk-clause-refused : goal.returns-in_err-walk-clause-refused
returns-in_err-walk-clause-refused g c =
    let p = err_from_is_err_and c.from_residual.result c.from_residual.ensures.1 in
    let page = data_content c.args.page.now in
    let read : read_encoding false page ≡ Some Plain = first_of (search rules, grind (arith, common_steps)) in
    rw (p.1, p.2) (inl (read, levels-told false None page Plain (cause_of c.in_err-walk.field-0.0) (is_read false page Plain read) c.in_err-walk.ensures.refusal))

pub returns-in_err-values-clause-refused : goal.returns-in_err-values-clause-refused
returns-in_err-values-clause-refused g c =
    let p = err_from_is_err_and c.from_residual-in_err-values.result c.from_residual-in_err-values.ensures.1 in
    let page = data_content c.args.page.now in
    let body = body_of c.in_ok-bytes.field-0-0.now c.in_ok-bytes.field-0-1.now c.in_ok-bytes.bytes.now in
    let count = c.stored_count.result in
    let steps = filtered_steps c.in_ok-walk.walk page in
    let read : read_encoding false page ≡ Some Plain = first_of (search rules, grind (arith, common_steps)) in
    let whole = opened-causes false None page Plain body.values count steps (is_read false page Plain read) (opened page body count steps c.in_ok-walk.ensures.ok c.in_ok-bytes.ensures.parts c.in_ok-walk.ensures.steps c.stored_count.ensures) in
    let P : List Cause → Type 0 = λ causes. IsOneOf causes (cause_of c.in_err-values.field-0.0) in
    rw (p.1, p.2) (inl (read, subst P (sym (whole ∙ ap (λ t. causes_unless_none count (value_causes t None Plain body.values count)) c.requires.takes)) c.in_err-values.ensures.cause))

pub returns-clause-ok : goal.returns-clause-ok
returns-clause-ok g c =
    let page = data_content c.args.page.now in
    let body = body_of c.in_ok-bytes.field-0-0.now c.in_ok-bytes.field-0-1.now c.in_ok-bytes.bytes.now in
    let count = c.stored_count.result in
    let steps = filtered_steps c.in_ok-walk.walk page in
    let read : read_encoding false page ≡ Some Plain = first_of (search rules, grind (arith, common_steps)) in
    opened-causes false None page Plain body.values count steps (is_read false page Plain read) (opened page body count steps c.in_ok-walk.ensures.ok c.in_ok-bytes.ensures.parts c.in_ok-walk.ensures.steps c.stored_count.ensures)
    ∙ ap (λ t. causes_unless_none count (value_causes t None Plain body.values count)) c.requires.takes ∙ c.in_ok-values.ensures.ok

pub returns-clause-state : goal.returns-clause-state
returns-clause-state g c =
    let physical = g.P.ParquetNativeType.physical in
    let page = data_content c.args.page.now in
    let body = body_of c.in_ok-bytes.field-0-0.now c.in_ok-bytes.field-0-1.now c.in_ok-bytes.bytes.now in
    let steps = filtered_steps c.in_ok-walk.walk page in
    let read : read_encoding false page ≡ Some Plain = first_of (search rules, grind (arith, common_steps)) in
    let left = λ (rule : Conversion) (bytes : List ℕ). values_left (plain_outcomes rule physical bytes) c.in_ok-values.values in
    let own : (rule : Conversion) → GivesAll rule None page steps (left rule body.values) = λ rule.
    built rule false None page Plain body c.stored_count.result steps refl (sym read) c.in_ok-walk.ensures.ok c.in_ok-bytes.ensures.parts c.in_ok-walk.ensures.steps c.stored_count.ensures
    physical None (left rule body.values) c.requires.takes refl c.in_ok-values.ensures.ok (c.in_ok-values.ensures.values rule) in
    let bytes = bytes-are page body c.in_ok-bytes.ensures.parts in
    record {
      is_state = λ rule. subst (λ all. IsStateOf (λ bytes place. IsSome (plain_values physical bytes place.count)) (plain_outcomes rule physical) all c.in_ok-walk.walk c.in_ok-values.values page) (sym bytes) (record { page_is = c.in_ok-walk.ensures.page; over = c.in_ok-values.ensures.over; enough = (own rule).enough });
      rows = λ rule. ap (λ all. given_along steps (left rule all)) bytes ∙ (own rule).rows;
    }

use Rattle.std.proofs.Common.{◌≡◌, ◌∙◌, Some, true, ap, rules, sym}
use Rattle.std.proofs.lemmas.Result.{err_from_is_err_and}
use Rattle.parquet_page.specs.Content.{data_content}
use Rattle.parquet_page.specs.Levels.{body_of}
use Rattle.page_decoding.specs.FilteredLeft.{filtered_steps}
use Rattle.flat_binary.specs.JoinedStrings.{is_joined, strings_behind}
use Rattle.flat_binary.proofs.JoinedLemmas.{damaged-told, joined-right, joined-wrong, strings-at, value-bytes}
use Rattle.flat_binary.proofs.delta.FilteredDelta.try_new.Goals as goal

pub returns-in_err-delta-clause-cause : goal.returns-in_err-delta-clause-cause
returns-in_err-delta-clause-cause c =
    let page = data_content c.args.page.now in
    let p = err_from_is_err_and c.from_residual-in_err-delta.result c.from_residual-in_err-delta.ensures.1 in
    let joined : is_joined page ≡ true = search rules in
    let body = body_of c.in_ok-bytes.field-0-0.now c.in_ok-bytes.field-0-1.now c.in_ok-bytes.bytes.now in
    let at = strings-at page body c.stored_count.result (filtered_steps c.in_ok-walk.walk page) c.in_ok-walk.ensures.ok c.in_ok-bytes.ensures.parts c.in_ok-walk.ensures.steps c.stored_count.ensures in
    let wrong = joined-wrong page joined c.in_ok-walk.ensures.ok (at ∙ c.in_err-delta.ensures.refused.1) in
    rw (p.1, p.2) (damaged-told page c.in_err-delta.field-0.0 wrong c.in_err-delta.ensures.refused.0)

pub returns-clause-strings : goal.returns-clause-strings
returns-clause-strings c =
    let page = data_content c.args.page.now in
    let body = body_of c.in_ok-bytes.field-0-0.now c.in_ok-bytes.field-0-1.now c.in_ok-bytes.bytes.now in
    let at = strings-at page body c.stored_count.result (filtered_steps c.in_ok-walk.walk page) c.in_ok-walk.ensures.ok c.in_ok-bytes.ensures.parts c.in_ok-walk.ensures.steps c.stored_count.ensures in
    at ∙ c.in_ok-delta.ensures.strings ∙ ap (λ bytes. Some (strings_behind bytes c.in_ok-delta.delta)) (sym (value-bytes page body c.in_ok-bytes.ensures.parts))

pub returns-clause-ok : goal.returns-clause-ok
returns-clause-ok c =
    let page = data_content c.args.page.now in
    let joined : is_joined page ≡ true = search rules in
    let body = body_of c.in_ok-bytes.field-0-0.now c.in_ok-bytes.field-0-1.now c.in_ok-bytes.bytes.now in
    let at = strings-at page body c.stored_count.result (filtered_steps c.in_ok-walk.walk page) c.in_ok-walk.ensures.ok c.in_ok-bytes.ensures.parts c.in_ok-walk.ensures.steps c.stored_count.ensures in
    joined-right page (strings_behind c.in_ok-bytes.bytes.now c.in_ok-delta.delta) joined c.in_ok-walk.ensures.ok (at ∙ c.in_ok-delta.ensures.strings)

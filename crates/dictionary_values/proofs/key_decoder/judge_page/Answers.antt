use Rattle.std.proofs.Common.{◌≡◌, ◌∙◌, ◌<◌, List, [], ◌∷◌, Some, None, true, ap, arith, subst, sym}
use Rattle.std.specs.Prelude.{IfErr}
use Rattle.std.specs.Option.{option_map_or}
use Rattle.std.proofs.lemmas.Result.{on_ok_weaker}
use Rattle.columns_core.specs.Causes.{Cause, ExternalFormat, IsOneOf, cause_of}
use Rattle.parquet_page.specs.Content.{data_content}
use Rattle.parquet_page.specs.Levels.{body_of}
use Rattle.parquet_page.specs.Opened.{key_causes}
use Rattle.parquet_page.specs.Values.{Keys, dictionary_keys, unless_none}
use Rattle.parquet_page.proofs.RefusalLemmas.{passed_on}
use Rattle.page_decoding.specs.FilteredLeft.{filtered_steps}
use Rattle.page_decoding.proofs.NextLemmas.{nothing_wrong}
use Rattle.flat_values.proofs.FlatLemmas.{is_read, levels-told}
use Rattle.dictionary_values.proofs.BuildLemmas.{page-opened, some-stored}
use Rattle.dictionary_values.proofs.key_decoder.judge_page.Goals as goal

pub returns-in_err-walk-clause-cause : goal.returns-in_err-walk-clause-cause
returns-in_err-walk-clause-cause g c =
    let page = data_content c.args.page.now in
    let error = c.in_err-walk.field-0.0 in
    let P : List Cause → Type 0 = λ causes. IsOneOf causes (cause_of error) in
    passed_on c.from_residual.result _ _ c.from_residual.ensures.1
    (absurd (nothing_wrong (cause_of error) (subst P c.requires.spelled (levels-told true None page Keys (cause_of error) (is_read true page Keys c.requires.read) c.in_err-walk.ensures.refusal))))

pub returns-then-count-eq0-clause-ok : goal.returns-then-count-eq0-clause-ok
returns-then-count-eq0-clause-ok g c =
    let page = data_content c.args.page.now in
    let body = body_of c.in_ok-bytes.field-0-0.now c.in_ok-bytes.field-0-1.now c.in_ok-bytes.bytes.now in
    let count = c.stored_count-count.result in
    let steps = filtered_steps c.in_ok-walk.walk page in
    let none : count ≡ 0 = omega arith in
    page-opened g.K.StoredKey.key_count c.args.entries page body count steps c.requires.read c.in_ok-walk.ensures.ok c.in_ok-bytes.ensures.parts c.in_ok-walk.ensures.steps c.stored_count-count.ensures ∙ ap (λ n. option_map_or (key_causes (Some g.K.StoredKey.key_count) (Some c.args.entries)) (unless_none n (dictionary_keys c.in_ok-bytes.bytes.now count)) (ExternalFormat ∷ [])) none

pub returns-clause-ok : goal.returns-clause-ok
returns-clause-ok g c =
    let page = data_content c.args.page.now in
    let body = body_of c.in_ok-bytes.field-0-0.now c.in_ok-bytes.field-0-1.now c.in_ok-bytes.bytes.now in
    let count = c.stored_count-count.result in
    let steps = filtered_steps c.in_ok-walk.walk page in
    let some : 0 < count = omega arith in
    let found = dictionary_keys c.in_ok-bytes.bytes.now count in
    let own = page-opened g.K.StoredKey.key_count c.args.entries page body count steps c.requires.read c.in_ok-walk.ensures.ok c.in_ok-bytes.ensures.parts c.in_ok-walk.ensures.steps c.stored_count-count.ensures ∙ ap (λ o. option_map_or (key_causes (Some g.K.StoredKey.key_count) (Some c.args.entries)) o (ExternalFormat ∷ [])) (some-stored count found some) in
    on_ok_weaker c.judge_keys.result (λ fine. own ∙ fine) c.judge_keys.ensures.ok

pub returns-clause-cause : goal.returns-clause-cause
returns-clause-cause g c =
    let page = data_content c.args.page.now in
    let body = body_of c.in_ok-bytes.field-0-0.now c.in_ok-bytes.field-0-1.now c.in_ok-bytes.bytes.now in
    let count = c.stored_count-count.result in
    let steps = filtered_steps c.in_ok-walk.walk page in
    let some : 0 < count = omega arith in
    let found = dictionary_keys c.in_ok-bytes.bytes.now count in
    let own = page-opened g.K.StoredKey.key_count c.args.entries page body count steps c.requires.read c.in_ok-walk.ensures.ok c.in_ok-bytes.ensures.parts c.in_ok-walk.ensures.steps c.stored_count-count.ensures ∙ ap (λ o. option_map_or (key_causes (Some g.K.StoredKey.key_count) (Some c.args.entries)) o (ExternalFormat ∷ [])) (some-stored count found some) in
    let P : List Cause → Type 0 = λ causes. IfErr c.judge_keys.result (λ e. IsOneOf causes (cause_of e)) in
    subst P (sym own) c.judge_keys.ensures.cause

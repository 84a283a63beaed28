use Rattle.std.proofs.Common.{◌≡◌, ◌∙◌, ap}
use Rattle.columns_core.specs.Causes.{cause_of}
use Rattle.parquet_meta.specs.declared.metadata.PhysicalType.TheVariants.{ByteArray}
use Rattle.parquet_page.specs.Content.{data_content}
use Rattle.parquet_page.proofs.RefusalLemmas.{passed_on}
use Rattle.dictionary_values.specs.KeysGiven.{stored_as}
use Rattle.dictionary_values.proofs.KeyStateLemmas.{keys-fine, keys-state, keys-told, other-told}
use Rattle.dictionary_values.proofs.dictionary.KeyState.try_new.Goals as goal

pub returns-then-not-has_keys-clause-cause : goal.returns-then-not-has_keys-clause-cause
returns-then-not-has_keys-clause-cause c = other-told (data_content c.args.page.now) c.if-not-has_keys.ensures

pub returns-in_err-state-clause-cause : goal.returns-in_err-state-clause-cause
returns-in_err-state-clause-cause c =
    let page = data_content c.args.page.now in
    let same : data_content c.page_as.result ≡ stored_as ByteArray page = c.page_as.ensures ∙ ap (λ column. record page { type = column }) c.type_as-column.ensures in
    passed_on c.from_residual.result _ _ c.from_residual.ensures.1
    (keys-told page (data_content c.page_as.result) same c.if-not-has_keys.ensures (cause_of c.in_err-state.field-0.0) c.in_err-state.ensures.refused)

pub returns-clause-state : goal.returns-clause-state
returns-clause-state c =
    let page = data_content c.args.page.now in
    let same : data_content c.page_as.result ≡ stored_as ByteArray page = c.page_as.ensures ∙ ap (λ column. record page { type = column }) c.type_as-column.ensures in
    keys-state page (data_content c.page_as.result) same c.if-not-has_keys.ensures c.in_ok-state.state c.in_ok-state.ensures.state

pub returns-clause-ok : goal.returns-clause-ok
returns-clause-ok c =
    let page = data_content c.args.page.now in
    let same : data_content c.page_as.result ≡ stored_as ByteArray page = c.page_as.ensures ∙ ap (λ column. record page { type = column }) c.type_as-column.ensures in
    keys-fine page (data_content c.page_as.result) same c.if-not-has_keys.ensures c.in_ok-state.ensures.ok

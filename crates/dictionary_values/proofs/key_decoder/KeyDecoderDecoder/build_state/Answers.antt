use Rattle.std.proofs.Common.{◌≡◌, ◌∙◌, ap}
use Rattle.std.specs.Option.{option_copied}
use Rattle.parquet_meta.specs.declared.metadata.PhysicalType.TheVariants.{ByteArray}
use Rattle.parquet_page.specs.Content.{data_content}
use Rattle.dictionary_values.specs.KeysGiven.{stored_as}
use Rattle.dictionary_values.proofs.BuildLemmas.{none-carried, opened-cause, opened-rows, opened-state, other-carried}
use Rattle.dictionary_values.proofs.key_decoder.KeyDecoderDecoder.build_state.Goals as goal

pub returns-in_default-clause-cause : goal.returns-in_default-clause-cause
returns-in_default-clause-cause g c = none-carried g.K.StoredKey.key_count (option_copied c.args.dict) (data_content c.args.page.now) (ap option_copied c.in_default.is)

pub returns-then-not-has_keys-clause-cause : goal.returns-then-not-has_keys-clause-cause
returns-then-not-has_keys-clause-cause g c =
    other-carried g.K.StoredKey.key_count (option_copied c.args.dict) (data_content c.args.page.now) c.in-Some.entries.now (ap option_copied c.in-Some.is) c.if-not-has_keys.ensures

pub returns-clause-state : goal.returns-clause-state
returns-clause-state g c =
    let page = data_content c.args.page.now in
    let same : data_content c.page_as.result ≡ stored_as ByteArray page = c.page_as.ensures ∙ ap (λ column. record page { type = column }) c.type_as-column.ensures in
    opened-state g.K.StoredKey.key_count (option_copied c.args.dict) page c.in-Some.entries.now (ap option_copied c.in-Some.is) (data_content c.page_as.result) c.len.result same c.len.ensures c.if-not-has_keys.ensures c.open_keys.result c.open_keys.ensures.state c.open_keys.ensures.ok

pub returns-clause-rows : goal.returns-clause-rows
returns-clause-rows g c =
    let page = data_content c.args.page.now in
    let same : data_content c.page_as.result ≡ stored_as ByteArray page = c.page_as.ensures ∙ ap (λ column. record page { type = column }) c.type_as-column.ensures in
    opened-rows g.K.StoredKey.key_count (option_copied c.args.dict) page c.in-Some.entries.now (ap option_copied c.in-Some.is) (data_content c.page_as.result) c.len.result same c.len.ensures c.if-not-has_keys.ensures c.open_keys.result c.open_keys.ensures.state c.open_keys.ensures.ok

pub returns-clause-cause : goal.returns-clause-cause
returns-clause-cause g c =
    let page = data_content c.args.page.now in
    let same : data_content c.page_as.result ≡ stored_as ByteArray page = c.page_as.ensures ∙ ap (λ column. record page { type = column }) c.type_as-column.ensures in
    opened-cause g.K.StoredKey.key_count (option_copied c.args.dict) page c.in-Some.entries.now (ap option_copied c.in-Some.is) (data_content c.page_as.result) c.len.result same c.len.ensures c.if-not-has_keys.ensures c.open_keys.result c.open_keys.ensures.cause

use Rattle.parquet_encoding.specs.PlainLeft.{strings_left}
use Rattle.parquet_page.proofs.RefusalLemmas.{passed_on}
use Rattle.parquet_page.specs.Content.{dict_content}
use Rattle.binary_values.proofs.DictLemmas.{dict-damaged, dict-entries, dict-wrong}
use Rattle.binary_values.proofs.byte_values.ByteValuesValueDecoder.read_dict.Goals as goal

pub returns-in_err-place-clause-cause : goal.returns-in_err-place-clause-cause
returns-in_err-place-clause-cause g c =
    passed_on c.from_residual.result _ _ c.from_residual.ensures.1
    (dict-damaged c.args.self.now.is_text g.O.Offset.greatest (dict_content c.args.page.now) c.in_err-place.field-0.0 c.in_err-place.ensures.refused)

pub returns-in_err-_end-clause-cause : goal.returns-in_err-_end-clause-cause
returns-in_err-_end-clause-cause g c =
    let page = dict_content c.args.page.now in
    let told = rw c.in_ok-dict.ensures.ok at c.in_err-_end.ensures.cause in
    passed_on c.from_residual-in_err-_end.result _ _ c.from_residual-in_err-_end.ensures.1
    (dict-wrong c.args.self.now.is_text g.O.Offset.greatest page (strings_left c.in_ok-place.place page.body) c.in_err-_end.field-0.0 c.in_ok-place.ensures.counted c.in_ok-place.ensures.values told c.in_err-_end.ensures.whole)

pub returns-clause-entries : goal.returns-clause-entries
returns-clause-entries g c =
    let page = dict_content c.args.page.now in
    let added = rw c.in_ok-dict.ensures.ok at c.in_ok-_end.ensures.added in
    dict-entries c.args.self.now.is_text g.O.Offset.greatest page (strings_left c.in_ok-place.place page.body) c.take_stored.new.strings c.in_ok-place.ensures.counted c.in_ok-place.ensures.values added c.in_ok-_end.ensures.fits

use Rattle.std.proofs.Common.{inl, inr, true}
use Rattle.columns_core.specs.Causes.{cause_of}
use Rattle.parquet_page.specs.Content.{data_content}
use Rattle.parquet_page.specs.Values.{Keys}
use Rattle.parquet_page.proofs.RefusalLemmas.{passed_on}
use Rattle.flat_values.proofs.FlatLemmas.{is_read}
use Rattle.dictionary_values.proofs.BuildLemmas.{alone-typed}
use Rattle.dictionary_values.proofs.key_decoder.open_keys.Goals as goal

pub returns-in_err-state-clause-cause : goal.returns-in_err-state-clause-cause
returns-in_err-state-clause-cause g c =
    let page = data_content c.args.page.now in
    passed_on c.from_residual.result _ _ c.from_residual.ensures.1 (
    elim c.in_err-state.ensures.refused [
      | inl wrong ↦ alone-typed g.K.StoredKey.key_count c.args.entries page (cause_of c.in_err-state.field-0.0) (is_read true page Keys c.requires.read) wrong.1
      | inr other ↦ absurd (other.0 c.requires.read)
    ])

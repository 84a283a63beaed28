use Rattle.std.proofs.Common.{arith}
use Rattle.columns_core.specs.Causes.{cause_of}
use Rattle.parquet_page.proofs.RefusalLemmas.{passed_on}
use Rattle.parquet_page.specs.Values.{dictionary_keys}
use Rattle.flat_values.specs.KeysLeft.{keys}
use Rattle.dictionary_values.proofs.CauseLemmas.{judged-few, wrong-more}
use Rattle.dictionary_values.proofs.key_decoder.judge_keys.Goals as goal

pub returns-in_err-_named-clause-cause : goal.returns-in_err-_named-clause-cause
returns-in_err-_named-clause-cause g c =
    passed_on c.from_residual.result _ _ c.from_residual.ensures.1
    (wrong-more g.K.StoredKey.key_count c.args.entries (dictionary_keys c.args.bytes.now c.args.count) (cause_of c.in_err-_named.field-0.0) c.in_err-_named.ensures.cause)

pub returns-then-entries-most-clause-ok : goal.returns-then-entries-most-clause-ok
returns-then-entries-most-clause-ok g c =
    judged-few g.K.StoredKey.key_count c.most_keys-most.result c.args.entries c.most_keys-most.ensures.most (dictionary_keys c.args.bytes.now c.args.count) (keys c.in_ok-_named._named c.args.bytes.now) c.in_ok-_named.ensures.keys c.in_ok-_named.ensures.ok (omega arith)

use Rattle.std.proofs.Common.{◌∙◌, ap, map}
use Rattle.std.specs.Prelude.{pos, Some}
use Rattle.std.specs.List.{range_with_len}
use Rattle.std.proofs.lemmas.Result.{err_from_is_err_and}
use Rattle.columns_core.specs.Array.{cells}
use Rattle.parquet_statistics.proofs.CountedLemmas.{all_entries, all_keyed}
use Rattle.parquet_statistics.proofs.InsideLemmas.{dictionary_free, dictionary_refused, dictionary_too_long}
use Rattle.parquet_statistics.proofs.dictionaries.keyed_by.Goals as goal

pub returns-in_err-array-in-Ok-clause-err : goal.returns-in_err-array-in-Ok-clause-err
returns-in_err-array-in-Ok-clause-err g c =
    let p = err_from_is_err_and c.from_residual.result c.from_residual.ensures.1 in
    let counted = c.in-Ok.ensures.keys ∙ ap (λ n. map (λ place. Some (pos place)) (range_with_len 0 n)) c.len.ensures in
    rw (p.1, p.2) (dictionary_refused c.args.data_type c.args.entries g.K.DictionaryKey.key_type c.requires g.K.DictionaryKey.number c.in-Ok.keys.items counted c.in_err-array-in-Ok.field-0.0 c.in_err-array-in-Ok.ensures.err)

pub returns-in_ok-array-in-Ok-clause-array : goal.returns-in_ok-array-in-Ok-clause-array
returns-in_ok-array-in-Ok-clause-array g c =
    let counted = c.in-Ok.ensures.keys ∙ ap (λ n. map (λ place. Some (pos place)) (range_with_len 0 n)) c.len.ensures in
    let named = c.in_ok-array-in-Ok.ensures.cells ∙ all_entries g.K.DictionaryKey.number (cells c.args.entries) c.in-Ok.keys.items counted in
    λ i. ((c.in_ok-array-in-Ok.ensures.array i).data_type, named i)

pub returns-in_ok-array-in-Ok-clause-keys : goal.returns-in_ok-array-in-Ok-clause-keys
returns-in_ok-array-in-Ok-clause-keys g c =
    let counted = c.in-Ok.ensures.keys ∙ ap (λ n. map (λ place. Some (pos place)) (range_with_len 0 n)) c.len.ensures in
    all_keyed g.K.DictionaryKey.number (cells c.args.entries) c.in-Ok.keys.items counted c.in_ok-array-in-Ok.array c.args.data_type c.in_ok-array-in-Ok.ensures.array

pub returns-in_ok-array-in-Ok-clause-ok : goal.returns-in_ok-array-in-Ok-clause-ok
returns-in_ok-array-in-Ok-clause-ok g c =
    dictionary_free c.args.data_type c.args.entries g.K.DictionaryKey.key_type c.requires c.in_ok-array-in-Ok.ensures.ok.0.1 c.len.result c.len.ensures c.in-Ok.ensures.ok

pub returns-in-Err-clause-err : goal.returns-in-Err-clause-err
returns-in-Err-clause-err g c =
    dictionary_too_long c.args.data_type c.args.entries g.K.DictionaryKey.key_type c.requires c.in-Err.e c.len.result c.len.ensures c.in-Err.ensures.err

use Rattle.std.proofs.Common.{◌≡◌, ◌++◌, ◌-◌, ◌∙◌, ℕ, None, Some, ap, arith, length, map, rules, subst, sym, take}
use Rattle.std.specs.Option.{option_copied}
use Rattle.std.proofs.lemmas.List.{drop-map}
use Rattle.std.proofs.lemmas.Result.{on_ok_weaker}
use Rattle.columns_core.specs.declared.cell.Cell.{Int}
use Rattle.page_decoding.proofs.BytesLemmas.{chunks-right}
use Rattle.page_decoding.specs.Bytes.{IsCausedByChunks}
use Rattle.page_decoding.specs.Outcome.{Given, IsCausedBy}
use Rattle.flat_values.specs.Added.{Adds}
use Rattle.flat_values.specs.Decoded.{with_values}
use Rattle.flat_values.specs.KeysLeft.{keys}
use Rattle.flat_values.specs.OneEncoding.{key_outcomes}
use Rattle.flat_values.specs.Outcomes.{entry_outcome}
use Rattle.flat_values.proofs.CauseLemmas.{memory-told}
use Rattle.flat_values.proofs.DecodedLemmas.{given-with_added, mask-added}
use Rattle.dictionary_values.specs.Keys.{key_cells}
use Rattle.dictionary_values.specs.KeysGiven.{key_limit, keys_given, numbers_below}
use Rattle.dictionary_values.proofs.key_values.KeyValuesValues.take.Goals as goal

pub returns-clause-cells : goal.returns-clause-cells
returns-clause-cells g c =
    let old = c.args.decoded.now in
    let new = c.take_keys.new.found.items in
    let added : ℕ → Type 0 = λ limit. Adds (λ key. Int (g.K.DictionaryKey.number key)) old.keys.items new (take c.args.count (key_outcomes (numbers_below limit) c.args.bytes.now c.args.place.now)) in
    let count : c.len.result - c.len-held.result ≡ length new - length old.keys.items = omega (arith, c.len.ensures, c.len-held.ensures) in
    on_ok_weaker c.mark_values.result
    (λ marked. given-with_added (λ key. Int (g.K.DictionaryKey.number key)) old.keys.items new old.validity c.mark_values.new.validity (take c.args.count (keys_given g.K.StoredKey.key_count (option_copied c.args.dict) c.args.bytes.now c.args.place.now))
    c.requires.own (subst added c.limit_of.ensures.limit c.in_ok-place.ensures.added) (marked ∙ ap (λ n. with_values n old.validity) count))
    c.mark_values.ensures.ok

pub returns-clause-own : goal.returns-clause-own
returns-clause-own g c =
    let old = c.args.decoded.now in
    let new = c.take_keys.new.found.items in
    let added : ℕ → Type 0 = λ limit. Adds (λ key. Int (g.K.DictionaryKey.number key)) old.keys.items new (take c.args.count (key_outcomes (numbers_below limit) c.args.bytes.now c.args.place.now)) in
    let count : c.len.result - c.len-held.result ≡ length new - length old.keys.items = omega (arith, c.len.ensures, c.len-held.ensures) in
    on_ok_weaker c.mark_values.result
    (λ marked. mask-added (λ key. Int (g.K.DictionaryKey.number key)) old.keys.items new old.validity c.mark_values.new.validity (take c.args.count (keys_given g.K.StoredKey.key_count (option_copied c.args.dict) c.args.bytes.now c.args.place.now))
    c.requires.own (subst added c.limit_of.ensures.limit c.in_ok-place.ensures.added) (marked ∙ ap (λ n. with_values n old.validity) count))
    c.mark_values.ensures.ok

pub returns-in_err-place-clause-cause : goal.returns-in_err-place-clause-cause
returns-in_err-place-clause-cause g c =
    let old = c.args.decoded.now in
    let held = map Given (key_cells g.K.DictionaryKey.number old.keys.items old.validity) in
    let rows = take c.args.count (keys_given g.K.StoredKey.key_count (option_copied c.args.dict) c.args.bytes.now c.args.place.now) in
    let error = c.in_err-place.field-0.0 in
    let P : ℕ → Type 0 = λ limit. IsCausedBy (take c.args.count (key_outcomes (numbers_below limit) c.args.bytes.now c.args.place.now)) error in
    let cause : IsCausedByChunks None None (held ++ rows) error = chunks-right None None held rows error (subst P c.limit_of.ensures.limit c.in_err-place.ensures.cause) in
    search rules

pub returns-clause-cause : goal.returns-clause-cause
returns-clause-cause g c =
    let old = c.args.decoded.now in
    let held = map Given (key_cells g.K.DictionaryKey.number old.keys.items old.validity) in
    let rows = take c.args.count (keys_given g.K.StoredKey.key_count (option_copied c.args.dict) c.args.bytes.now c.args.place.now) in
    memory-told c.mark_values.result None (held ++ rows) c.mark_values.ensures.err

pub returns-clause-left : goal.returns-clause-left
returns-clause-left g c =
    let f = entry_outcome (Some (numbers_below (key_limit g.K.StoredKey.key_count (option_copied c.args.dict)))) in
    on_ok_weaker c.mark_values.result (λ marked. ap (map f) c.in_ok-place.ensures.rest ∙ sym (drop-map f c.args.count (keys c.args.place.now c.args.bytes.now))) c.mark_values.ensures.ok

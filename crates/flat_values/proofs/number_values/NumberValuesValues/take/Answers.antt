use Rattle.std.proofs.Common.{◌≡◌, ◌++◌, ◌-◌, ◌∙◌, List, ap, arith, drop, length, map, rules, subst, sym, take, None, Some}
use Rattle.std.specs.Prelude.{option_copied, option_map}
use Rattle.std.proofs.lemmas.Result.{on_ok_weaker}
use Rattle.page_decoding.proofs.BytesLemmas.{chunks-right}
use Rattle.page_decoding.specs.Bytes.{IsCausedByChunks}
use Rattle.page_decoding.specs.Outcome.{Given, Outcome}
use Rattle.flat_values.specs.Decoded.{marked_cells, with_values}
use Rattle.flat_values.specs.NumbersLeft.{number_left}
use Rattle.flat_values.specs.declared.numbers.NumberPlace.{NumberPlace}
use Rattle.flat_values.proofs.CauseLemmas.{memory-told}
use Rattle.flat_values.proofs.DecodedLemmas.{given-with_added, mask-added}
use Rattle.flat_values.proofs.NumberPlaces.{entries_alike}
use Rattle.flat_values.proofs.number_values.NumberValuesValues.take.Goals as goal

pub returns-clause-cells : goal.returns-clause-cells
returns-clause-cells g c =
    let cell = g.T.NativeType.cell in
    let rule = g.C.Convert.rule c.args.self.now.rule in
    let entries = c.entries_of-entries.result.now in
    let old = c.args.decoded.now.values.items in
    let new = c.take_values.new.values.items in
    let mask = c.args.decoded.now.validity in
    let count : c.len.result - c.len-held.result ≡ length new - length old = omega (arith, c.len.ensures, c.len-held.ensures) in
    on_ok_weaker c.mark_values.result
    (λ marked. given-with_added cell old new mask c.mark_values.new.validity (take c.args.count (number_left rule g.P.ParquetNativeType.physical g.P.ParquetNativeType.delta (Some (map cell entries)) c.args.bytes.now c.args.place.now))
    c.requires.own c.in_ok-take_values.ensures.added (marked ∙ ap (λ n. with_values n mask) count)
    ∙ ap (λ outcomes. map Given (marked_cells cell old mask) ++ take c.args.count outcomes)
    (entries_alike cell (option_copied c.args.dict) (λ v. v.items) entries rule g.P.ParquetNativeType.physical g.P.ParquetNativeType.delta c.args.bytes.now c.args.place.now c.entries_of-entries.ensures))
    c.mark_values.ensures.ok

pub returns-clause-own : goal.returns-clause-own
returns-clause-own g c =
    let cell = g.T.NativeType.cell in
    let rule = g.C.Convert.rule c.args.self.now.rule in
    let entries = c.entries_of-entries.result.now in
    let old = c.args.decoded.now.values.items in
    let new = c.take_values.new.values.items in
    let mask = c.args.decoded.now.validity in
    let count : c.len.result - c.len-held.result ≡ length new - length old = omega (arith, c.len.ensures, c.len-held.ensures) in
    on_ok_weaker c.mark_values.result
    (λ marked. mask-added cell old new mask c.mark_values.new.validity (take c.args.count (number_left rule g.P.ParquetNativeType.physical g.P.ParquetNativeType.delta (Some (map cell entries)) c.args.bytes.now c.args.place.now))
    c.requires.own c.in_ok-take_values.ensures.added (marked ∙ ap (λ n. with_values n mask) count))
    c.mark_values.ensures.ok

pub returns-clause-left : goal.returns-clause-left
returns-clause-left g c =
    let cell = g.T.NativeType.cell in
    let rule = g.C.Convert.rule c.args.self.now.rule in
    let entries = c.entries_of-entries.result.now in
    let number = number_left rule g.P.ParquetNativeType.physical g.P.ParquetNativeType.delta in
    let alike : (place : NumberPlace) → number (Some (map cell entries)) c.args.bytes.now place ≡ number (option_map (λ v. map cell v.items) (option_copied c.args.dict)) c.args.bytes.now place =
    λ place. entries_alike cell (option_copied c.args.dict) (λ v. v.items) entries rule g.P.ParquetNativeType.physical g.P.ParquetNativeType.delta c.args.bytes.now place c.entries_of-entries.ensures in
    on_ok_weaker c.mark_values.result
    (λ marked. sym (alike c.take_values.new.place) ∙ c.in_ok-take_values.ensures.rest ∙ ap (drop c.args.count) (alike c.args.place.now))
    c.mark_values.ensures.ok

pub returns-in_err-take_values-clause-cause : goal.returns-in_err-take_values-clause-cause
returns-in_err-take_values-clause-cause g c =
    let cell = g.T.NativeType.cell in
    let rule = g.C.Convert.rule c.args.self.now.rule in
    let entries = c.entries_of-entries.result.now in
    let number = number_left rule g.P.ParquetNativeType.physical g.P.ParquetNativeType.delta in
    let held = map Given (marked_cells cell c.args.decoded.now.values.items c.args.decoded.now.validity) in
    let outcomes = number (Some (map cell entries)) c.args.bytes.now c.args.place.now in
    let error = c.in_err-take_values.field-0.0 in
    let alike = entries_alike cell (option_copied c.args.dict) (λ v. v.items) entries rule g.P.ParquetNativeType.physical g.P.ParquetNativeType.delta c.args.bytes.now c.args.place.now c.entries_of-entries.ensures in
    let P : List Outcome → Type 0 = λ found. IsCausedByChunks None None (held ++ take c.args.count found) error in
    let cause : P (number (option_map (λ v. map cell v.items) (option_copied c.args.dict)) c.args.bytes.now c.args.place.now) =
    subst P alike (chunks-right None None held (take c.args.count outcomes) error c.in_err-take_values.ensures.cause) in
    search rules

pub returns-clause-cause : goal.returns-clause-cause
returns-clause-cause g c =
    let cell = g.T.NativeType.cell in
    let number = number_left (g.C.Convert.rule c.args.self.now.rule) g.P.ParquetNativeType.physical g.P.ParquetNativeType.delta in
    let held = map Given (marked_cells cell c.args.decoded.now.values.items c.args.decoded.now.validity) in
    let outcomes = number (option_map (λ v. map cell v.items) (option_copied c.args.dict)) c.args.bytes.now c.args.place.now in
    memory-told c.mark_values.result None (held ++ take c.args.count outcomes) c.mark_values.ensures.err

use Rattle.std.proofs.Common.{◌≡◌, ◌++◌, ◌-◌, ◌∙◌, List, ap, arith, drop, length, map, rules, subst, sym, take, None, Some}
use Rattle.std.specs.Prelude.{option_copied, option_map}
use Rattle.std.proofs.lemmas.Result.{on_ok_weaker}
use Rattle.page_decoding.proofs.BytesLemmas.{chunks-right}
use Rattle.page_decoding.specs.Bytes.{IsCausedByChunks}
use Rattle.page_decoding.specs.Outcome.{Given, Outcome}
use Rattle.flat_values.specs.Decoded.{marked_cells, with_values}
use Rattle.flat_values.specs.FixedLeft.{fixed_outcomes}
use Rattle.flat_values.specs.declared.fixed.FixedPlace.{FixedPlace}
use Rattle.flat_values.proofs.CauseLemmas.{memory-told}
use Rattle.flat_values.proofs.DecodedLemmas.{given-with_added, mask-added}
use Rattle.flat_values.proofs.FixedPlaceLemmas.{fixed_alike}
use Rattle.flat_values.proofs.fixed_numbers.FixedNumbersValues.take.Goals as goal

pub returns-clause-cells : goal.returns-clause-cells
returns-clause-cells g c =
    let cell = g.T.NativeType.cell in
    let rule = g.C.ConvertFixed.rule c.args.self.now.rule in
    let entries = c.entries_of-entries.result.now in
    let old = c.args.decoded.now.values.items in
    let new = c.take_values.new.values.items in
    let mask = c.args.decoded.now.validity in
    let count : c.len.result - c.len-held.result ≡ length new - length old = omega (arith, c.len.ensures, c.len-held.ensures) in
    on_ok_weaker c.mark_values.result
    (λ marked. given-with_added cell old new mask c.mark_values.new.validity (take c.args.count (fixed_outcomes rule (Some (map cell entries)) c.args.bytes.now c.args.place.now))
    c.requires.own c.in_ok-behind.ensures.added (marked ∙ ap (λ n. with_values n mask) count)
    ∙ ap (λ outcomes. map Given (marked_cells cell old mask) ++ take c.args.count outcomes)
    (fixed_alike cell (option_copied c.args.dict) (λ v. v.items) entries rule c.args.bytes.now c.args.place.now c.entries_of-entries.ensures))
    c.mark_values.ensures.ok

pub returns-clause-own : goal.returns-clause-own
returns-clause-own g c =
    let cell = g.T.NativeType.cell in
    let rule = g.C.ConvertFixed.rule c.args.self.now.rule in
    let entries = c.entries_of-entries.result.now in
    let old = c.args.decoded.now.values.items in
    let new = c.take_values.new.values.items in
    let mask = c.args.decoded.now.validity in
    let count : c.len.result - c.len-held.result ≡ length new - length old = omega (arith, c.len.ensures, c.len-held.ensures) in
    on_ok_weaker c.mark_values.result
    (λ marked. mask-added cell old new mask c.mark_values.new.validity (take c.args.count (fixed_outcomes rule (Some (map cell entries)) c.args.bytes.now c.args.place.now))
    c.requires.own c.in_ok-behind.ensures.added (marked ∙ ap (λ n. with_values n mask) count))
    c.mark_values.ensures.ok

pub returns-clause-left : goal.returns-clause-left
returns-clause-left g c =
    let cell = g.T.NativeType.cell in
    let rule = g.C.ConvertFixed.rule c.args.self.now.rule in
    let entries = c.entries_of-entries.result.now in
    let alike : (place : FixedPlace) → fixed_outcomes rule (Some (map cell entries)) c.args.bytes.now place ≡ fixed_outcomes rule (option_map (λ v. map cell v.items) (option_copied c.args.dict)) c.args.bytes.now place =
    λ place. fixed_alike cell (option_copied c.args.dict) (λ v. v.items) entries rule c.args.bytes.now place c.entries_of-entries.ensures in
    on_ok_weaker c.mark_values.result
    (λ marked. sym (alike c.in_ok-behind.behind) ∙ c.in_ok-behind.ensures.rest ∙ ap (drop c.args.count) (alike c.args.place.now))
    c.mark_values.ensures.ok

pub returns-in_err-behind-clause-cause : goal.returns-in_err-behind-clause-cause
returns-in_err-behind-clause-cause g c =
    let cell = g.T.NativeType.cell in
    let rule = g.C.ConvertFixed.rule c.args.self.now.rule in
    let entries = c.entries_of-entries.result.now in
    let held = map Given (marked_cells cell c.args.decoded.now.values.items c.args.decoded.now.validity) in
    let outcomes = fixed_outcomes rule (Some (map cell entries)) c.args.bytes.now c.args.place.now in
    let error = c.in_err-behind.field-0.0 in
    let alike = fixed_alike cell (option_copied c.args.dict) (λ v. v.items) entries rule c.args.bytes.now c.args.place.now c.entries_of-entries.ensures in
    let P : List Outcome → Type 0 = λ found. IsCausedByChunks None None (held ++ take c.args.count found) error in
    let cause : P (fixed_outcomes rule (option_map (λ v. map cell v.items) (option_copied c.args.dict)) c.args.bytes.now c.args.place.now) =
    subst P alike (chunks-right None None held (take c.args.count outcomes) error c.in_err-behind.ensures.cause) in
    search rules

pub returns-clause-cause : goal.returns-clause-cause
returns-clause-cause g c =
    let cell = g.T.NativeType.cell in
    let held = map Given (marked_cells cell c.args.decoded.now.values.items c.args.decoded.now.validity) in
    let outcomes = fixed_outcomes (g.C.ConvertFixed.rule c.args.self.now.rule) (option_map (λ v. map cell v.items) (option_copied c.args.dict)) c.args.bytes.now c.args.place.now in
    memory-told c.mark_values.result None (held ++ take c.args.count outcomes) c.mark_values.ensures.err

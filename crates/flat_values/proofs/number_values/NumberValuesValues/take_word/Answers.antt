use Rattle.std.proofs.Common.{◌≡◌, ◌∙◌, ◌++◌, List, ap, arith, drop, map, rules, subst, sym, take, None, Some}
use Rattle.std.specs.Prelude.{option_copied, option_map}
use Rattle.std.proofs.lemmas.Result.{on_ok_weaker}
use Rattle.parquet_page.specs.ValidityParts.{word_places, word_steps}
use Rattle.page_decoding.proofs.FilteredLemmas.{stored-plan}
use Rattle.page_decoding.proofs.BytesLemmas.{chunks-right}
use Rattle.page_decoding.specs.Bytes.{IsCausedByChunks}
use Rattle.page_decoding.specs.Outcome.{Given, Outcome}
use Rattle.flat_values.specs.Decoded.{marked_cells}
use Rattle.flat_values.specs.FlatLeft.{given_along, word_outcomes}
use Rattle.flat_values.specs.NumbersLeft.{number_left}
use Rattle.flat_values.specs.declared.numbers.NumberPlace.{NumberPlace}
use Rattle.flat_values.proofs.CauseLemmas.{memory-told}
use Rattle.flat_values.proofs.DecodedLemmas.{added-cells, given-with_places}
use Rattle.flat_values.proofs.NumberPlaces.{entries_alike}
use Rattle.flat_values.proofs.WordLemmas.{word-caused}
use Rattle.flat_values.proofs.number_values.NumberValuesValues.take_word.Goals as goal

pub returns-clause-cells : goal.returns-clause-cells
returns-clause-cells g c =
    let cell = g.T.NativeType.cell in
    let rule = g.C.Convert.rule c.args.self.now.rule in
    let entries = c.entries_of-entries.result.now in
    let outcomes = number_left rule g.P.ParquetNativeType.physical g.P.ParquetNativeType.delta (Some (map cell entries)) c.args.bytes.now c.args.place.now in
    let old = c.args.decoded.now.values.items in
    let mid = c.take_values.new.values.items in
    let mask = c.args.decoded.now.validity in
    let held = c.len-held.result in
    let steps = word_steps c.args.word in
    let added = added-cells cell old mid mask (take c.present.result outcomes) held (omega (arith, c.len-held.ensures)) c.requires.own c.in_ok-take_values.ensures.added in
    let few = stored-plan None 0 (word_places c.args.word) in
    on_ok_weaker c.spread.result
    (λ is. given-with_places cell old mid c.spread.new.self.values.items mask c.spread.new.self.validity steps outcomes held c.present.result added (omega (arith, few, c.present.ensures)) is
    ∙ ap (λ found. map Given (marked_cells cell old mask) ++ given_along steps found)
    (entries_alike cell (option_copied c.args.dict) (λ v. v.items) entries rule g.P.ParquetNativeType.physical g.P.ParquetNativeType.delta c.args.bytes.now c.args.place.now c.entries_of-entries.ensures))
    c.spread.ensures.cells

pub returns-clause-left : goal.returns-clause-left
returns-clause-left g c =
    let cell = g.T.NativeType.cell in
    let rule = g.C.Convert.rule c.args.self.now.rule in
    let entries = c.entries_of-entries.result.now in
    let number = number_left rule g.P.ParquetNativeType.physical g.P.ParquetNativeType.delta in
    let left = number (option_map (λ v. map cell v.items) (option_copied c.args.dict)) c.args.bytes.now in
    let alike : (place : NumberPlace) → number (Some (map cell entries)) c.args.bytes.now place ≡ left place =
    λ place. entries_alike cell (option_copied c.args.dict) (λ v. v.items) entries rule g.P.ParquetNativeType.physical g.P.ParquetNativeType.delta c.args.bytes.now place c.entries_of-entries.ensures in
    on_ok_weaker c.spread.result
    (λ is. sym (alike c.take_values.new.place) ∙ c.in_ok-take_values.ensures.rest ∙ ap (drop c.present.result) (alike c.args.place.now) ∙ ap (λ n. drop n (left c.args.place.now)) c.present.ensures)
    c.spread.ensures.cells

pub returns-in_err-take_values-clause-cause : goal.returns-in_err-take_values-clause-cause
returns-in_err-take_values-clause-cause g c =
    let cell = g.T.NativeType.cell in
    let rule = g.C.Convert.rule c.args.self.now.rule in
    let entries = c.entries_of-entries.result.now in
    let number = number_left rule g.P.ParquetNativeType.physical g.P.ParquetNativeType.delta in
    let outcomes = number (Some (map cell entries)) c.args.bytes.now c.args.place.now in
    let error = c.in_err-take_values.field-0.0 in
    let alike = entries_alike cell (option_copied c.args.dict) (λ v. v.items) entries rule g.P.ParquetNativeType.physical g.P.ParquetNativeType.delta c.args.bytes.now c.args.place.now c.entries_of-entries.ensures in
    let held = map Given (marked_cells cell c.args.decoded.now.values.items c.args.decoded.now.validity) in
    let P : List Outcome → Type 0 = λ found. IsCausedByChunks None None (held ++ word_outcomes c.args.word found) error in
    let cause : P (number (option_map (λ v. map cell v.items) (option_copied c.args.dict)) c.args.bytes.now c.args.place.now) =
    subst P alike (chunks-right None None held (word_outcomes c.args.word outcomes) error
    (word-caused (word_places c.args.word) outcomes c.present.result error c.present.ensures c.in_err-take_values.ensures.cause)) in
    search rules

pub returns-clause-cause : goal.returns-clause-cause
returns-clause-cause g c =
    let cell = g.T.NativeType.cell in
    let number = number_left (g.C.Convert.rule c.args.self.now.rule) g.P.ParquetNativeType.physical g.P.ParquetNativeType.delta in
    let held = map Given (marked_cells cell c.args.decoded.now.values.items c.args.decoded.now.validity) in
    let outcomes = number (option_map (λ v. map cell v.items) (option_copied c.args.dict)) c.args.bytes.now c.args.place.now in
    memory-told c.spread.result None (held ++ word_outcomes c.args.word outcomes) c.spread.ensures.memory

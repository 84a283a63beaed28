use Rattle.std.proofs.Common.{rules, ◌∙◌, ap, sym, subst, ℕ, List, length}
use Rattle.std.specs.Prelude.{option_map}
use Rattle.std.specs.Option.{option_copied}
use Rattle.columns_core.specs.Causes.{IsOneOf, cause_of}
use Rattle.parquet_page.specs.Content.{data_content}
use Rattle.parquet_page.specs.Levels.{body_of}
use Rattle.page_decoding.specs.FilteredLeft.{filtered_steps}
use Rattle.page_decoding.specs.Outcome.{causes_in}
use Rattle.flat_values.specs.Encodings.{as_encoding}
use Rattle.flat_values.specs.FlatLeft.{IsStateOf, given_along, values_left}
use Rattle.flat_values.specs.Outcomes.{selected_outcomes}
use Rattle.std.proofs.Common.{take}
use Rattle.flat_values.proofs.FlatLemmas.{GivesAll, built, bytes-are, counted-entries, no-encoding, no-levels, no-values, told-entries}
use Rattle.flat_values.proofs.flat_decoder.FlatDecoderDecoder.build_state.Given.{Over}
use Rattle.flat_values.proofs.flat_decoder.FlatDecoderDecoder.build_state.Goals as goal

pub returns-in_default-clause-cause : goal.returns-in_default-clause-cause
returns-in_default-clause-cause g c =
    let self = c.args.self.now.values in
    let shown = g.V.ValueDecoder.dict_shown self in
    no-encoding (g.V.ValueDecoder.rule self) c.is_some.result (option_map shown (option_copied c.args.dict)) (data_content c.args.page.now) (told-entries shown c.args.dict ∙ sym c.is_some.ensures) c.in_default.ensures

pub returns-in_err-walk-clause-cause : goal.returns-in_err-walk-clause-cause
returns-in_err-walk-clause-cause g c =
    let self = c.args.self.now.values in
    let shown = g.V.ValueDecoder.dict_shown self in
    let page = data_content c.args.page.now in
    let entries = option_map shown (option_copied c.args.dict) in
    let error = c.in_err-walk.field-0.0 in
    let cause : IsOneOf (causes_in (take 1 (selected_outcomes (g.V.ValueDecoder.rule self) entries page))) (cause_of error) =
    no-levels (g.V.ValueDecoder.rule self) c.is_some.result entries page (as_encoding c.in-Some.encoding) (cause_of error) (told-entries shown c.args.dict ∙ sym c.is_some.ensures) c.in-Some.ensures c.in_err-walk.ensures.refusal in
    search rules

pub returns-in_err-values-clause-cause : goal.returns-in_err-values-clause-cause
returns-in_err-values-clause-cause g c =
    let self = c.args.self.now.values in
    let shown = g.V.ValueDecoder.dict_shown self in
    let page = data_content c.args.page.now in
    let entries = option_map shown (option_copied c.args.dict) in
    let body = body_of c.in_ok-bytes.field-0-0.now c.in_ok-bytes.field-0-1.now c.in_ok-bytes.bytes.now in
    let error = c.in_err-values.field-0.0 in
    let cause : IsOneOf (causes_in (take 1 (selected_outcomes (g.V.ValueDecoder.rule self) entries page))) (cause_of error) =
    no-values (g.V.ValueDecoder.rule self) c.is_some.result entries page (as_encoding c.in-Some.encoding) body c.stored_count-count.result (filtered_steps c.in_ok-walk.walk page)
    (told-entries shown c.args.dict ∙ sym c.is_some.ensures) c.in-Some.ensures c.in_ok-walk.ensures.ok c.in_ok-bytes.ensures.parts c.in_ok-walk.ensures.steps c.stored_count-count.ensures
    (g.V.ValueDecoder.physical self) (option_map (λ dict. length (shown dict)) (option_copied c.args.dict)) (cause_of error) c.requires.takes (counted-entries shown (option_copied c.args.dict)) c.in_err-values.ensures.cause in
    search rules

-- what the state gives
given : (g : Over) (c : goal.In_ok-values g) → GivesAll (g.V.ValueDecoder.rule c.args.self.now.values) (option_map (g.V.ValueDecoder.dict_shown c.args.self.now.values) (option_copied c.args.dict)) (data_content c.args.page.now)
    (filtered_steps c.in_ok-walk.walk (data_content c.args.page.now)) (values_left (g.V.Values.left c.args.self.now.values (option_copied c.args.dict) c.in_ok-bytes.bytes.now) c.in_ok-values.values)
given g c =
    let self = c.args.self.now.values in
    let shown = g.V.ValueDecoder.dict_shown self in
    let page = data_content c.args.page.now in
    let body = body_of c.in_ok-bytes.field-0-0.now c.in_ok-bytes.field-0-1.now c.in_ok-bytes.bytes.now in
    built (g.V.ValueDecoder.rule self) c.is_some.result (option_map shown (option_copied c.args.dict)) page (as_encoding c.in-Some.encoding) body c.stored_count-count.result (filtered_steps c.in_ok-walk.walk page)
    (told-entries shown c.args.dict ∙ sym c.is_some.ensures) c.in-Some.ensures c.in_ok-walk.ensures.ok c.in_ok-bytes.ensures.parts c.in_ok-walk.ensures.steps c.stored_count-count.ensures
    (g.V.ValueDecoder.physical self) (option_map (λ dict. length (shown dict)) (option_copied c.args.dict)) (values_left (g.V.Values.left self (option_copied c.args.dict) c.in_ok-bytes.bytes.now) c.in_ok-values.values)
    c.requires.takes (counted-entries shown (option_copied c.args.dict)) c.in_ok-values.ensures.ok c.in_ok-values.ensures.values

pub returns-clause-state : goal.returns-clause-state
returns-clause-state g c =
    let self = c.args.self.now.values in
    let page = data_content c.args.page.now in
    let body = body_of c.in_ok-bytes.field-0-0.now c.in_ok-bytes.field-0-1.now c.in_ok-bytes.bytes.now in
    let P : List ℕ → Type 0 = λ bytes. IsStateOf (g.V.Values.is_over self) (g.V.Values.left self (option_copied c.args.dict)) bytes c.in_ok-walk.walk c.in_ok-values.values page in
    let own : P body.values = record { page_is = c.in_ok-walk.ensures.page; over = c.in_ok-values.ensures.over; enough = (given g c).enough } in
    subst P (sym (bytes-are page body c.in_ok-bytes.ensures.parts)) own

pub returns-clause-rows : goal.returns-clause-rows
returns-clause-rows g c =
    let page = data_content c.args.page.now in
    let left = g.V.Values.left c.args.self.now.values (option_copied c.args.dict) in
    let body = body_of c.in_ok-bytes.field-0-0.now c.in_ok-bytes.field-0-1.now c.in_ok-bytes.bytes.now in
    ap (λ bytes. given_along (filtered_steps c.in_ok-walk.walk page) (values_left (left bytes) c.in_ok-values.values)) (bytes-are page body c.in_ok-bytes.ensures.parts) ∙ (given g c).rows

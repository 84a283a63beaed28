use Rattle.std.proofs.Common.{◌≡◌, ◌∙◌, ℕ, List, Some, None, true, ap, inl, refl, rules, subst, sym, length}
use Rattle.std.proofs.lemmas.Grind.{common_steps}
use Rattle.std.proofs.Common.{arith}
use Rattle.std.proofs.lemmas.Result.{err_from_is_err_and}
use Rattle.columns_core.specs.Causes.{Cause, IsOneOf, cause_of}
use Rattle.parquet_page.specs.Content.{data_content}
use Rattle.parquet_page.specs.Levels.{body_of}
use Rattle.parquet_page.specs.Values.{Keys}
use Rattle.page_decoding.specs.FilteredLeft.{filtered_steps}
use Rattle.columns_core.specs.declared.cell.Cell.{Cell}
use Rattle.flat_values.specs.Conversion.{Keep}
use Rattle.flat_values.specs.FlatLeft.{IsStateOf, given_along, read_encoding, values_left}
use Rattle.flat_values.specs.KeysLeft.{IsAmongKeys}
use Rattle.flat_values.specs.OneEncoding.{key_outcomes}
use Rattle.flat_values.proofs.FlatLemmas.{built, bytes-are, is_read, length-some, levels-told, opened, opened-causes}
use Rattle.flat_values.proofs.number_states.FlatState+KeyPlace.try_new.Goals as goal

pub returns-in_err-walk-clause-refused : goal.returns-in_err-walk-clause-refused
returns-in_err-walk-clause-refused c =
    let p = err_from_is_err_and c.from_residual.result c.from_residual.ensures.1 in
    let page = data_content c.args.page.now in
    let read : read_encoding true page ≡ Some Keys = first_of (search rules, grind (arith, common_steps)) in
    rw (p.1, p.2) (inl (read, levels-told true None page Keys (cause_of c.in_err-walk.field-0.0) (is_read true page Keys read) c.in_err-walk.ensures.refusal))

pub returns-in_err-values-clause-refused : goal.returns-in_err-values-clause-refused
returns-in_err-values-clause-refused c =
    let p = err_from_is_err_and c.from_residual-in_err-values.result c.from_residual-in_err-values.ensures.1 in
    let page = data_content c.args.page.now in
    let body = body_of c.in_ok-bytes.field-0-0.now c.in_ok-bytes.field-0-1.now c.in_ok-bytes.bytes.now in
    let count = c.stored_count.result in
    let steps = filtered_steps c.in_ok-walk.walk page in
    let read : read_encoding true page ≡ Some Keys = first_of (search rules, grind (arith, common_steps)) in
    let whole = opened-causes true None page Keys body.values count steps (is_read true page Keys read) (opened page body count steps c.in_ok-walk.ensures.ok c.in_ok-bytes.ensures.parts c.in_ok-walk.ensures.steps c.stored_count.ensures) in
    let P : List Cause → Type 0 = λ causes. IsOneOf causes (cause_of c.in_err-values.field-0.0) in
    rw (p.1, p.2) (inl (read, subst P (sym whole) (c.in_err-values.ensures.cause page.type.physical_type)))

pub returns-clause-ok : goal.returns-clause-ok
returns-clause-ok c =
    let page = data_content c.args.page.now in
    let body = body_of c.in_ok-bytes.field-0-0.now c.in_ok-bytes.field-0-1.now c.in_ok-bytes.bytes.now in
    let count = c.stored_count.result in
    let steps = filtered_steps c.in_ok-walk.walk page in
    let read : read_encoding true page ≡ Some Keys = first_of (search rules, grind (arith, common_steps)) in
    opened-causes true None page Keys body.values count steps (is_read true page Keys read) (opened page body count steps c.in_ok-walk.ensures.ok c.in_ok-bytes.ensures.parts c.in_ok-walk.ensures.steps c.stored_count.ensures)
    ∙ c.in_ok-values.ensures.ok page.type.physical_type

pub returns-clause-state : goal.returns-clause-state
returns-clause-state c =
    let page = data_content c.args.page.now in
    let type = page.type.physical_type in
    let body = body_of c.in_ok-bytes.field-0-0.now c.in_ok-bytes.field-0-1.now c.in_ok-bytes.bytes.now in
    let count = c.stored_count.result in
    let steps = filtered_steps c.in_ok-walk.walk page in
    let read : read_encoding true page ≡ Some Keys = first_of (search rules, grind (arith, common_steps)) in
    let left = λ (entries : List Cell) (bytes : List ℕ). values_left (key_outcomes entries bytes) c.in_ok-values.values in
    let whole = λ (entries : List Cell). opened-causes true (Some (length entries)) page Keys body.values count steps (is_read true page Keys read) (opened page body count steps c.in_ok-walk.ensures.ok c.in_ok-bytes.ensures.parts c.in_ok-walk.ensures.steps c.stored_count.ensures) in
    let bytes = bytes-are page body c.in_ok-bytes.ensures.parts in
    record {
      is_state = λ entries. subst (λ all. IsStateOf IsAmongKeys (key_outcomes entries) all c.in_ok-walk.walk c.in_ok-values.values page) (sym bytes)
          (record { page_is = c.in_ok-walk.ensures.page; over = c.in_ok-values.ensures.over; enough = length-some Keep type (Some entries) Keys body.values count (left entries body.values) (c.in_ok-values.ensures.values Keep type entries) ∙ c.stored_count.ensures });
      rows = λ rule entries none. ap (λ all. given_along steps (left entries all)) bytes
          ∙ (built rule true (Some entries) page Keys body count steps refl (sym read) c.in_ok-walk.ensures.ok c.in_ok-bytes.ensures.parts c.in_ok-walk.ensures.steps c.stored_count.ensures
          type (Some (length entries)) (left entries body.values) refl refl (sym (whole entries) ∙ none) (c.in_ok-values.ensures.values rule type entries)).rows;
    }

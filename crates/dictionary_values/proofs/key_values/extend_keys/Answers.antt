use Rattle.std.proofs.Common.{◌∙◌, OnOk, Some, map, pos, refl, rules, subst, sym, ℕ, ℤ}
use Rattle.std.proofs.lemmas.Iterator.{YieldsList-from_slice}
use Rattle.std.proofs.lemmas.Iterator.Consumers.{YieldsList-at}
use Rattle.columns_core.specs.declared.cell.Cell.{Int}
use Rattle.columns_core.specs.declared.error.Error.TheVariants as errors
use Rattle.columns_core.specs.declared.error.Part.TheVariants.{Dictionary}
use Rattle.flat_values.specs.Added.{Adds}
use Rattle.flat_values.specs.Outcomes.{entry_outcome}
use Rattle.dictionary_values.specs.KeysGiven.{numbers_below}
use Rattle.dictionary_values.proofs.KeyLemmas.{extended_below, keys_added, past_numbers_refused}
use Rattle.dictionary_values.proofs.key_values.extend_keys.Goals as goal

pub returns-then-some_key_is_past-clause-cause : goal.returns-then-some_key_is_past-clause-cause
returns-then-some_key_is_past-clause-cause g c =
    past_numbers_refused c.args.limit c.args.numbers.now (errors.OutOfSpec Dictionary) refl (sym c.some_key_is_past.ensures ∙ c.if-some_key_is_past.true)

pub returns-clause-added : goal.returns-clause-added
returns-clause-added g c =
    let number = g.K.DictionaryKey.number in
    let numbered : ℕ → ℤ = λ key. pos key in
    let limit = c.args.limit in
    let none = sym c.some_key_is_past.ensures ∙ c.if-some_key_is_past.false in
    let rows = map (entry_outcome (Some (numbers_below limit))) c.args.numbers.now in
    subst (λ result. OnOk result (Adds (λ key. Int (number key)) c.args.found.now.items c.extend.new.self.items rows)) c.in_ok-extend.was
    (extended_below number numbered limit c.extend.result c.extend.ensures.ran (YieldsList-at c.map.ensures.source (YieldsList-from_slice c.args.numbers.now c.iter.ensures.rest)) c.map.ensures.closure none
    (λ x result q below k. search (rules, below))
    (λ xs e h. keys_added number c.args.found.now.items c.extend.new.self.items xs limit c.args.numbers.now h.0 e none))

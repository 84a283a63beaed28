use Rattle.std.proofs.Common.{List, ◌∙◌, ap, append-nil, map, refl, subst, sym, Some}
use Rattle.columns_core.specs.declared.error.Error.TheVariants as errors
use Rattle.columns_core.specs.declared.error.Part.TheVariants.{Dictionary}
use Rattle.page_decoding.specs.Outcome.{Given, Outcome}
use Rattle.flat_values.specs.Added.{Adds}
use Rattle.flat_values.specs.Outcomes.{entry_outcome}
use Rattle.flat_values.proofs.KeyLemmas.{found_named, no_keys, past_refused}
use Rattle.flat_values.proofs.keys.extend_named.Goals as goal

pub returns-then-some_key_is_past-clause-cause : goal.returns-then-some_key_is_past-clause-cause
returns-then-some_key_is_past-clause-cause g c =
    past_refused g.T.NativeType.cell c.args.entries.now c.args.keys.now (errors.OutOfSpec Dictionary) refl (sym c.some_key_is_past.ensures ∙ c.if-some_key_is_past.true)

pub returns-in_default-clause-added : goal.returns-in_default-clause-added
returns-in_default-clause-added g c =
    let cell = g.T.NativeType.cell in
    let outcome = entry_outcome (Some (map cell c.args.entries.now)) in
    let none = no_keys c.args.entries.now c.args.keys.now c.in_default.ensures.value (sym c.some_key_is_past.ensures ∙ c.if-some_key_is_past.false) in
    let P : List Outcome → Type 0 = λ outcomes. Adds cell c.args.values.now.items c.args.values.now.items outcomes in
    subst P (ap (map outcome) (sym none)) (sym (append-nil (map (λ number. Given (cell number)) c.args.values.now.items)))

pub returns-clause-added : goal.returns-clause-added
returns-clause-added g c =
    let cell = g.T.NativeType.cell in
    let P : List Outcome → Type 0 = λ outcomes. Adds cell c.args.values.now.items c.extend_found.new.values.items outcomes in
    subst P (found_named cell c.args.entries.now c.in-Some.first.now c.args.keys.now (sym c.some_key_is_past.ensures ∙ c.if-some_key_is_past.false)) c.in_ok-extend_found.ensures

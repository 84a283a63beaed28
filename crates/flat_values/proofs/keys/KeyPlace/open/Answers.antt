use Rattle.std.proofs.Common.{◌∙◌, Some, ap, sym}
use Rattle.parquet_encoding.specs.HybridLeft.{hybrid_values}
use Rattle.parquet_page.specs.Values.{dictionary_keys}
use Rattle.flat_values.proofs.KeyLemmas.{are_spelled, behind_width, key_fine, key_past, key_refused, no_width, not_spelled}
use Rattle.flat_values.proofs.keys.KeyPlace.open.Goals as goal

pub returns-in_default-clause-cause : goal.returns-in_default-clause-cause
returns-in_default-clause-cause c = key_refused c.args.entries (dictionary_keys c.args.bytes.now c.args.count) (no_width c.args.bytes.now c.args.count c.in_default.ensures.cases)

pub returns-in_default-try_new-clause-cause : goal.returns-in_default-try_new-clause-cause
returns-in_default-try_new-clause-cause c =
    key_refused c.args.entries (dictionary_keys c.args.bytes.now c.args.count)
    (not_spelled c.args.bytes.now c.in-Some.rest.now c.in-Some.width.now c.args.count c.try_new.result c.in_default-try_new.field-0 c.in-Some.ensures.cases.0 c.in_default-try_new.is c.try_new.ensures.exact)

pub returns-then-pass_entries-clause-cause : goal.returns-then-pass_entries-clause-cause
returns-then-pass_entries-clause-cause c =
    key_past c.args.entries (dictionary_keys c.args.bytes.now c.args.count) (hybrid_values c.in-Ok.keys c.in-Some.rest.now)
    (are_spelled c.args.bytes.now c.in-Some.rest.now c.in-Some.width.now c.args.count c.in-Ok.keys c.in-Some.ensures.cases.0 c.in-Ok.ensures.values c.in-Ok.ensures.exact) (sym c.pass_entries.ensures ∙ c.if-pass_entries.true)

pub returns-clause-ok : goal.returns-clause-ok
returns-clause-ok c =
    key_fine c.args.entries (dictionary_keys c.args.bytes.now c.args.count) (hybrid_values c.in-Ok.keys c.in-Some.rest.now)
    (are_spelled c.args.bytes.now c.in-Some.rest.now c.in-Some.width.now c.args.count c.in-Ok.keys c.in-Some.ensures.cases.0 c.in-Ok.ensures.values c.in-Ok.ensures.exact) (sym c.pass_entries.ensures ∙ c.if-pass_entries.false)

pub returns-clause-keys : goal.returns-clause-keys
returns-clause-keys c =
    are_spelled c.args.bytes.now c.in-Some.rest.now c.in-Some.width.now c.args.count c.in-Ok.keys c.in-Some.ensures.cases.0 c.in-Ok.ensures.values c.in-Ok.ensures.exact
    ∙ ap Some (behind_width c.args.bytes.now c.in-Some.rest.now c.in-Some.width.now c.in-Ok.keys c.in-Some.ensures.cases.0)

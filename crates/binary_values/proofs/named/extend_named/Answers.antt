use Rattle.std.proofs.Common.{[], ◌∷◌, ap, arith, false, get_or, inl, inr, length, refl}
use Rattle.std.specs.Prelude.{sum_by}
use Rattle.std.specs.Option.{option_copied}
use Rattle.std.proofs.lemmas.List.Sums.{sum_by-append, sum_by-cons}
use Rattle.columns_core.specs.Causes.{OutOfSpec, cause_of}
use Rattle.columns_core.specs.declared.cell.Cell.{Bytes}
use Rattle.columns_core.specs.declared.error.Error.TheVariants as errors
use Rattle.columns_core.specs.declared.error.Part.TheVariants.{Dictionary}
use Rattle.parquet_page.proofs.RefusalLemmas.{passed_on}
use Rattle.flat_values.specs.Outcomes.{entry_outcome}
use Rattle.flat_values.proofs.AddedLemmas.{one_more, refused_at}
use Rattle.binary_values.specs.ByteStrings.{byte_entries}
use Rattle.binary_values.proofs.NamedLemmas.{named-entry, named-none, named-past, named-text, text-behind}
use Rattle.binary_values.proofs.named.extend_named.Goals as goal

pub returns-in_default-clause-cause : goal.returns-in_default-clause-cause
returns-in_default-clause-cause g c =
    let key = get_or c.args.keys.now c.loop-key.key-index 0 in
    let dict = option_copied c.args.entries in
    inl (refused_at (entry_outcome (byte_entries false dict)) c.args.keys.now c.loop-key.key-index 0 key (OutOfSpec ∷ []) (errors.OutOfSpec Dictionary) c.loop-key-test.true refl (named-none dict key c.in_default.ensures) (0, omega arith, refl))

pub returns-in_err-push-clause-cause : goal.returns-in_err-push-clause-cause
returns-in_err-push-clause-cause g c =
    let key = get_or c.args.keys.now c.loop-key.key-index 0 in
    let dict = option_copied c.args.entries in
    let f = entry_outcome (byte_entries false dict) in
    passed_on c.from_residual.result _ _ c.from_residual.ensures.1 (
    elim c.in_err-push.ensures.err.1 [
      | inl memory ↦ inl (inl memory)
      | inr past ↦ inr (ap cause_of past.0, named-past f c.args.strings.now c.loop-key.strings c.args.keys.now c.loop-key.key-index g.O.Offset.greatest c.in-Some.entry.now c.loop-key.invariant.added c.loop-key-test.true (named-entry dict key c.in-Some.entry.now c.in-Some.ensures) past.1)
    ])

pub loop-key-preserved : goal.loop-key-preserved
loop-key-preserved g c =
    let i = c.loop-key.key-index in
    let key = get_or c.args.keys.now i 0 in
    let dict = option_copied c.args.entries in
    let f = entry_outcome (byte_entries false dict) in
    let entry = c.in-Some.entry.now in
    let new = c.in_ok-push.ensures.ok in
    record {
      added = one_more Bytes f c.args.strings.now c.loop-key.strings c.push.new.self c.args.keys.now i 0 entry c.loop-key.invariant.added c.loop-key-test.true new (named-entry dict key entry c.in-Some.ensures);
      fits = omega (arith, c.in_ok-push.ensures.fits, ap (sum_by length) new, sum_by-append length c.loop-key.strings (entry ∷ []), sum_by-cons length entry []);
      texts = λ held own. text-behind c.loop-key.strings c.push.new.self entry new (c.loop-key.invariant.texts held own) (named-text dict key entry c.in-Some.ensures own);
    }

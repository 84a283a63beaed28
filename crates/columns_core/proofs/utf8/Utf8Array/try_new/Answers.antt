use Rattle.std.proofs.Common.{◌≡◌, subst}
use Rattle.std.specs.Prelude.{◌⊎◌, IsTrue, Some}
use Rattle.columns_core.specs.Causes.{OutOfSpec, cause_of, is_invalid_argument}
use Rattle.columns_core.specs.Stored.{is_sized_text}
use Rattle.columns_core.specs.Joined.{FitTogether, AreTexts}
use Rattle.columns_core.proofs.OwnedLemmas.{owned}
use Rattle.columns_core.proofs.utf8.Utf8Array.try_new.Goals as goal

pub returns-in-Err-clause-err : goal.returns-in-Err-clause-err
returns-in-Err-clause-err g c =
    let e = c.in-Err.e in
    owned (λ bytes mask. (IsTrue (is_invalid_argument e) × (IsTrue (is_sized_text g.O.Offset.is_large c.args.data_type) → FitTogether c.args.offsets bytes mask → ⊥)) ⊎ ((cause_of e ≡ Some OutOfSpec) × (AreTexts c.args.offsets bytes → ⊥)))
    c.as_slice.ensures.value c.as_ref.ensures.value c.in-Err.ensures.err

pub of_texts-requires : goal.of_texts-requires
of_texts-requires g c = record {
  typed = c.in-Ok.ensures.ok.0;
  fit = owned (FitTogether c.args.offsets) c.as_slice.ensures.value c.as_ref.ensures.value c.in-Ok.ensures.ok.1;
  texts = subst (AreTexts c.args.offsets) c.as_slice.ensures.value c.in-Ok.ensures.ok.2;
}

pub returns-in-Ok-clause-ok : goal.returns-in-Ok-clause-ok
returns-in-Ok-clause-ok g c =
    let fit = owned (FitTogether c.args.offsets) c.as_slice.ensures.value c.as_ref.ensures.value c.in-Ok.ensures.ok.1 in
    (c.in-Ok.ensures.ok.0, fit, subst (AreTexts c.args.offsets) c.as_slice.ensures.value c.in-Ok.ensures.ok.2)

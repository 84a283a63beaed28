use Rattle.std.proofs.Common.{◌∙◌, ap, refl, sym}
use Rattle.std.proofs.lemmas.Bool.{true≢false}
use Rattle.columns_core.specs.Joined.{FitTogether}
use Rattle.columns_core.proofs.OwnedLemmas.{owned}
use Rattle.columns_core.proofs.binary.BinaryArray.try_new.Goals.{else-stores-via-else-stores, else-stores-via-then-stores+else-fit_together}
use Rattle.columns_core.proofs.binary.BinaryArray.try_new.Goals as goal

pub new-requires : goal.new-requires
new-requires g c = owned (FitTogether c.args.offsets) c.as_slice.ensures.value c.as_ref.ensures.value (c.fit_together.ensures.0 c.if-fit_together.true)

pub returns-then-fit_together-clause-array : goal.returns-then-fit_together-clause-array
returns-then-fit_together-clause-array g c = ap (λ items. record { data_type = c.args.data_type; items = items }) c.new.ensures

pub returns-then-fit_together-clause-ok : goal.returns-then-fit_together-clause-ok
returns-then-fit_together-clause-ok g c = (
  sym c.stores.ensures ∙ c.if-stores.true,
  owned (FitTogether c.args.offsets) c.as_slice.ensures.value c.as_ref.ensures.value (c.fit_together.ensures.0 c.if-fit_together.true),
)

pub returns-else-stores-clause-err : goal.returns-else-stores-clause-err
returns-else-stores-clause-err g c = (
  refl,
  λ stored fit. elim c.else-stores.branch [
    | else-stores-via-then-stores+else-fit_together w ↦
        absurd (true≢false (sym (w.fit_together.ensures.1 (owned (FitTogether c.args.offsets) (sym w.as_slice.ensures.value) (sym w.as_ref.ensures.value) fit)) ∙ w.if-fit_together.false))
    | else-stores-via-else-stores w ↦ absurd (true≢false (sym stored ∙ sym c.stores.ensures ∙ w.if-stores.false))
  ],
)

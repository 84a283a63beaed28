use Rattle.std.proofs.Common.{◌≡◌, true, ap, sym, ◌∙◌}
use Rattle.std.specs.Prelude.{not}
use Rattle.columns_core.specs.Array.{data_type_of}
use Rattle.std.proofs.lemmas.Bool.{true≢false}
use Rattle.columns_core.specs.Same.{same_from, same_itself}
use Rattle.columns_core.specs.contracts.data_type.DataType.{the_row}
use Rattle.put_program.specs.Request.{FitsField, is_own}
use Rattle.put_program.proofs.RequestLemmas.{fits, fits_without_null, without_null}
use Rattle.put_program.proofs.request.fits_field.Goals as goal
use Rattle.put_program.proofs.request.fits_field.Goals.{then-eq, else-eq}

pub returns-then-field : goal.returns-then-field
returns-then-field c =
    let own : (data_type_of c.args.array.now ≡ c.args.field.now.data_type) × (is_own c.args.array.now ≡ true) = elim c.if-eq.branch [
      | then-eq w ↦ (sym c.data_type.ensures ∙ same_from the_row.coded _ _ (sym c.eq.ensures ∙ w.if-eq.true), sym w.is_own.ensures ∙ sym w.value-is ∙ c.if-is_own.true)
      | else-eq w ↦ absurd cc
    ] in
    (λ h. fits c.args.field.now c.args.array.now own.0 own.1 c.if-field.true, λ f. c.if-field.true)

pub returns-else-field : goal.returns-else-field
returns-else-field c =
    let own : (data_type_of c.args.array.now ≡ c.args.field.now.data_type) × (is_own c.args.array.now ≡ true) = elim c.if-eq.branch [
      | then-eq w ↦ (sym c.data_type.ensures ∙ same_from the_row.coded _ _ (sym c.eq.ensures ∙ w.if-eq.true), sym w.is_own.ensures ∙ sym w.value-is ∙ c.if-is_own.true)
      | else-eq w ↦ absurd cc
    ] in (
      λ h. fits_without_null c.args.field.now c.args.array.now own.0 own.1 (ap not (sym c.has_null.ensures) ∙ h),
      λ f. ap not c.has_null.ensures ∙ without_null c.args.field.now c.args.array.now c.if-field.false f,
    )

pub returns-else-is_own : goal.returns-else-is_own
returns-else-is_own c =
    let none : FitsField c.args.field.now c.args.array.now → ⊥ = λ f. elim c.if-eq.branch [
      | then-eq w ↦ absurd (true≢false (sym f.own ∙ sym w.is_own.ensures ∙ sym w.value-is ∙ c.if-is_own.false))
      | else-eq w ↦ absurd (true≢false (sym (c.eq.ensures ∙ same_itself the_row.coded _ _ (c.data_type.ensures ∙ f.same)) ∙ w.if-eq.false))
    ] in
    (λ h. absurd (true≢false (sym h ∙ c.if-is_own.false)), λ f. absurd (none f))

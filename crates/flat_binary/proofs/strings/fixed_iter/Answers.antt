use Rattle.std.proofs.Common.{◌≡◌, ◌∙◌, ℕ, ap, subst, sym, arith}
use Rattle.flat_values.specs.declared.fixed_bytes.Decimals.{Decimals}
use Rattle.parquet_meta.specs.declared.metadata.PhysicalType.TheVariants.{FixedLenByteArray}
use Rattle.flat_binary.proofs.PageLists.{AreStoredAs}
use Rattle.flat_binary.proofs.strings.fixed_iter.Goals as goal

pub values_iter-requires-clause-takes : goal.values_iter-requires-clause-takes
values_iter-requires-clause-takes g c =
    let P : ℕ → Type 0 = λ size. AreStoredAs (g.I.Pages.to_come c.args.pages) (FixedLenByteArray size) in
    subst P (sym c.new-values.ensures) c.requires.typed

pub values_iter-requires-in-Decimal-clause-takes :
    goal.values_iter-requires-in-Decimal-clause-takes
values_iter-requires-in-Decimal-clause-takes g c =
    let P : ℕ → Type 0 = λ size. AreStoredAs (g.I.Pages.to_come c.args.pages) (FixedLenByteArray size) in
    subst P (sym (ap (λ (rule : Decimals). rule.size) c.new-values-in-Decimal.ensures ∙ c.new.ensures)) c.requires.typed

pub values_iter-requires-in-Interval-YearMonth-clause-takes :
    goal.values_iter-requires-in-Interval-YearMonth-clause-takes
values_iter-requires-in-Interval-YearMonth-clause-takes g c =
    let P : ℕ → Type 0 = λ size. AreStoredAs (g.I.Pages.to_come c.args.pages) (FixedLenByteArray size) in
    let twelve : c.args.length ≡ 12 = omega (arith, c.if-length-eq12.true) in
    subst P twelve c.requires.typed

pub values_iter-requires-in-Interval-DayTime-clause-takes :
    goal.values_iter-requires-in-Interval-DayTime-clause-takes
values_iter-requires-in-Interval-DayTime-clause-takes g c =
    let P : ℕ → Type 0 = λ size. AreStoredAs (g.I.Pages.to_come c.args.pages) (FixedLenByteArray size) in
    let twelve : c.args.length ≡ 12 = omega (arith, c.if-length-eq12-2.true) in
    subst P twelve c.requires.typed

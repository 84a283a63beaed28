use Rattle.std.proofs.Common.{◌≡◌, ◌<◌, ℕ, ap, sym, subst, ◌∙◌, arith}
use Rattle.columns_core.specs.ElementType.{fixed_size}
use Rattle.page_decoding.specs.Column.{DataPagesAre}
use Rattle.parquet_meta.specs.declared.metadata.PhysicalType.TheVariants.{FixedLenByteArray}
use Rattle.flat_values.proofs.fixed_size_binary.FlatIter+I+FixedValues.new.Goals as goal

pub of_values-requires : goal.of_values-requires
of_values-requires g c =
    let same : fixed_size c.args.data_type ≡ c.new.result.size = ap fixed_size c.in-FixedSizeBinary.is ∙ sym c.new.ensures in
    let P : ℕ → Type 0 = λ n. DataPagesAre (λ page. page.type.physical_type ≡ FixedLenByteArray n) (g.I.Pages.to_come c.args.iter) in
    let some : 0 < fixed_size c.args.data_type = omega (arith, ap fixed_size c.in-FixedSizeBinary.is) in
    record { takes = subst P same (c.requires.takes some) }

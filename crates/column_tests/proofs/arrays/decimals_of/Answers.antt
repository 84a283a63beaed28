use Rattle.std.proofs.Common.{◌∙◌, ◌≡◌, ℕ, ap, subst, sym}
use Rattle.page_decoding.specs.Column.{DataPagesAre}
use Rattle.flat_values.specs.declared.fixed_bytes.Decimals.{Decimals}
use Rattle.parquet_meta.specs.declared.metadata.PhysicalType.TheVariants.{FixedLenByteArray}
use Rattle.parquet_page.specs.Reader.{reader_pages}
use Rattle.column_tests.proofs.arrays.decimals_of.Goals as goal

pub numbers_by-requires : goal.numbers_by-requires
numbers_by-requires c =
    let P : ℕ → Type 0 = λ size. DataPagesAre (λ page. page.type.physical_type ≡ FixedLenByteArray size) (reader_pages c.in_ok-pages_of.field-0) in
    record { takes = subst P (sym (ap (λ (rule : Decimals). rule.size) c.new-decimals.ensures ∙ c.new.ensures)) c.in_ok-pages_of.ensures.typed }

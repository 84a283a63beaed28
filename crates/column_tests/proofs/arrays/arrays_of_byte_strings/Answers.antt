use Rattle.std.proofs.Common.{◌≡◌, ℕ, subst, sym}
use Rattle.page_decoding.specs.Column.{DataPagesAre}
use Rattle.parquet_meta.specs.declared.metadata.PhysicalType.TheVariants.{FixedLenByteArray}
use Rattle.parquet_page.specs.Reader.{reader_pages}
use Rattle.column_tests.proofs.arrays.arrays_of_byte_strings.Goals as goal

pub first_array-requires : goal.first_array-requires
first_array-requires g c =
    let P : ℕ → Type 0 = λ size. DataPagesAre (λ page. page.type.physical_type ≡ FixedLenByteArray size) (reader_pages c.in_ok-pages.pages) in
    record { takes = subst P (sym c.new-pairs.ensures) c.in_ok-pages.ensures.typed }

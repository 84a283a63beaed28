-- Byte strings of one size.
use Rattle.std.specs.Prelude.{◌≡◌, ℕ, ◌<◌, List, refl}
use Rattle.std.specs.Coded.{Coded, code_by, coded×, coded_list, coded_ℕ}
use Rattle.parquet_meta.specs.declared.metadata.PhysicalType.TheVariants.{FixedLenByteArray}
use Rattle.parquet_page.specs.Content.{Content}
use Rattle.page_decoding.specs.Column.{DataPagesAre}

pub record FixedItems : Type 0 where
  pub size : ℕ
  pub items : List (List ℕ)

-- how they are stored
abbrev pub fixed_items_code : Coded FixedItems
fixed_items_code =
    code_by (ℕ × List (List ℕ)) (coded× coded_ℕ (coded_list (coded_list coded_ℕ)))
    (λ f. (f.size, f.items)) (λ p. record { size = p.0; items = p.1 }) (λ _. refl)

-- pages of byte strings of a size, where this is above 0
abbrev pub AreOfSize : ℕ → List Content → Type 0
AreOfSize size pages = 0 < size → DataPagesAre (λ page. page.type.physical_type ≡ FixedLenByteArray size) pages

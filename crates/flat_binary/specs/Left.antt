-- What is left of a column that is read as a type, before its first row is read.
use Rattle.std.specs.Prelude.{ℕ, List, [], Option, None}
use Rattle.columns_core.specs.Causes.{Cause}
use Rattle.columns_core.specs.declared.data_type.DataType.{DataType}
use Rattle.parquet_meta.specs.declared.metadata.PhysicalType.{PhysicalType}
use Rattle.parquet_page.specs.Content.{Content}
use Rattle.flat_values.specs.ColumnLeft.{ColumnLeft, Decoding}
use Rattle.flat_values.specs.Conversion.{Conversion}
use Rattle.flat_binary.specs.Decoding.{column_decoding}

-- pages that are handed to a reader of columns
pub record Supply : Type 0 where
  pub pages : List Content
  pub causes : List Cause
  pub row_count : ℕ
  pub lent : ℕ

abbrev pub supply_of : {I : Type 0} → (I → List Content) → (I → List Cause) → (I → ℕ) → (I → ℕ) → I → Supply
supply_of to_come causes row_count lent_count pages = record {
  pages = to_come pages;
  causes = causes pages;
  row_count = row_count pages;
  lent = lent_count pages;
}

-- No row waits, and all pages are to come.
abbrev pub decoded_left : Decoding → DataType → Option ℕ → ℕ → Supply → ColumnLeft
decoded_left decoding data_type size num_rows supply = record {
  data_type = data_type;
  decoding = decoding;
  size = size;
  standing = record { waiting = []; remaining = num_rows; dictionary = None };
  pages = supply.pages;
  causes = supply.causes;
  row_count = supply.row_count;
  lent = supply.lent;
}

-- by a conversion of a stored type
abbrev pub converted_left : PhysicalType → DataType → Option ℕ → ℕ → Supply → Conversion → ColumnLeft
converted_left physical data_type size num_rows supply rule = decoded_left (column_decoding physical data_type rule) data_type size num_rows supply

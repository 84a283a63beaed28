-- What is left of a column that is read in arrays, by a decoder of its values.
use Rattle.std.specs.Prelude.{◌≡◌, ℕ, List, Option, Result, refl}
use Rattle.std.specs.Coded.{Coded, code_by, coded×}
use Rattle.columns_core.specs.Causes.{Cause}
use Rattle.columns_core.specs.declared.cell.Cell.{Cell}
use Rattle.columns_core.specs.declared.data_type.DataType.{DataType}
use Rattle.columns_core.specs.declared.error.Error.{Error}
use Rattle.parquet_meta.specs.declared.metadata.PhysicalType.{PhysicalType}
use Rattle.parquet_page.specs.Content.{Content}
use Rattle.page_decoding.specs.Chunks.{ChunksLeft, chunks_code, standing_of}
use Rattle.flat_values.specs.declared.flat_decoder.FlatDecoder.{FlatDecoder}
use Rattle.flat_values.specs.ColumnLeft.{ColumnLeft, Decoding, GivesArray}
use Rattle.flat_values.specs.Conversion.{Conversion}
use Rattle.flat_values.specs.Outcomes.{fitted_by, selected_outcomes}

-- the type of the arrays, and what is left of the column in chunks
pub record ArraysLeft (I V : Type 0) : Type 0 where
  pub data_type : DataType
  pub chunks : ChunksLeft I (FlatDecoder V)

abbrev flat_code : {V : Type 0} → Coded V → Coded (FlatDecoder V)
flat_code {V} values = code_by V values (λ decoder. decoder.values) (λ v. record { values = v }) (λ _. refl)

abbrev pub arrays_code : {I V : Type 0} → Coded I → Coded V → Coded DataType → Coded Cell → Coded (ArraysLeft I V)
arrays_code {I} {V} pages values types cell =
    code_by (DataType × ChunksLeft I (FlatDecoder V)) (coded× types (chunks_code pages (flat_code values) cell))
    (λ a. (a.data_type, a.chunks)) (λ p. record { data_type = p.0; chunks = p.1 }) (λ _. refl)

-- how a column of a type is decoded by a conversion, where the texts of an array have so many bytes at most
abbrev pub decoding_by : Option ℕ → Conversion → PhysicalType → Decoding
decoding_by most rule physical = record { entries = fitted_by most rule physical; outcomes = selected_outcomes rule; most_bytes = most }

module _ {I V : Type 0} (most : V → Option ℕ) (rule : V → Conversion) (physical : V → PhysicalType) (to_come : I → List Content) (causes : I → List Cause) (row_count lent_count : I → ℕ) where
  -- as what is left of any column
  abbrev pub flat_left : DataType → ChunksLeft I (FlatDecoder V) → ColumnLeft
  flat_left data_type chunks = record {
    data_type = data_type;
    decoding = decoding_by (most chunks.decoder.values) (rule chunks.decoder.values) (physical chunks.decoder.values);
    size = chunks.size;
    standing = standing_of chunks;
    pages = to_come chunks.pages;
    causes = causes chunks.pages;
    row_count = row_count chunks.pages;
    lent = lent_count chunks.pages;
  }

  -- an array of the column, over steps of its own, by the same decoder
  pub record GivesFlat {X : Type 0} (type_of : X → DataType) (shown : X → List Cell) (old : ArraysLeft I V) (result : Option (Result X Error)) (new : ArraysLeft I V) : Type 0 where
    pub given : GivesArray type_of shown (flat_left old.data_type old.chunks) result (flat_left new.data_type new.chunks)
    pub decoder : new.chunks.decoder ≡ old.chunks.decoder

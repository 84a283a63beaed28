-- What the statistics of a column tell by a rule for its values.
use Rattle.std.proofs.Common.{◌≡◌, [], ◌∷◌, refl, ap, ◌∙◌}
use Rattle.std.specs.Prelude.{Option, Some, None, option_map, Result, Ok, Err, IfOk}
use Rattle.std.specs.Option.{option_map_or}
use Rattle.columns_core.specs.Causes.{ExternalFormat}
use Rattle.columns_core.specs.declared.cell.Cell.{Cell}
use Rattle.columns_core.specs.declared.error.Error.{Error}
use Rattle.parquet_meta.specs.Indexes.{type_of}
use Rattle.parquet_meta.specs.TypedStatistics.{statistics_of}
use Rattle.parquet_meta.specs.declared.metadata.ColumnChunkMetaData.{ColumnChunkMetaData}
use Rattle.parquet_meta.specs.declared.metadata.Ends.{Ends}
use Rattle.parquet_meta.specs.declared.metadata.RawStatistics.{RawStatistics}
use Rattle.parquet_page.specs.Stored.{Stored}
use Rattle.column_ends.specs.Converted.{cell_ends, causes_of_ends, told_causes, told_cells, counts_alone, told_ends}
use Rattle.column_ends.specs.Rules.{value_conversion}
use Rattle.column_ends.specs.Told.{stored_ends}
use Rattle.column_ends.specs.declared.rules.BytesRule.TheVariants as bytes
use Rattle.column_ends.specs.declared.rules.FixedRule.TheVariants as fixed
use Rattle.column_ends.specs.declared.rules.Int32Rule.TheVariants as int32
use Rattle.column_ends.specs.declared.rules.Int64Rule.TheVariants as int64
use Rattle.column_ends.specs.declared.rules.Int96Rule.TheVariants as int96
use Rattle.column_ends.specs.declared.rules.ValueRule.{ValueRule}
use Rattle.column_ends.specs.declared.rules.ValueRule.TheVariants as values

-- what statistics tell, or nothing where there are none
abbrev pub ends_told : Option RawStatistics → Ends Stored
ends_told told = option_map_or stored_ends told (counts_alone (None, None))

values_told : (rule : ValueRule) (column : ColumnChunkMetaData) → told_ends (value_conversion rule) column ≡ option_map ends_told (statistics_of (type_of column) column.statistics_bytes)
values_told values.Truth column = refl
values_told (values.Int32 int32.Keep) column = refl
values_told (values.Int32 int32.LowByte) column = refl
values_told (values.Int32 int32.LowHalf) column = refl
values_told (values.Int32 int32.LowWord) column = refl
values_told (values.Int32 int32.LowByteSigned) column = refl
values_told (values.Int32 int32.LowHalfSigned) column = refl
values_told (values.Int32 int32.DaysToMillis) column = refl
values_told (values.Int64 int64.Keep) column = refl
values_told (values.Int64 int64.LowWord) column = refl
values_told (values.Int64 int64.Bits) column = refl
values_told (values.Int64 (int64.Rescale logical unit)) column = refl
values_told (values.Int96 (int96.InUnit unit)) column = refl
values_told (values.Int96 int96.Bits) column = refl
values_told (values.Bytes bytes.Keep) column = refl
values_told (values.Bytes bytes.Text) column = refl
values_told (values.Fixed size fixed.Keep) column = refl
values_told (values.Fixed size fixed.Decimal) column = refl
values_told (values.Fixed size fixed.Months) column = refl
values_told (values.Fixed size fixed.DaysAndMillis) column = refl

module _ (rule : ValueRule) (column : ColumnChunkMetaData) where
  module _ (told : Option RawStatistics) (stored : statistics_of (type_of column) column.statistics_bytes ≡ Some told) where
    pub cells-told : told_cells (value_conversion rule) column ≡ Some (cell_ends (value_conversion rule) (ends_told told))
    cells-told = ap (option_map (cell_ends (value_conversion rule))) (values_told rule column ∙ ap (option_map ends_told) stored)

    pub causes-told : told_causes (value_conversion rule) column ≡ causes_of_ends (type_of column) (value_conversion rule) (ends_told told)
    causes-told = ap (λ ends. option_map_or (causes_of_ends (type_of column) (value_conversion rule)) ends (ExternalFormat ∷ [])) (values_told rule column ∙ ap (option_map ends_told) stored)

    pub result-told : (result : Result (Ends Cell) Error) → IfOk result (λ ends. cell_ends (value_conversion rule) (ends_told told) ≡ ends) → IfOk result (λ ends. told_cells (value_conversion rule) column ≡ Some ends)
    result-told (Ok ends) is = cells-told ∙ ap Some is
    result-told (Err error) is = tt

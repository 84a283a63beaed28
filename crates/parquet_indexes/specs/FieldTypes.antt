-- What is told of the columns of a field, put together in the shape of its type.
use Rattle.std.specs.Prelude.{List, [], ◌∷◌, Option, Some, None, option_map}
use Rattle.columns_core.specs.declared.data_type.DataType.{DataType, fold-DataType}
use Rattle.columns_core.specs.declared.data_type.DataType.TheOpen.{Field-F}
use Rattle.parquet_base.specs.Reading.{◌>>=◌}
use Rattle.parquet_statistics.specs.LeafTypes.{Inside, Values, Entries, Items, Pairs, Fields, inside_at}
use Rattle.parquet_indexes.specs.declared.page_statistics.ColumnPageStatistics.{ColumnPageStatistics}
use Rattle.parquet_indexes.specs.declared.page_statistics.FieldPageStatistics.{FieldPageStatistics, Single, Multiple}

-- of the first columns, with the columns behind them
abbrev pub Arranged : Type 0
Arranged = List ColumnPageStatistics → Option (FieldPageStatistics × List ColumnPageStatistics)

abbrev pub one_column : Arranged
one_column [] = None
one_column (column ∷ columns) = Some (Single column, columns)

abbrev pub arranged_in_turn : List Arranged → List ColumnPageStatistics → Option (List FieldPageStatistics × List ColumnPageStatistics)
arranged_in_turn [] columns = Some ([], columns)
arranged_in_turn (field ∷ fields) columns = do
  first ← field columns
  others ← arranged_in_turn fields first.1
  Some (first.0 ∷ others.0, others.1)

abbrev pub of_fields : List FieldPageStatistics × List ColumnPageStatistics → FieldPageStatistics × List ColumnPageStatistics
of_fields found = (Multiple found.0, found.1)

-- A struct has statistics for each of its fields, a dictionary, a list and a map those of what is inside, all else those of one column.
abbrev pub arranged_in : Inside Arranged → Arranged
arranged_in Values columns = one_column columns
arranged_in (Entries entries) columns = entries columns
arranged_in (Items items) columns = items columns
arranged_in (Pairs pairs) columns = pairs columns
arranged_in (Fields fields) columns = option_map of_fields (arranged_in_turn fields columns)

unfoldable pub arranged : DataType → Arranged
arranged data_type = fold-DataType Arranged Arranged (λ layer. arranged_in (inside_at layer)) (λ (field : Field-F Arranged Arranged). field.data_type) data_type

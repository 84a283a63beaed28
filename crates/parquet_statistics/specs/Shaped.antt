-- Arrays in the shape of a type, made of the cells of its columns.
use Rattle.std.specs.Prelude.{List, [], ◌∷◌, Option, Some, None}
use Rattle.columns_core.specs.DictionaryType.{entry_type}
use Rattle.columns_core.specs.Nested.{map_type, field_types}
use Rattle.columns_core.specs.declared.cell.Cell.{Cell}
use Rattle.columns_core.specs.declared.data_type.DataType.{DataType, fold-DataType}
use Rattle.columns_core.specs.declared.data_type.DataType.TheOpen.{Field-F}
use Rattle.parquet_base.specs.Reading.{◌>>=◌}
use Rattle.parquet_statistics.specs.BuiltTypes.{item_type}
use Rattle.parquet_statistics.specs.LeafTypes.{Inside, Values, Entries, Items, Pairs, Fields, inside_at}
use Rattle.parquet_statistics.specs.Made.{Made, freely_made, dictionary_made, list_made, map_made, struct_made}

-- an array of a type over the first columns, and the cells of the columns behind them; none where there are not so many
abbrev pub Shaped : Type 0
Shaped = DataType → List (List Cell) → Option (Made × List (List Cell))

abbrev pub values_shaped : Shaped
values_shaped data_type [] = None
values_shaped data_type (cells ∷ columns) = Some (freely_made data_type cells, columns)

-- what is made of the type inside, and what is made of that
abbrev pub shaped_over : (DataType → Made → Made) → Option DataType → Shaped → Shaped
shaped_over around None inner data_type columns = None
shaped_over around (Some inside) inner data_type columns = do
  found ← inner inside columns
  Some (around data_type found.0, found.1)

-- each over what those before it left
abbrev pub shaped_in_turn : List Shaped → List DataType → List (List Cell) → Option (List Made × List (List Cell))
shaped_in_turn [] [] columns = Some ([], columns)
shaped_in_turn [] (data_type ∷ types) columns = None
shaped_in_turn (shape ∷ shapes) [] columns = None
shaped_in_turn (shape ∷ shapes) (data_type ∷ types) columns = do
  first ← shape data_type columns
  others ← shaped_in_turn shapes types first.1
  Some (first.0 ∷ others.0, others.1)

abbrev pub fields_shaped : List Shaped → Shaped
fields_shaped shapes data_type columns = do
  types ← field_types data_type
  found ← shaped_in_turn shapes types columns
  Some (struct_made data_type found.0, found.1)

abbrev pub shaped_in : Inside Shaped → Shaped
shaped_in Values data_type columns = values_shaped data_type columns
shaped_in (Entries inner) data_type columns = shaped_over dictionary_made (entry_type data_type) inner data_type columns
shaped_in (Items inner) data_type columns = shaped_over list_made (item_type data_type) inner data_type columns
shaped_in (Pairs inner) data_type columns = shaped_over map_made (map_type data_type) inner data_type columns
shaped_in (Fields inner) data_type columns = fields_shaped inner data_type columns

-- A dictionary has entries, a list or a map has items, and a struct has fields, over the columns of the types inside; all else takes one column.
unfoldable pub shaped : Shaped
shaped data_type columns =
    fold-DataType Shaped Shaped (λ layer. shaped_in (inside_at layer)) (λ (field : Field-F Shaped Shaped). field.data_type) data_type data_type columns

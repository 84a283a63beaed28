-- What is made over columns, by what lies inside a type.
use Rattle.std.proofs.Common.{◌≡◌, refl, ◌∙◌, ap, List, [], ◌∷◌, map, Option, Some}
use Rattle.columns_core.specs.DictionaryType.{entry_type}
use Rattle.columns_core.specs.Nested.{field_types, map_type}
use Rattle.columns_core.specs.declared.cell.Cell.{Cell}
use Rattle.columns_core.specs.declared.data_type.DataType.{DataType}
use Rattle.parquet_base.specs.Reading.{◌>>=◌}
use Rattle.parquet_statistics.specs.BuiltTypes.{item_type}
use Rattle.parquet_statistics.specs.LeafTypes.{Inside, Values, Entries, Items, Pairs, Fields}
use Rattle.parquet_statistics.specs.Made.{Made, dictionary_made, list_made, map_made, struct_made}
use Rattle.parquet_statistics.specs.Parts.{shaped_each}
use Rattle.parquet_statistics.specs.Shaped.{shaped, shaped_in, shaped_in_turn, shaped_over, values_shaped}
use Rattle.parquet_statistics.proofs.LayerLemmas.{folded, folded_out, inside_of, map_inside}

-- the columns, and what is made of the first of them
abbrev pub Found : Type 0
Found = Option (Made × List (List Cell))

-- what is made around it
abbrev pub around : (Made → Made) → Found → Found
around make found = found >>= λ all. Some (make all.0, all.1)

abbrev pub around_all : (List Made → Made) → Option (List Made × List (List Cell)) → Found
around_all make found = found >>= λ all. Some (make all.0, all.1)

whole : (data_type : DataType) (columns : List (List Cell)) → shaped data_type columns ≡ shaped_in (map_inside (folded shaped_in) (inside_of data_type)) data_type columns
unfolding shaped
whole data_type columns = λ i. folded_out shaped_in data_type i data_type columns

each : (types : List DataType) (columns : List (List Cell)) → shaped_in_turn (map (folded shaped_in) types) types columns ≡ shaped_each types columns
unfolding shaped
each [] columns = refl
each (data_type ∷ types) columns = λ i. shaped data_type columns >>= λ first. each types first.1 i >>= λ others. Some (first.0 ∷ others.0, others.1)

module _ (data_type : DataType) (columns : List (List Cell)) where
  abbrev over : Inside DataType → Found
  over inside = shaped_in (map_inside (folded shaped_in) inside) data_type columns

  pub shaped_values : inside_of data_type ≡ Values → shaped data_type columns ≡ values_shaped data_type columns
  shaped_values is = whole data_type columns ∙ ap over is

  pub shaped_entries : (value : DataType) → inside_of data_type ≡ Entries value → entry_type data_type ≡ Some value → shaped data_type columns ≡ around (dictionary_made data_type) (shaped value columns)
  unfolding shaped
  shaped_entries value is named =
      whole data_type columns ∙ ap over is
      ∙ ap (λ found. shaped_over dictionary_made found (folded shaped_in value) data_type columns) named

  pub shaped_items : (item : DataType) → inside_of data_type ≡ Items item → item_type data_type ≡ Some item → shaped data_type columns ≡ around (list_made data_type) (shaped item columns)
  unfolding shaped
  shaped_items item is named = whole data_type columns ∙ ap over is ∙ ap (λ found. shaped_over list_made found (folded shaped_in item) data_type columns) named

  pub shaped_pairs : (pair : DataType) → inside_of data_type ≡ Pairs pair → map_type data_type ≡ Some pair → shaped data_type columns ≡ around (map_made data_type) (shaped pair columns)
  unfolding shaped
  shaped_pairs pair is named = whole data_type columns ∙ ap over is ∙ ap (λ found. shaped_over map_made found (folded shaped_in pair) data_type columns) named

  pub shaped_fields : (types : List DataType) → inside_of data_type ≡ Fields types → field_types data_type ≡ Some types → shaped data_type columns ≡ around_all (struct_made data_type) (shaped_each types columns)
  shaped_fields types is named =
      whole data_type columns ∙ ap over is
      ∙ ap (λ found. found >>= λ names. around_all (struct_made data_type) (shaped_in_turn (map (folded shaped_in) types) names columns)) named
      ∙ ap (around_all (struct_made data_type)) (each types columns)

-- What the places of a page give, and what its items are.
use Rattle.std.specs.Prelude.{◌≡◌, List, [], length, map, is_some, IsSome, Option, Some, None, option_map, Ok}
use Rattle.columns_core.specs.declared.cell.Cell.{Cell}
use Rattle.columns_core.specs.declared.data_type.DataType.{DataType}
use Rattle.parquet_meta.specs.declared.metadata.PhysicalType.{PhysicalType}
use Rattle.parquet_page.specs.Content.{DataContent, DictContent}
use Rattle.parquet_page.specs.Opened.{page_causes}
use Rattle.flat_values.specs.Conversion.{Conversion}
use Rattle.flat_values.specs.Items.{page_items}
use Rattle.flat_values.specs.Outcomes.{dictionary_cells, outcome_of, place_outcomes}
use Rattle.flat_values.specs.Pairs.{conversion}

-- the entries of a dictionary, converted, or none where there is no dictionary
abbrev pub AreEntriesOf : Conversion → PhysicalType → Option DictContent → Option (List Cell) → Type 0
AreEntriesOf rule type None None = Unit {0}
AreEntriesOf rule type (Some page) (Some cells) = dictionary_cells rule type page ≡ Ok cells
AreEntriesOf rule type _ _ = ⊥

-- Where nothing is wrong with a page as a whole, what its places give is defined, and each place gives what its item is.
abbrev pub PlacesGiveItems : Type 0
PlacesGiveItems =
    (data_type : DataType) (rule : Conversion) (dictionary : Option DictContent) (entries : Option (List Cell)) (page : DataContent) →
    conversion page.type data_type ≡ Some rule → AreEntriesOf rule page.type.physical_type dictionary entries →
    page_causes None (is_some entries) (option_map length entries) page ≡ [] →
    IsSome (place_outcomes rule entries page) × (place_outcomes rule entries page ≡ option_map (map outcome_of) (page_items data_type dictionary page))

-- What is wrong with a column index by the rule of its column.
use Rattle.std.proofs.Common.{◌≡◌, ℕ, ◌+◌, true, false, List, [], ◌∷◌, ◌++◌, map, refl, sym, ◌∙◌, ap}
use Rattle.std.specs.Prelude.{Contains, Option, Some, None, flat_map, option_map}
use Rattle.std.specs.List.{enumerate_from}
use Rattle.std.specs.Option.{option_map_or}
use Rattle.std.proofs.lemmas.List.Elements.{Contains-append_right}
use Rattle.columns_core.specs.Causes.{NotYetImplemented, Overflow}
use Rattle.columns_core.specs.declared.cell.Cell.{Cell}
use Rattle.columns_core.specs.declared.data_type.DataType.{DataType}
use Rattle.parquet_meta.specs.declared.metadata.Index.{Index}
use Rattle.parquet_meta.specs.declared.metadata.PageIndex.{PageIndex}
use Rattle.parquet_meta.specs.declared.metadata.PhysicalType.{PhysicalType}
use Rattle.parquet_meta.specs.declared.metadata.PrimitiveType.{PrimitiveType}
use Rattle.parquet_page.specs.Stored.{Stored}
use Rattle.column_ends.specs.ByRule.{all_causes_by, each_by, each_causes_by}
use Rattle.column_ends.specs.Converted.{causes_of_index, causes_of_page, cell_page, each_made, high_of_page, index_rule, low_of_page, page_array_causes}
use Rattle.column_ends.specs.Counted.{bytes_of_ends, fit}
use Rattle.column_ends.specs.Rules.{physical_of, value_conversion}
use Rattle.column_ends.specs.Told.{stored_pages}
use Rattle.column_ends.specs.declared.rules.ValueRule.{ValueRule}
use Rattle.column_ends.proofs.CountLemmas.{fit-ok, unfit-told}

pub index_causes : (stored : PrimitiveType) (data_type : DataType) (index : Index) (rule : ValueRule) → Some (value_conversion rule) ≡ index_rule stored data_type → physical_of rule ≡ stored.physical_type
    → causes_of_index stored data_type index ≡ all_causes_by rule data_type (stored_pages index)
index_causes stored data_type index rule is same =
    let told = stored_pages index in
    ap (λ o. option_map_or (λ r. flat_map (causes_of_page stored.physical_type r) told ++ page_array_causes data_type (map (cell_page r) told)) o (NotYetImplemented ∷ [])) (sym is)
    ∙ ap (λ (type : PhysicalType). flat_map (causes_of_page type (value_conversion rule)) told ++ page_array_causes data_type (each_by rule told)) (sym same)

-- ---- whether the ends fit, once their bytes are counted

module _ (rule : ValueRule) (data_type : DataType) (told : List (PageIndex Stored)) where
  abbrev lows : List (Option Cell)
  lows = map low_of_page (each_by rule told)

  abbrev highs : List (Option Cell)
  highs = map high_of_page (each_by rule told)

  pub all_fit : (bytes : ℕ × ℕ) → bytes ≡ bytes_of_ends lows highs → each_causes_by rule told ≡ [] → fit data_type bytes ≡ true → all_causes_by rule data_type told ≡ []
  all_fit bytes counted none fits =
      ap (λ causes. causes ++ page_array_causes data_type (each_by rule told)) none ∙ fit-ok data_type lows highs (ap (fit data_type) (sym counted) ∙ fits)

  pub not_fit : (bytes : ℕ × ℕ) → bytes ≡ bytes_of_ends lows highs → fit data_type bytes ≡ false → Contains (all_causes_by rule data_type told) Overflow
  not_fit bytes counted fits =
      Contains-append_right (each_causes_by rule told) (page_array_causes data_type (each_by rule told)) Overflow
      (unfit-told data_type lows highs (ap (fit data_type) (sym counted) ∙ fits))

-- ---- what is made of pages

-- the pages themselves
themselves : {X : Type 0} (n : ℕ) (xs : List X) → map (λ (told : ℕ × X). told.1) (enumerate_from n xs) ≡ xs
themselves n [] = refl
themselves n (x ∷ xs) = ap (λ rest. x ∷ rest) (themselves (n + 1) xs)

pub each_itself : (cells : Option (List (PageIndex Cell))) (items : List (PageIndex Cell)) → option_map (each_made (λ told. told.1)) cells ≡ Some items → cells ≡ Some items
each_itself None items e = absurd cc
each_itself (Some cells) items e = sym (ap Some (themselves 0 cells)) ∙ e

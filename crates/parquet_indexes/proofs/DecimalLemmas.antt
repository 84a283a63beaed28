-- Decimals in fixed bytes are values of their type.
use Rattle.std.proofs.Common.{◌≡◌, refl, ◌∙◌, ap, ℕ, Bool, true, false, List, [], ◌∷◌, ◌++◌, length, map}
use Rattle.std.specs.Prelude.{Option, Some, None, flat_map, is_some, ◌==◌, option_map, if◌then◌else◌}
use Rattle.std.specs.List.{AllByRecursion}
use Rattle.std.proofs.lemmas.Bool.{eq-eqb}
use Rattle.parquet_base.specs.Reading.{given}
use Rattle.columns_core.specs.Causes.{ExternalFormat, unless}
use Rattle.columns_core.specs.Types.{Layer}
use Rattle.columns_core.specs.declared.data_type.DataType.{DataType, Decimal, out-DataType, out-roll-DataType}
use Rattle.columns_core.specs.declared.data_type.DataType.TheOpen.{DataType-F}
use Rattle.columns_core.specs.declared.data_type.DataType.TheVariants.{rolls-Decimal}
use denote.Hole.Carrier
use Rattle.columns_core.specs.declared.data_type.DataType.TheViews
use Rattle.parquet_meta.specs.TypedStatistics.{known_count}
use Rattle.parquet_meta.specs.declared.metadata.PageIndex.{PageIndex}
use Rattle.parquet_meta.specs.declared.metadata.PhysicalType.TheVariants as physical
use Rattle.parquet_page.specs.Stored.{Octets}
use Rattle.flat_values.specs.Conversion.{BigEndian}
use Rattle.flat_values.specs.Pairs.{page_from_physical}
use Rattle.column_ends.specs.Converted.{cell_page, end_cell}
use Rattle.column_ends.specs.Laws.{AreEndsOf, IsEndOf}
use Rattle.column_ends.specs.Rules.{takes_size}
use Rattle.column_ends.specs.Told.{stored_page}
use Rattle.column_ends.specs.declared.rules.FixedRule.TheVariants as fixed
use Rattle.parquet_indexes.specs.Told.{decimal_causes, decimal_page_causes}
use Rattle.parquet_indexes.proofs.FlatTypes.{both_empty, read_end}

passes : (test : Bool) → unless test ExternalFormat ≡ [] → test ≡ true
passes true e = refl
passes false e = absurd cc

fine_if : (test : Bool) → test ≡ true → (if test then [] else ExternalFormat ∷ []) ≡ []
fine_if true e = refl
fine_if false e = absurd cc

decimal_out : (precision scale : ℕ) → out-DataType (Decimal precision scale) ≡ DataType-F.Decimal precision scale
unfolding Rattle.columns_core.specs.declared.data_type.DataType.TheViews.roll-DataType out-DataType denote.Hole.Carrier.roll
decimal_out precision scale = ap out-DataType (rolls-Decimal precision scale) ∙ out-roll-DataType (DataType-F.Decimal precision scale)

module _ (precision scale : ℕ) where
  -- an end as one of a column of its own width
  decimal_end : (end : Option (List ℕ)) → decimal_causes end ≡ [] → IsEndOf (Decimal precision scale) (end_cell BigEndian (option_map Octets end))
  decimal_end None none = tt
  decimal_end (Some bytes) none =
      let type = physical.FixedLenByteArray (length bytes) in
      let fits = passes (takes_size fixed.Decimal (length bytes)) none in
      read_end type None (Decimal precision scale) BigEndian
      (ap (λ (layer : Layer). page_from_physical type None layer) (decimal_out precision scale) ∙ ap (λ test. given test BigEndian) fits)
      (Some (Octets bytes)) (fine_if (length bytes == length bytes) (eq-eqb (length bytes) (length bytes) refl))

  pub decimal_pages_typed : (pages : List (PageIndex (List ℕ))) → flat_map decimal_page_causes pages ≡ [] → AllByRecursion (AreEndsOf (Decimal precision scale)) (map (cell_page BigEndian) (map (stored_page Octets) pages))
  decimal_pages_typed [] none = tt
  decimal_pages_typed (page ∷ pages) none =
      let parts = both_empty (decimal_page_causes page) (flat_map decimal_page_causes pages) none in
      let counted = unless (is_some (known_count page.null_count)) ExternalFormat in
      let outer = both_empty (counted ++ decimal_causes page.min) (decimal_causes page.max) parts.0 in
      ((decimal_end page.min (both_empty counted (decimal_causes page.min) outer.0).1, decimal_end page.max outer.1), decimal_pages_typed pages parts.1)

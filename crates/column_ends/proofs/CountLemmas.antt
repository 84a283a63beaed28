-- The bytes of ends, counted one after another, and whether they fit.
use Rattle.std.proofs.Common.{rules, ◌≡◌, ℕ, ◌<◌, ◌^◌, ◌-◌, Bool, true, false, List, [], ◌∷◌, ◌++◌, refl, sym, ◌∙◌, ap₂, arith}
use Rattle.std.specs.Prelude.{◌↔◌, Option, Contains, ◌&&◌, sum_by, nat_le}
use Rattle.std.proofs.lemmas.Grind.{common_steps}
use Rattle.columns_core.specs.Causes.{Cause, Overflow, unless}
use Rattle.columns_core.specs.declared.cell.Cell.{Cell}
use Rattle.columns_core.specs.declared.data_type.DataType.{DataType, out-DataType}
use Rattle.columns_core.specs.declared.data_type.DataType.TheOpen.{DataType-F}
use Rattle.columns_core.specs.Types.{Layer, value_type}
use Rattle.page_decoding.specs.Bytes.{fits_most}
use Rattle.flat_values.specs.MostBytes.{most_bytes, most_bytes_at}
use Rattle.column_ends.specs.Converted.{array_causes, bytes_of_one_end}
use Rattle.column_ends.specs.Counted.{capped, bytes_of_ends, with_one_more, fit}

-- one more end on each side
pub counted-more : (lows highs : List (Option Cell)) (low high : Option Cell) → with_one_more (bytes_of_ends lows highs) low high ≡ bytes_of_ends (lows ++ low ∷ []) (highs ++ high ∷ [])
counted-more lows highs low high = grind (arith, common_steps)

-- ---- a count that is cut fits where the whole does

cut_fits : (most count : ℕ) → most < 2 ^ 64 - 1 → nat_le (capped count) most ≡ nat_le count most
cut_fits most count small = grind arith

fits_at : (layer : Layer) (count : ℕ) → fits_most (most_bytes_at layer) (capped count) ≡ fits_most (most_bytes_at layer) count
fits_at DataType-F.Utf8 count = cut_fits (2 ^ 31 - 1) count (omega arith)
fits_at DataType-F.Binary count = cut_fits (2 ^ 31 - 1) count (omega arith)
fits_at DataType-F.LargeUtf8 count = cut_fits (2 ^ 63 - 1) count (omega arith)
fits_at DataType-F.LargeBinary count = cut_fits (2 ^ 63 - 1) count (omega arith)
fits_at _ count = refl

-- each side, tested
sides : (low high : Bool) → (low && high ≡ true → unless low Overflow ++ unless high Overflow ≡ []) × (low && high ≡ false → Contains (unless low Overflow ++ unless high Overflow) Overflow)
sides true true = (λ _. refl, λ e. absurd cc)
sides true false = (λ e. absurd cc, λ _. search rules)
sides false true = (λ e. absurd cc, λ _. search rules)
sides false false = (λ e. absurd cc, λ _. search rules)

not_contained : {causes : List Cause} → Contains causes Overflow → causes ≡ [] → ⊥
not_contained {causes = causes} told none = grind (arith, told, none)

module _ (data_type : DataType) (lows highs : List (Option Cell)) where
  abbrev values : DataType
  values = value_type data_type

  -- The test is that each side fits an array of its own.
  fit-sides : fit data_type (bytes_of_ends lows highs) ≡ (fits_most (most_bytes values) (sum_by bytes_of_one_end lows) && fits_most (most_bytes values) (sum_by bytes_of_one_end highs))
  fit-sides = ap₂ (λ low high. low && high) (fits_at (out-DataType values) (sum_by bytes_of_one_end lows)) (fits_at (out-DataType values) (sum_by bytes_of_one_end highs))

  pub fit-ok : fit data_type (bytes_of_ends lows highs) ≡ true → array_causes data_type lows ++ array_causes data_type highs ≡ []
  fit-ok e = (sides _ _).0 (sym fit-sides ∙ e)

  pub unfit-told : fit data_type (bytes_of_ends lows highs) ≡ false → Contains (array_causes data_type lows ++ array_causes data_type highs) Overflow
  unfit-told e = (sides _ _).1 (sym fit-sides ∙ e)

  fit-if : (b : Bool) → fit data_type (bytes_of_ends lows highs) ≡ b → array_causes data_type lows ++ array_causes data_type highs ≡ [] → fit data_type (bytes_of_ends lows highs) ≡ true
  fit-if true e none = e
  fit-if false e none = absurd (not_contained (unfit-told e) none)

  pub fit-exact : fit data_type (bytes_of_ends lows highs) ≡ true ↔ array_causes data_type lows ++ array_causes data_type highs ≡ []
  fit-exact = (fit-ok, fit-if (fit data_type (bytes_of_ends lows highs)) refl)

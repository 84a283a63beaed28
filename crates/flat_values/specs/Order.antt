-- Times keep their order.
use Rattle.std.specs.Prelude.{◌≡◌, ℕ, ℤ, int_le, true, Option}
use Rattle.columns_core.specs.declared.cell.Cell.{Int}
use Rattle.columns_core.specs.declared.data_type.TimeUnit.{TimeUnit}
use Rattle.parquet_meta.specs.declared.metadata.PrimitiveLogicalType.{PrimitiveLogicalType}
use Rattle.parquet_page.specs.Stored.{Number, Words}
use Rattle.flat_values.specs.Conversion.{Value, convert}
use Rattle.flat_values.specs.Pairs.{rescale, since_1970}
use Rattle.flat_values.specs.Units.{nanoseconds_of, unit_factor}

-- Of two timestamps that have values in a unit, the later one has no earlier value.
abbrev pub KeepsOrder : Type 0
KeepsOrder =
    (stored : Option PrimitiveLogicalType) (unit : TimeUnit) (a b x y : ℤ) → int_le a b ≡ true →
    convert (rescale (unit_factor stored unit)) (Number a) ≡ Value (Int x) → convert (rescale (unit_factor stored unit)) (Number b) ≡ Value (Int y) → int_le x y ≡ true

-- likewise of two times of older files, each in two words of nanoseconds and a day
abbrev pub KeepsOrderOfWords : Type 0
KeepsOrderOfWords =
    (unit : TimeUnit) (low high day low_b high_b day_b : ℕ) (x y : ℤ) → int_le (nanoseconds_of low high day) (nanoseconds_of low_b high_b day_b) ≡ true →
    convert (since_1970 unit) (Words low high day) ≡ Value (Int x) → convert (since_1970 unit) (Words low_b high_b day_b) ≡ Value (Int y) → int_le x y ≡ true

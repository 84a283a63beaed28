-- Times in another unit.
use Rattle.std.specs.Prelude.{ℤ, Option}
use Rattle.columns_core.specs.declared.data_type.TimeUnit.{TimeUnit}
use Rattle.parquet_meta.specs.declared.metadata.PrimitiveLogicalType.{PrimitiveLogicalType}
use Rattle.flat_values.specs.Conversion.{scaled}
use Rattle.flat_values.specs.Units.{unit_factor}

-- a time of a column in a unit: a coarser one is multiplied, a finer one divided toward zero, and one without a unit is taken as it is
abbrev pub time_in : Option PrimitiveLogicalType → TimeUnit → ℤ → ℤ
time_in logical unit time = let factor = unit_factor logical unit in scaled factor.0 factor.1 time

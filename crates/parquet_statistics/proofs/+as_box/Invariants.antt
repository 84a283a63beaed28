use Rattle.std.proofs.Common.{◌≡◌, map}
use Rattle.parquet_statistics.specs.Made.{made_array, made_by}
use Rattle.parquet_statistics.proofs.+as_box.Given as goal

-- the arrays so far are those that the builders so far make
abbrev pub invariant-as_box::arrays_of-loop-builder : goal.invariant-as_box::arrays_of-loop-builder
invariant-as_box::arrays_of-loop-builder l = map made_by l.yielded ≡ map made_array l.arrays.items

use Rattle.std.proofs.Common.{◌≡◌, drop, map}
use Rattle.parquet_statistics.specs.Deserialized.{side_causes_of_columns}
use Rattle.parquet_statistics.proofs.told.check_bytes.Given as goal

-- nothing is wrong so far
abbrev pub invariant-loop-i : goal.invariant-loop-i
invariant-loop-i l =
    side_causes_of_columns (map (λ t. t.now) l.types) (map (λ column. column.items) l.told)
    ≡ side_causes_of_columns (map (λ t. t.now) (drop l.i l.types)) (map (λ column. column.items) (drop l.i l.told))
